use Rattle.std.proofs.Common.{rules, Bor}
use Rattle.std.proofs.lemmas.List.Sorted.{answers_always}
use Rattle.run_report.specs.declared.line.Line.{Line}
use Rattle.run_report.specs.Order.{order_key}
use Rattle.run_report.proofs.InParts.{ordered_at, sorted_same}
use Rattle.run_report.proofs.parts.sorted.Goals as goal

pub returns-clause-same : goal.returns-clause-same
returns-clause-same c =
    sorted_same c.args.stretches.now c.loop-stretch.stretch-index c.loop-stretch.lines.items c.sort_by_key.new.self.items c.loop-stretch-test.false
    c.loop-stretch.invariant c.sort_by_key.ensures.permutation

-- each call gives the key of its line
pub returns-clause-in_order : goal.returns-clause-in_order
returns-clause-in_order c =
    ordered_at c.sort_by_key.new.self.items
    (c.in_ok-sort_by_key.ensures.sorted (λ (b : Bor Line). order_key b.now) (answers_always _ _ _ (λ f a r g called. search rules)))
