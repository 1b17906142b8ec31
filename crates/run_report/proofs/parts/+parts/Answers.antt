use Rattle.std.proofs.lemmas.Result.{IfOk-at_ok, IfOk-weaker}
use Rattle.run_report.specs.declared.parts.Part.{Part}
use Rattle.run_report.specs.InOrder.{IsPart, lines_of}
use Rattle.run_report.proofs.InParts.{joined_parts}
use Rattle.run_report.proofs.parts.+parts.Goals as goal

pub returns : goal.returns
returns g t c =
    IfOk-weaker c.both.result _ _ (λ (part : Part) j.
    joined_parts (lines_of c.args.stretches.items) (lines_of c.in_ok-fronts.fronts.items) (lines_of c.in_ok-fronts.backs.items)
    c.in_ok-front.front c.in_ok-behind.behind part (rw c.deref-3.ensures.value at c.in_ok-fronts.ensures)
    (IfOk-at_ok (λ (p : Part). IsPart (lines_of c.in_ok-fronts.fronts.items) p.text.items p.first p.last) c.in_ok-front.was c.join-behind.ensures.second)
    (IfOk-at_ok (λ (p : Part). IsPart (lines_of c.in_ok-fronts.backs.items) p.text.items p.first p.last) c.in_ok-behind.was c.join-behind.ensures.first)
    j) c.both.ensures
