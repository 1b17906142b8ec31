use Rattle.std.proofs.Common.{rules}
use Rattle.run_report.specs.InOrder.{lines_of}
use Rattle.run_report.proofs.InParts.{behind_both}
use Rattle.run_report.proofs.parts.+write_pieces.Goals as goal

pub returns : goal.returns
returns t c =
    behind_both _ (lines_of c.in_ok-fronts.fronts.items) (lines_of c.in_ok-fronts.backs.items) _ _ _ _ _ _ _ c.in_ok-fronts.ensures
    (rw c.deref.ensures.value at c.in_ok-first.ensures) (rw c.deref-2.ensures.value at c.in_ok-next.ensures) (search rules)
