use Rattle.std.proofs.Common.{rules}
use Rattle.run_report.proofs.InParts.{behind_piece}
use Rattle.run_report.proofs.parts.write_piece.Goals as goal

pub returns : goal.returns
returns c =
    behind_piece _ c.in_ok-lines.lines.items _ _ _ _ c.in_ok-lines.ensures.same c.in_ok-lines.ensures.in_order (search rules) (search rules)
    (search rules) (search rules)
