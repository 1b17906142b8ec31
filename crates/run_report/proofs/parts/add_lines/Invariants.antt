use Rattle.std.proofs.Common.{◌≡◌, ◌++◌, take}
use Rattle.run_report.specs.InOrder.{lines_at}
use Rattle.run_report.proofs.parts.add_lines.Given as goal

abbrev pub invariant-loop-line : goal.invariant-loop-line
invariant-loop-line l = lines_at l.all.items ≡ lines_at l.fn.all.items ++ take l.line-index l.lines
