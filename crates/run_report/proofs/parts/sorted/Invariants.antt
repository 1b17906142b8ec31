use Rattle.std.proofs.Common.{◌≡◌, take}
use Rattle.run_report.specs.InOrder.{lines_at, lines_of}
use Rattle.run_report.proofs.parts.sorted.Given as goal

abbrev pub invariant-loop-stretch : goal.invariant-loop-stretch
invariant-loop-stretch l = lines_at l.lines.items ≡ lines_of (take l.stretch-index l.stretches)
