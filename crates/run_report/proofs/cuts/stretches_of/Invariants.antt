use Rattle.std.proofs.Common.{◌≡◌, ◌++◌, length}
use Rattle.run_report.specs.InOrder.{lines_of}
use Rattle.run_report.proofs.cuts.stretches_of.Given as goal

abbrev pub invariant-loop-rest : goal.invariant-loop-rest
invariant-loop-rest l = lines_of l.stretches.items ++ l.rest ≡ l.lines

abbrev pub decreases-loop-rest : goal.decreases-loop-rest
decreases-loop-rest l = length l.rest
