use Rattle.std.proofs.Common.{◌++◌, take}
use Rattle.std.specs.List.Sorted.{IsPermutation}
use Rattle.run_report.specs.InOrder.{lines_of}
use Rattle.run_report.proofs.cuts.cut.Given as goal

abbrev pub invariant-loop-stretch : goal.invariant-loop-stretch
invariant-loop-stretch l = IsPermutation (lines_of (take l.stretch-index l.stretches)) (lines_of l.fronts.items ++ lines_of l.backs.items)
