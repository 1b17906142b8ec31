use Rattle.std.proofs.Common.{◌≡◌, take, count_by}
use Rattle.run_report.specs.Summary.{is_worn}
use Rattle.run_report.proofs.counts.count_worn.Given as goal

abbrev pub invariant-loop-line : goal.invariant-loop-line
invariant-loop-line l = l.count ≡ count_by is_worn (take l.line-index l.lines)
