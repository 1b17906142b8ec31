use Rattle.std.proofs.Common.{◌≡◌, take, count_by}
use Rattle.run_report.specs.Summary.{is_no}
use Rattle.run_report.proofs.counts.count_no.Given as goal

abbrev pub invariant-loop-line : goal.invariant-loop-line
invariant-loop-line l = l.count ≡ count_by is_no (take l.line-index l.lines)
