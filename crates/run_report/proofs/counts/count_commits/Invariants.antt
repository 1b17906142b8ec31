use Rattle.std.proofs.Common.{◌≡◌, take, count_by}
use Rattle.run_report.specs.Summary.{is_made}
use Rattle.run_report.proofs.counts.count_commits.Given as goal

abbrev pub invariant-loop-line : goal.invariant-loop-line
invariant-loop-line l = l.count ≡ count_by is_made (take l.line-index l.lines)
