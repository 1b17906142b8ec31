use Rattle.std.proofs.Common.{rules}
use Rattle.run_report.specs.Summary.{summary}
use Rattle.run_report.proofs.counts.summary.Goals as goal

pub returns : goal.returns
unfolding summary
returns c = search rules
