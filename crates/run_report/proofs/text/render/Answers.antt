use Rattle.std.proofs.Common.{rules, append_assoc}
use Rattle.run_report.specs.Text.{text_of_run}
use Rattle.run_report.proofs.text.render.Goals as goal

pub returns : goal.returns
unfolding text_of_run
returns c = search (rules, append_assoc)
