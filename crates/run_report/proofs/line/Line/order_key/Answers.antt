use Rattle.std.proofs.Common.{rules}
use Rattle.run_report.proofs.line.Line.order_key.Goals as goal

pub returns : goal.returns
returns c = search rules
