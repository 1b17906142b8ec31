use Rattle.std.proofs.Common.{arith}
use Rattle.script_parser.proofs.PlainLines.{three_before}
use Rattle.script_parser.proofs.plain.split_verb.Goals as goal

pub returns-in-32 : goal.returns-in-32
returns-in-32 c = three_before c.args.line.now (grind arith) (grind arith)
