use Rattle.std.proofs.Common.{rules, arith, refl}
use Rattle.script_parser.proofs.PlainLines.{sets_key}
use Rattle.script_parser.proofs.plain.plain_sets_key.Goals as goal

pub returns : goal.returns
returns c =
    sets_key c.args.bytes.now _ c.in_ok-first.first (search (rules, arith)) (grind arith) (search rules) refl
    c.in_ok-second.second c.in_ok-second.key c.in_ok-second.ensures
