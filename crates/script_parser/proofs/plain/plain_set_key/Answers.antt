use Rattle.std.proofs.Common.{rules, arith, sym, ◌∙◌, refl}
use Rattle.script_parser.proofs.PlainLines.{set_key}
use Rattle.script_parser.proofs.plain.plain_set_key.Goals as goal

pub returns : goal.returns
returns c =
    set_key c.args.bytes.now _ c.in_ok-name.name (search (rules, arith)) (grind arith) (search rules) refl
    c.in_ok-key.key (sym c.read_key.ensures ∙ search rules)
