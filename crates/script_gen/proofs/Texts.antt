-- What the text of a generated script is: a script of its commands, and a short one.
use Rattle.std.proofs.Common.{◌≡◌, ℕ, ◌<◌, ◌≤◌, List, length, Ok, ap, sym, ◌∙◌, arith}
use Rattle.set_model.specs.declared.commands.Command.{Command}
use Rattle.script_parser.specs.Grammar.{parsed}
use Rattle.script_parser.specs.GrammarLaws.{script_text}
use Rattle.script_parser.proofs.Texts.{commands_back}
use Rattle.script_gen.specs.declared.script.TheConstants.{COMMANDS}
use Rattle.script_gen.specs.Script.{script}
use Rattle.script_gen.proofs.Generated.{script_generated, may_say_all}
use Rattle.script_gen.proofs.Lengths.{text_short}

counted : (number seat : ℕ) (commands : List Command) → commands ≡ script number seat → length commands ≡ COMMANDS → length (script number seat) ≡ 2000
counted number seat commands drawn count = ap length (sym drawn) ∙ count

pub reads_back : (number seat : ℕ) (commands : List Command) (text : List ℕ) → seat < 4 → commands ≡ script number seat → length commands ≡ COMMANDS
    → text ≡ script_text (script number seat) → parsed text ≡ Ok (script number seat)
reads_back number seat commands text known drawn count told =
    let all = counted number seat commands drawn count in
    ap parsed told ∙ commands_back (script number seat) (may_say_all seat (script number seat) (script_generated number seat known)) (omega (arith, all))

pub is_short : (number seat : ℕ) (commands : List Command) (text : List ℕ) → seat < 4 → commands ≡ script number seat → length commands ≡ COMMANDS
    → text ≡ script_text (script number seat) → length text ≤ 30000
is_short number seat commands text known drawn count told =
    let all = counted number seat commands drawn count in
    let short = text_short seat (script number seat) (script_generated number seat known) in
    omega (arith, all, short, ap length told)
