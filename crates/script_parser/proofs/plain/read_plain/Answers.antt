use Rattle.std.proofs.Common.{rules, sym, ◌∙◌}
use Rattle.script_parser.proofs.PlainLines.{command_is}
use Rattle.script_parser.proofs.plain.read_plain.Goals as goal

pub returns : goal.returns
returns c =
    command_is c.args.format.now c.in_ok-word.word.now c.args.line.now c.in_ok-word.rest.now c.in_ok-verb.verb (search rules)
    (sym c.read_verb.ensures ∙ search rules) c.plain_command.result c.plain_command.ensures
