use Rattle.std.proofs.Common.{sym, ◌∙◌}
use Rattle.std.proofs.lemmas.Result.{err_from_is_err_and}
use Rattle.script_parser.specs.Grammar.{words_in}
use Rattle.script_parser.proofs.LineFaults.{fault_of_line}
use Rattle.script_parser.proofs.line.parse_line.Goals as goal

pub returns-in_err-command-clause-other : goal.returns-in_err-command-clause-other
returns-in_err-command-clause-other c =
    let p = err_from_is_err_and c.from_residual-in_err-command.result c.from_residual-in_err-command.ensures.1 in
    rw (p.1, p.2)
    (fault_of_line c.in_ok-verb.verb (words_in c.in-Some-first_word.rest.now) c.in_err-command.field-0.0
    (sym c.read_command.ensures ∙ c.in_err-command.was))
