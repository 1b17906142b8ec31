use Rattle.std.proofs.Common.{◌≡◌, ◌++◌, take, codes, string_bytes}
use Rattle.std.specs.List.{flat_map}
use Rattle.script_parser.specs.GrammarLaws.{line_text}
use Rattle.script_gen.proofs.script.write_script.Given as goal

abbrev pub invariant-loop-command : goal.invariant-loop-command
invariant-loop-command l =
    string_bytes l.text ≡ string_bytes l.fn.text ++ flat_map (λ command. line_text command ++ codes "\n") (take l.command-index l.commands)
