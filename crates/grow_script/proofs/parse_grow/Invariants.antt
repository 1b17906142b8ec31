use Rattle.std.proofs.Common.{◌≡◌, ◌≤◌, ◌+◌, true, drop, length, All}
use Rattle.script_parser.specs.Grammar.{lines_of, parsed_after}
use Rattle.set_model.specs.declared.script.TheConstants.{MOST_COMMANDS}
use Rattle.grow_script.specs.GrowGrammar.{grow_readings, is_of_set, parsed_grow}
use Rattle.grow_script.proofs.parse_grow.Given as goal

-- the commands so far and the lines left give what the script gives
abbrev pub invariant-loop-line : goal.invariant-loop-line
invariant-loop-line l = record {
  counted : l.number ≡ length l.yielded;
  few : length l.commands.items ≤ MOST_COMMANDS;
  growing : All (λ command. is_of_set command ≡ true) l.commands.items;
  rest : parsed_grow l.bytes ≡ parsed_after l.commands.items (l.number + 1) (grow_readings l.begun (drop l.number (lines_of l.bytes)));
}
