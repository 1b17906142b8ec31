use Rattle.std.proofs.Common.{◌≡◌, ◌+◌, drop, length}
use Rattle.script_parser.specs.Grammar.{lines_of, readings_in, parsed, parsed_after}
use Rattle.script_parser.proofs.script.parse.Given as goal

-- the commands so far and the lines left give what the script gives
abbrev pub invariant-loop-line : goal.invariant-loop-line
invariant-loop-line l = record {
  counted : l.number ≡ length l.yielded;
  rest : parsed l.bytes ≡ parsed_after l.commands.items (l.number + 1) (readings_in l.format (drop l.number (lines_of l.bytes)));
}
