use Rattle.std.proofs.Common.{◌≡◌, ◌+◌, drop, length}
use Rattle.script_parser.specs.Grammar.{lines_of}
use Rattle.block_parser.specs.BlockGrammar.{with_readings, lines_said}
use Rattle.block_parser.proofs.Lines.{all_read}
use Rattle.block_parser.proofs.parsing.parse_blocks.Given as goal

-- what is read so far and the lines left give what all lines give
abbrev pub invariant-loop-line : goal.invariant-loop-line
invariant-loop-line l = record {
  counted : l.number ≡ length l.yielded;
  rest : all_read l.bytes ≡ with_readings l.progress (l.number + 1) (lines_said l.format (drop l.number (lines_of l.bytes)));
}
