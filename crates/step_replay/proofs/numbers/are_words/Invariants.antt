use Rattle.std.proofs.Common.{◌≡◌, ◌+◌, length}
use Rattle.script_parser.specs.Grammar.{words_in}
use Rattle.step_replay.proofs.numbers.are_words.Given as goal

-- so many words were passed
abbrev pub invariant-loop : goal.invariant-loop
invariant-loop l = length (words_in l.bytes) ≡ l.counter + length (words_in l.rest)
