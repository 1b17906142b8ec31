use Rattle.std.proofs.Common.{◌≡◌, length, map, string_bytes}
use Rattle.run_words.specs.Words.{none_given, options_of}
use Rattle.run_words.proofs.options.read_options.Given as goal

abbrev pub invariant-loop-rest : goal.invariant-loop-rest
invariant-loop-rest l = options_of none_given (map string_bytes l.words) ≡ options_of l.given (map string_bytes l.rest)

abbrev pub decreases-loop-rest : goal.decreases-loop-rest
decreases-loop-rest l = length l.rest
