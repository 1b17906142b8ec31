use Rattle.std.proofs.Common.{◌≡◌, drop, map, string_bytes}
use Rattle.std.specs.List.{list_all}
use Rattle.run_words.specs.Words.{is_file}
use Rattle.run_words.proofs.reading.are_files.Given as goal

abbrev pub invariant-loop-word : goal.invariant-loop-word
invariant-loop-word l = list_all is_file (map string_bytes l.words) ≡ list_all is_file (map string_bytes (drop l.word-index l.words))
