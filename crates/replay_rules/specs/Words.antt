-- The words of a domain's table, by place.
use Rattle.std.specs.Prelude.{ℕ, List, slice_index, slice_set, replicate, Option, Some, None}
use Rattle.mv_layout.specs.declared.config.Config.{Config}
use Rattle.mv_layout.specs.declared.places.SharedWord.{SharedWord}
use Rattle.mv_layout.specs.Cells.{cell_of, cells}
use Rattle.mv_layout.specs.Words.{clock_of}

-- the word at a place
abbrev pub word_at : Config → List ℕ → SharedWord → ℕ
word_at c words place = slice_index words (cell_of c place)

-- the words after a write, if there is one
abbrev pub words_with : Config → List ℕ → SharedWord → Option ℕ → List ℕ
words_with c words place None = words
words_with c words place (Some new) = slice_set words (cell_of c place) new

-- the table of a new domain whose objects are all zeros
abbrev pub new_words : Config → List ℕ
new_words c = slice_set (slice_set (replicate (cells c) 0) 6 (clock_of c.base 0 8191)) 22 c.base
