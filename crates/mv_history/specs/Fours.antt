-- Four of an object's words.
use Rattle.std.specs.Prelude.{ℕ, ◌+◌, List, [], ◌∷◌, slice_index_or}

-- four words that stand next to each other, from this place on
abbrev pub four_from : ℕ → List ℕ → List ℕ
four_from place words =
    slice_index_or words place 0 ∷ slice_index_or words (place + 1) 0 ∷ slice_index_or words (place + 2) 0 ∷ slice_index_or words (place + 3) 0 ∷ []
