-- One more option of the words.
use Rattle.std.proofs.Common.{◌≡◌, ◌≤◌, ◌-◌, ℕ, List, [], ◌∷◌, length, take, drop, map, get_or, String, string_bytes, Some, refl, arith}
use Rattle.std.specs.declared.alloc.Global.{Global}
use Rattle.std.proofs.lemmas.List.{take_all}
use Rattle.run_words.specs.declared.options.Flag.{Flag}
use Rattle.run_words.specs.declared.options.GivenOptions.{GivenOptions}
use Rattle.run_words.specs.Words.{add_option, flag_of, number_of, options_of}

module _ (given next : GivenOptions) (flag : Flag) (n : ℕ) where
  step : (word value : List ℕ) (words : List (List ℕ)) → flag_of word ≡ Some flag → number_of value ≡ Some n → add_option flag n given ≡ Some next
      → options_of given (word ∷ value ∷ words) ≡ options_of next words
  step word value words f v a = rw (f, v, a) refl

  -- an option with its number is taken
  pub takes : (words : List (String Global)) (word value : String Global) → 2 ≤ length words → word ≡ get_or words 0 word
      → value ≡ get_or words 1 value → flag_of (string_bytes word) ≡ Some flag → number_of (string_bytes value) ≡ Some n
      → add_option flag n given ≡ Some next
      → options_of given (map string_bytes words) ≡ options_of next (map string_bytes (take (length words - 2) (drop 2 words)))
  takes [] word value le w v f p a = absurd (omega (arith, le))
  takes (x ∷ []) word value le w v f p a = absurd (omega (arith, le))
  takes (x ∷ y ∷ words) word value le w v f p a =
      rw (take_all (length (x ∷ y ∷ words) - 2) words (omega arith))
      (step (string_bytes x) (string_bytes y) (map string_bytes words) (rw w at f) (rw v at p) a)
