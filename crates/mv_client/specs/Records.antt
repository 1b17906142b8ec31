-- What words say of a record.
use Rattle.std.specs.Prelude.{◌≡◌, ℕ, List}

-- the words say a record, and it is this one
pub record Says {T : Type 0} (are_words : List ℕ → Type 0) (record_of : List ℕ → T) (words : List ℕ) (r : T) : Type 0 where
  pub readable : are_words words
  pub is : record_of words ≡ r
