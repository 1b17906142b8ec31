-- The names of files, and lists of one.
use Rattle.std.proofs.Common.{inl, inr, ◌≡◌, ◌<◌, ◌+◌, ℕ, false, List, [], ◌∷◌, length, map, get_or, slice_get, string_bytes, String, Some}
use Rattle.std.proofs.Common.{refl, sym, ap, ◌∙◌, subst, arith}
use Rattle.std.specs.declared.alloc.Global.{Global}
use Rattle.std.specs.Str.{bytes_eq}
use Rattle.std.proofs.lemmas.Bool.{cases_lt, false≢true}
use Rattle.std.proofs.lemmas.Option.{slice_get-map, slice_get_read}
use Rattle.std.proofs.lemmas.Slice.Eq.{bytes_eq-Decides}
use Rattle.std.specs.Option.{option_map}
use Rattle.script_files.proofs.Refused.{some_inj}

abbrev pub bytes_of : List (String Global) → List (List ℕ)
bytes_of names = map string_bytes names

pub named_at : (names : List (String Global)) (i : ℕ) (x : String Global) → i < length names → x ≡ get_or names i x
    → slice_get (bytes_of names) i ≡ Some (string_bytes x)
named_at names i x lt at = slice_get-map string_bytes names i ∙ ap (option_map string_bytes) (slice_get_read names _ i x refl lt at)

-- a name doesn't stand where another does
not_named : (names : List (String Global)) (i : ℕ) (x : String Global) (name : List ℕ) → i < length names → x ≡ get_or names i x
    → bytes_eq (string_bytes x) name ≡ false → ¬ (slice_get (bytes_of names) i ≡ Some name)
not_named names i x name lt at other there =
    let same = some_inj (string_bytes x) name (sym (named_at names i x lt at) ∙ there) in
    false≢true (sym other ∙ (bytes_eq-Decides (string_bytes x) name).1 same)

-- and so at none up to there
pub none_up_to : (names : List (String Global)) (i : ℕ) (x : String Global) (name : List ℕ) → i < length names → x ≡ get_or names i x
    → bytes_eq (string_bytes x) name ≡ false → ((k : ℕ) → k < i → ¬ (slice_get (bytes_of names) k ≡ Some name))
    → (k : ℕ) → k < i + 1 → ¬ (slice_get (bytes_of names) k ≡ Some name)
none_up_to names i x name lt at other before k below there =
    elim (cases_lt k i) as (λ _. ⊥) [
      | inl under ↦ before k under there
      | inr over ↦
          let same : k ≡ i = omega (arith, over, below) in
          not_named names i x name lt at other (subst (λ (n : ℕ). slice_get (bytes_of names) n ≡ Some name) same there)
    ]

-- a list of one has its first alone
pub only_one : {S A : Type 0} (of : S → A) (xs : List S) (x : S) → length xs ≡ 1 → x ≡ get_or xs 0 x → map of xs ≡ of x ∷ []
only_one of [] x len is = absurd (omega (arith, len))
only_one of (y ∷ []) x len is = ap (λ z. of z ∷ []) (sym is)
only_one of (y ∷ z ∷ xs) x len is = absurd (omega (arith, len))
