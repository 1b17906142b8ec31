-- Objects that are vacant: all their words are 0.
use Rattle.std.specs.Prelude.{◌≡◌, ◌⊎◌, ℕ, ◌<◌, ◌≤◌, length, replicate, Option, Some, None}
use Rattle.mv_history.specs.Meaning.{InSection, state_of, words_at, Lacks}

-- an object of the domain is vacant for a section: its words are 0 in the state that the section reads, and the section doesn't hold it
pub record IsVacant (s : InSection) (object : ℕ) : Type 0 where
  pub there : object < length (state_of s)
  pub zeros : words_at (state_of s) object ≡ replicate 6 0
  pub lacks : Lacks s object

-- none of the objects from one number up to another is
abbrev pub NoneVacant : InSection → ℕ → ℕ → Type 0
NoneVacant s from to = (object : ℕ) → from ≤ object → object < to → ¬ IsVacant s object

-- the first object that is vacant from one number up to another, if there is one
abbrev pub Looks : InSection → ℕ → ℕ → Option ℕ → Type 0
Looks s from to None = NoneVacant s from to
Looks s from to (Some object) = (from ≤ object) × (object < to) × IsVacant s object × NoneVacant s from object

-- no object before this one is vacant, where the look begins at a hint, and goes on at 0 behind the last object
abbrev pub IsFirstFrom : InSection → ℕ → ℕ → Type 0
IsFirstFrom s hint object =
    ((hint ≤ object) × NoneVacant s hint object)
    ⊎ ((object < hint) × NoneVacant s hint (length (state_of s)) × NoneVacant s 0 object)

-- the first object that is vacant from a hint on, or none of the domain's is
abbrev pub Finds : InSection → ℕ → Option ℕ → Type 0
Finds s hint None = NoneVacant s 0 (length (state_of s))
Finds s hint (Some object) = IsVacant s object × IsFirstFrom s hint object
