-- What locks leave that change no words.
use Rattle.std.specs.Prelude.{◌≡◌, ℕ, ◌+◌, ◌≤◌, ◌⊎◌, List, [], ◌∷◌, length}
use Rattle.mv_history.specs.Meaning.{InSection, Holds, state_of}
use Rattle.mv_history.specs.Calls.{GoesOn}

-- the object is one of these
abbrev pub IsAmong : ℕ → List ℕ → Type 0
IsAmong o [] = ⊥
IsAmong o (x ∷ xs) = (o ≡ x) ⊎ IsAmong o xs

-- The section reads the same state. What it held it holds, and else only some of these objects.
pub record LocksOnly (old new : InSection) (objects : List ℕ) : Type 0 where
  pub goes_on : GoesOn old new
  pub state : state_of new ≡ state_of old
  pub keeps : (o : ℕ) → Holds old o → Holds new o
  pub only : (o : ℕ) → Holds new o → Holds old o ⊎ IsAmong o objects
  pub own : length new.own ≤ length old.own + length objects
  pub spare : old.seat.spare ≤ new.seat.spare + length objects
