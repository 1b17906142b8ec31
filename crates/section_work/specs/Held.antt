-- What a section may hold, and what it holds after a call.
use Rattle.std.specs.Prelude.{◌+◌, ◌≡◌, ◌≤◌, if◌then◌else◌, ◌∷◌}
use Rattle.section_work.specs.Terms.{ℕ, List, [], length, Writes, touches, InSection, snapshot_of, GoesOn}

-- how many of these different objects are not held
abbrev pub count_unheld : Writes → List ℕ → ℕ
count_unheld own [] = 0
count_unheld own (o ∷ os) = (if touches own o then 0 else 1) + count_unheld own os

-- the section may hold these objects too
pub record HasRoom (s : InSection) (objects : List ℕ) : Type 0 where
  pub spare : count_unheld s.own objects ≤ s.seat.spare
  pub held : length s.own + count_unheld s.own objects ≤ s.seat.write_max

-- The section holds these objects too, with these writes in all. What is not said here stays, but that more may have been seen and done.
pub record HoldsMore (old new : InSection) (objects : List ℕ) (writes : Writes) : Type 0 where
  pub goes_on : GoesOn old new
  pub spare : new.seat.spare + count_unheld old.own objects ≡ old.seat.spare
  pub own : new.own ≡ writes
  pub snapshot : snapshot_of new ≡ snapshot_of old
