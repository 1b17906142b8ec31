-- A section of 186 objects in which tests fill one node after another.
use Rattle.std.specs.Prelude.{ℕ, ◌+◌, ◌*◌, ◌≡◌, ◌≤◌, length}
use Rattle.mv_history.specs.Meaning.{InSection, state_of}
use Rattle.set_model.specs.Lawful.{IsLawful}
use Rattle.set_model.specs.Objects.{owner}

-- the first n nodes at most are not vacant, and at most two objects for each of them are held
pub record IsFilled (s : InSection) (n : ℕ) : Type 0 where
  pub lawful : IsLawful (state_of s)
  pub objects : length (state_of s) ≡ 186
  pub vacant : (o : ℕ) → 180 + n ≤ o → owner (state_of s) o ≡ 0
  pub held : length s.own ≤ 2 * n
  pub spare : 16 ≤ s.seat.spare + 2 * n
  pub most : 16 ≤ s.seat.write_max
