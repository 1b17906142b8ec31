-- Rows of values that have the seats of a domain: in order of number, as `open` gives the seats, and the other way round, as they are
-- taken from the end of such a row.
use Rattle.std.specs.Prelude.{◌≡◌, ℕ, ◌+◌, List}
use mathlib.Core.Option.{some}
use lib.ListN.{get_elem?}
use Rattle.mv_history.specs.Meaning.{Seat}
use Rattle.mvrlu.specs.declared.domain.Domain.{Domain}
use Rattle.mvrlu.specs.Meant.{numbers_of, name_of, opening_of}

-- the seat has this number, and is of the domain of this name, opening state and limit of a section
pub record IsNumbered {P : Type 0} (d : Domain P) (k : ℕ) (s : Seat) : Type 0 where
  pub number : s.number ≡ k
  pub home : s.home ≡ name_of d
  pub start : s.start ≡ opening_of d
  pub write_max : s.write_max ≡ (numbers_of d).write_max

-- the seats are of one number, one domain, one opening state and one limit of a section
pub record IsSameSeat (s t : Seat) : Type 0 where
  pub number : t.number ≡ s.number
  pub home : t.home ≡ s.home
  pub start : t.start ≡ s.start
  pub write_max : t.write_max ≡ s.write_max

module _ {P X : Type 0} (meant : X → Seat) (d : Domain P) where
  -- the value at each place has the seat of that number
  abbrev pub AreRising : List X → Type 0
  AreRising xs = (k : ℕ) (x : X) → get_elem? xs k ≡ some x → IsNumbered d k (meant x)

  -- the values have the seats below a number, from the greatest down
  abbrev pub AreFalling : ℕ → List X → Type 0
  AreFalling above xs = (k number : ℕ) (x : X) → get_elem? xs k ≡ some x → k + number + 1 ≡ above → IsNumbered d number (meant x)
