-- The seats of a domain that nobody has used yet.
use Rattle.std.specs.Prelude.{◌≡◌, ℕ, suc, List, [], ◌∷◌, ⊤}
use Rattle.mv_history.specs.Meaning.{Seat}
use Rattle.mvrlu.specs.Meant.{numbers_of, opening_of, name_of}
use Rattle.mvrlu.specs.Opened.{new_seat}
use Rattle.mvrlu.specs.declared.domain.Domain.{Domain}

-- the seats are those of their numbers, the first of them that of this number, and each that of the next
abbrev pub AreFrom : (ℕ → Seat) → ℕ → List Seat → Type 0
AreFrom of_number number [] = ⊤
AreFrom of_number number (s ∷ seats) = (s ≡ of_number number) × AreFrom of_number (suc number) seats

module _ {P : Type 0} (d : Domain P) where
  -- the seat of this number as `open` gives it: it has seen nothing and made nothing
  abbrev pub fresh : ℕ → Seat
  fresh number = new_seat (name_of d) (numbers_of d) (opening_of d) number

  -- The seats are as `open` gave them, the first of them that of this number, and each that of the next.
  abbrev pub AreNewFrom : ℕ → List Seat → Type 0
  AreNewFrom number seats = AreFrom fresh number seats
