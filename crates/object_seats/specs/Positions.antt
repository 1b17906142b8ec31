-- What a seat means, outside a section or in one.
use Rattle.std.specs.Prelude.{◌≡◌, ℕ}
use Rattle.mv_history.specs.declared.rules.AnyRules.{AnyRules}
use Rattle.mv_history.specs.Meaning as history
use Rattle.mvrlu.specs.Meant.{name_of, opening_of, seat_of, section_in, aborts_in, aborts_parked}
use Rattle.mvrlu.specs.declared.domain.Domain.{Domain}
use Rattle.object_seats.specs.declared.position.Position.{Position}
use Rattle.object_seats.specs.declared.position.Position.TheVariants.{Outside, Inside}

-- the seat
abbrev pub seat_at : Position → history.Seat
seat_at (Outside seat) = seat_of seat
seat_at (Inside section) = (section_in section).seat

-- how many of its sections were aborted with something held
abbrev pub aborts_at : Position → ℕ
aborts_at (Outside seat) = aborts_in seat
aborts_at (Inside section) = aborts_parked section

-- it is of this domain: it has its name, and its opening state
abbrev pub IsOf : Domain AnyRules → Position → Type 0
IsOf d p = ((seat_at p).home ≡ name_of d) × ((seat_at p).start ≡ opening_of d)
