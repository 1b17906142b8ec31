-- What the public values of this crate mean.
use Rattle.std.specs.Prelude.{◌≡◌, ℕ, ◌+◌, List, [], ◌∷◌}
use Rattle.mv_history.specs.declared.answers.CommitAnswer.{CommitAnswer}
use Rattle.mv_history.specs.declared.answers.CommitAnswer.TheVariants.{Done, Again, End}
use Rattle.mv_history.specs.State.{State, Writes}
use Rattle.mv_history.specs.Meaning.{InSection}
use Rattle.mv_history.specs.Meaning as history
use Rattle.mv_layout.specs.declared.Config.{Config}
use Rattle.object_lock.specs.mv_core.Passes.{home_of, config_of, start_of, table_of}
use Rattle.mvrlu.specs.Placed.{Placed, seat_from, section_from}
use Rattle.mvrlu.specs.Whole.{Whole}
use Rattle.mvrlu.specs.declared.closing.Closing.{Closing}
use Rattle.mvrlu.specs.declared.domain.Domain.{Domain}
use Rattle.mvrlu.specs.declared.domain.Seat.{Seat}
use Rattle.mvrlu.specs.declared.handle.Handle.{Handle}
use Rattle.mvrlu.specs.declared.parking.Parked.{Parked}
use Rattle.mvrlu.specs.declared.session.Session.{Session}

-- how many sections of a seat were aborted with something held, after so many and the abort of one more that held these objects
abbrev pub aborts_with : Writes → ℕ → ℕ
aborts_with [] aborts = aborts
aborts_with (held ∷ more) aborts = aborts + 1

-- a count of the seat that tried to commit, outside its section or in it
abbrev pub count_after : {B S : Type 0} → (B → ℕ) → (S → ℕ) → CommitAnswer B S → ℕ
count_after outside inside (Done back time) = outside back
count_after outside inside (Again left rival) = inside left
count_after outside inside (End left) = inside left

module _ {P : Type 0} where
  -- the numbers of a domain
  abbrev pub numbers_of : Domain P → Config
  numbers_of d = config_of d.shared

  -- its name, which no other domain has
  abbrev pub name_of : Domain P → List ℕ
  name_of d = home_of (config_of d.shared) (table_of d.shared)

  -- its opening state
  abbrev pub opening_of : Domain P → State
  opening_of d = start_of d.shared

module _ {P : _} {rules : _} where
  -- what a seat means
  abbrev pub seat_of : Seat P rules → history.Seat
  seat_of s = seat_from s.idle

  -- how many sections of it were aborted with something held
  abbrev pub aborts_in : Seat P rules → ℕ
  aborts_in s = s.idle.log.aborts

  -- a handle's own pass and log
  abbrev pub place_of : Handle P rules → Placed
  place_of h = h.seat.idle

  -- what a seat in a handle means
  abbrev pub handled : Handle P rules → history.Seat
  handled h = seat_from h.seat.idle

  -- how many of its sections were aborted with something held
  abbrev pub aborts_of : Handle P rules → ℕ
  aborts_of h = aborts_in h.seat

  -- what a section means
  abbrev pub section_of : Session P rules → InSection
  section_of s = section_from s.part.busy

  -- how many sections of its seat were aborted before with something held
  abbrev pub aborts_before : Session P rules → ℕ
  aborts_before s = s.part.busy.log.aborts

  -- what a section without its loan means
  abbrev pub section_in : Parked P rules → InSection
  section_in p = section_from p.part.busy

  -- how many sections of its seat were aborted before with something held
  abbrev pub aborts_parked : Parked P rules → ℕ
  aborts_parked p = p.part.busy.log.aborts

  -- the section is of a seat of this domain: it has its name, and its opening state
  abbrev pub IsSectionOf : Domain P → Parked P rules → Type 0
  IsSectionOf d p = ((section_in p).seat.home ≡ name_of d) × ((section_in p).seat.start ≡ opening_of d)

  -- the seat is of this domain: it has its name, and its opening state
  abbrev pub IsSeatOf : Domain P → Seat P rules → Type 0
  IsSeatOf d s = ((seat_of s).home ≡ name_of d) × ((seat_of s).start ≡ opening_of d)

-- what a closing means
abbrev pub whole_of : {P : _} → Closing P → Whole
whole_of c = c.last
