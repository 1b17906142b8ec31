-- What opening a domain of the sets leaves of the handles of C.
use Rattle.std.specs.Prelude.{◌≡◌, ◌≢◌, ◌⊎◌, ◌<◌, ℕ, ℤ, Bool, List, length}
use Rattle.crossbeam_utils.specs.Padded.{padded_value}
use Rattle.mv_layout.specs.declared.config.ConfigFault.{ConfigFault}
use Rattle.mv_layout.specs.Limits.{Checked, FirstUnfit}
use Rattle.set_seats.specs.Opening.{AreOpened, HasObjects, config_of}
use Rattle.set_seats.specs.declared.opening.OpenSets.{OpenSets}
use Rattle.set_seats.specs.declared.seat.SetSeat.{SetSeat}
use Rattle.mvrlu_c.specs.declared.sets_handle.MvrluSets.{MvrluSets}
use Rattle.mvrlu_c.specs.declared.sets_opening.MvrluSetsOptions.{MvrluSetsOptions}
use Rattle.c_answers.specs.declared.status.Status.{Status}
use Rattle.mvrlu_c.specs.Opening.{OpensAll}
use Rattle.c_answers.specs.Statuses.{code_of}

-- whether a handle of a seat of the sets is open
abbrev pub opened : MvrluSets → Bool
opened h = h.is_open

-- the seat behind a handle that is open
abbrev pub seat_in : MvrluSets → SetSeat
seat_in h = padded_value h.state

-- the numbers of the domain of so many seats
abbrev pub sets_of : MvrluSetsOptions → ℕ → OpenSets
sets_of o seats = record { seats = seats; objects = o.objects; slots = o.slots; opening_time = o.opening_time }

-- a number is out of its range: the size of the options, the count of seats, that of objects, or another of the domain's
abbrev pub IsBadNumber : MvrluSetsOptions → ℕ → Type 0
IsBadNumber o seats =
    (o.size ≢ 24) ⊎ (64 < seats) ⊎ (¬ HasObjects (sets_of o seats)) ⊎ ((fault : ConfigFault) × FirstUnfit (config_of (sets_of o seats)) fault)

-- Opening: all of them or none, and why none.
abbrev pub OpensAs : MvrluSetsOptions → List MvrluSets → List MvrluSets → Status → Type 0
OpensAs o old new status =
    OpensAll opened seat_in (AreOpened (sets_of o (length old))) (IsBadNumber o (length old)) (Checked (config_of (sets_of o (length old)))) old new status

-- The same, by the number that is answered.
abbrev pub Opens : MvrluSetsOptions → List MvrluSets → List MvrluSets → ℤ → Type 0
Opens o old new code = (status : Status) × (code ≡ code_of status) × OpensAs o old new status
