-- What opening a domain of a growing set leaves of the handles of C.
use Rattle.std.specs.Prelude.{◌≡◌, ◌≢◌, ◌⊎◌, ◌<◌, ℕ, ℤ, Bool, List, length}
use Rattle.crossbeam_utils.specs.Padded.{padded_value}
use Rattle.mv_layout.specs.declared.config.ConfigFault.{ConfigFault}
use Rattle.mv_layout.specs.Limits.{Checked, FirstUnfit}
use Rattle.grow_seats.specs.Opening.{AreOpened, HasObjects, config_of}
use Rattle.grow_seats.specs.declared.opening.OpenGrown.{OpenGrown}
use Rattle.grow_seats.specs.declared.seat.GrowSeat.{GrowSeat}
use Rattle.mvrlu_c.specs.declared.table_handle.MvrluTable.{MvrluTable}
use Rattle.mvrlu_c.specs.declared.table_opening.MvrluTableOptions.{MvrluTableOptions}
use Rattle.c_answers.specs.declared.status.Status.{Status}
use Rattle.mvrlu_c.specs.Opening.{OpensAll}
use Rattle.c_answers.specs.Statuses.{code_of}

-- whether a handle of a seat of a growing set is open
abbrev pub opened : MvrluTable → Bool
opened h = h.is_open

-- the seat behind a handle that is open
abbrev pub seat_in : MvrluTable → GrowSeat
seat_in h = padded_value h.state

-- the numbers of the domain of so many seats
abbrev pub grown_of : MvrluTableOptions → ℕ → OpenGrown
grown_of o seats = record { seats = seats; objects = o.objects; slots = o.slots; opening_time = o.opening_time }

-- a number is out of its range: the size of the options, the count of seats, that of objects, or another of the domain's
abbrev pub IsBadNumber : MvrluTableOptions → ℕ → Type 0
IsBadNumber o seats =
    (o.size ≢ 24) ⊎ (64 < seats) ⊎ (¬ HasObjects (grown_of o seats)) ⊎ ((fault : ConfigFault) × FirstUnfit (config_of (grown_of o seats)) fault)

-- Opening: all of them or none, and why none.
abbrev pub OpensAs : MvrluTableOptions → List MvrluTable → List MvrluTable → Status → Type 0
OpensAs o old new status =
    OpensAll opened seat_in (AreOpened (grown_of o (length old))) (IsBadNumber o (length old)) (Checked (config_of (grown_of o (length old)))) old new status

-- The same, by the number that is answered.
abbrev pub Opens : MvrluTableOptions → List MvrluTable → List MvrluTable → ℤ → Type 0
Opens o old new code = (status : Status) × (code ≡ code_of status) × OpensAs o old new status
