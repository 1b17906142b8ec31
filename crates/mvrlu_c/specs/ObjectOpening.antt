-- What opening a domain of objects leaves of the handles of C.
use Rattle.std.specs.Prelude.{◌≡◌, ◌≢◌, ◌⊎◌, ◌<◌, ℕ, ℤ, ◌-◌, ◌/◌, max, Bool, List, length}
use Rattle.crossbeam_utils.specs.Padded.{padded_value}
use Rattle.mv_layout.specs.declared.Config.{Config}
use Rattle.mv_layout.specs.declared.config.ConfigFault.{ConfigFault}
use Rattle.mv_layout.specs.Limits.{Checked, FirstUnfit}
use Rattle.object_seats.specs.Opening.{AreOpened}
use Rattle.object_seats.specs.declared.seat.ObjectSeat.{ObjectSeat}
use Rattle.mvrlu_c.specs.declared.object_handle.MvrluSeat.{MvrluSeat}
use Rattle.mvrlu_c.specs.declared.object_opening.MvrluOptions.{MvrluOptions}
use Rattle.c_answers.specs.declared.status.Status.{Status}
use Rattle.mvrlu_c.specs.Opening.{OpensAll}
use Rattle.c_answers.specs.Statuses.{code_of}

-- whether a handle of a seat of objects is open
abbrev pub opened : MvrluSeat → Bool
opened h = h.is_open

-- the seat behind a handle that is open
abbrev pub seat_in : MvrluSeat → ObjectSeat
seat_in h = padded_value h.state

-- The numbers of the domain of so many seats. A seat reclaims one round at a time from half of its log on, and all it can where a full
-- write set has no room.
abbrev pub config_of : MvrluOptions → ℕ → Config
config_of o seats = record {
  seats = seats;
  objects = o.objects;
  slots = o.slots;
  write_max = o.write_max;
  low = max 1 ((o.slots - o.write_max) / 2);
  high = o.slots - o.write_max;
  base = o.opening_time;
}

-- a number is out of its range: the size of the options, the count of seats, or one of the domain's
abbrev pub IsBadNumber : MvrluOptions → ℕ → Type 0
IsBadNumber o seats = (o.size ≢ 24) ⊎ (64 < seats) ⊎ ((fault : ConfigFault) × FirstUnfit (config_of o seats) fault)

-- Opening: all of them or none, and why none.
abbrev pub OpensAs : MvrluOptions → List MvrluSeat → List MvrluSeat → Status → Type 0
OpensAs o old new status =
    OpensAll opened seat_in (AreOpened (config_of o (length old))) (IsBadNumber o (length old)) (Checked (config_of o (length old))) old new status

-- The same, by the number that is answered.
abbrev pub Opens : MvrluOptions → List MvrluSeat → List MvrluSeat → ℤ → Type 0
Opens o old new code = (status : Status) × (code ≡ code_of status) × OpensAs o old new status
