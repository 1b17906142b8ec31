-- What shows the causes of answers, in the steps of the call alone.
use Rattle.std.specs.Prelude.{◌≡◌, ℕ, ◌+◌, Contains, Some, None, slice_get}
use Rattle.atomic_table.specs.Seated.{TableId}
use Rattle.mv_history.specs.declared.StepKind.TheVariants.{LoadTime, LoadCheck}
use Rattle.mv_history.specs.Meaning.{Seat, InSection}
use Rattle.mv_history.specs.Calls.{call_trail}
use Rattle.mv_layout.specs.declared.Config.{Config}
use Rattle.mv_layout.specs.Words.{clock_time_of}
use Rattle.object_lock.specs.mv_core.Passes.{home_of}
use Rattle.object_lock.specs.Tops.{FoundHeld}

-- a load of CLOCK in the call gave the section its time
pub record Took (old : Seat) (new : InSection) : Type 0 where
  pub word : ℕ
  pub there : Contains (call_trail old new.seat) (record { kind = LoadTime; word = 0; found = Some word; stored = None })
  pub time : clock_time_of word ≡ new.seat.base + new.at

-- the call's first step loaded CLOCK, and found this time
pub record Loaded (old : InSection) (new : Seat) (time : ℕ) : Type 0 where
  pub word : ℕ
  pub first : slice_get (call_trail old.seat new) 0 ≡ Some (record { kind = LoadCheck; word = 0; found = Some word; stored = None })
  pub time_is : clock_time_of word ≡ time

-- the last three steps of the call found HEAD of the object naming a version of that seat's log, one of the domain's, and its stamp unset
pub record FoundLocked (old new : InSection) (object seat : ℕ) : Type 0 where
  pub config : Config
  pub table : TableId
  pub home : new.seat.home ≡ home_of config table
  pub found : FoundHeld config object seat old.seat.trail new.seat.trail
