-- The range of each number of a domain, and what `check` answers.
use Rattle.std.specs.Prelude.{◌-◌, ◌≤◌, Result, Ok, Err}
use Rattle.mv_layout.specs.declared.config.Config.{Config}
use Rattle.mv_layout.specs.declared.config.ConfigFault.{ConfigFault}
use Rattle.mv_layout.specs.declared.config.ConfigFault.TheVariants.{Seats, Objects, Slots, WriteMax, Marks, Base}

-- 1 to 64 seats
abbrev pub FitSeats : Config → Type 0
FitSeats c = (1 ≤ c.seats) × (c.seats ≤ 64)

-- 1 to 16,777,216 objects
abbrev pub FitObjects : Config → Type 0
FitObjects c = (1 ≤ c.objects) × (c.objects ≤ 16777216)

-- 64 to 4,096 slots in each log
abbrev pub FitSlots : Config → Type 0
FitSlots c = (64 ≤ c.slots) × (c.slots ≤ 4096)

-- 1 to 64 objects in a write set
abbrev pub FitWrites : Config → Type 0
FitWrites c = (1 ≤ c.write_max) × (c.write_max ≤ 64)

-- the low capacity mark is at least 1 and not above the high one, which leaves room for a write set
abbrev pub FitMarks : Config → Type 0
FitMarks c = (1 ≤ c.low) × (c.low ≤ c.high) × (c.high ≤ c.slots - c.write_max)

-- the opening time is one that a clock word holds
abbrev pub FitBase : Config → Type 0
FitBase c = c.base ≤ 35184372088831

-- every number is in its range
pub record Checked (c : Config) : Type 0 where
  pub seats : FitSeats c
  pub objects : FitObjects c
  pub slots : FitSlots c
  pub writes : FitWrites c
  pub marks : FitMarks c
  pub base : FitBase c

-- a fault's range is the first that doesn't hold
abbrev pub FirstUnfit : Config → ConfigFault → Type 0
FirstUnfit c Seats = ¬ (FitSeats c)
FirstUnfit c Objects = FitSeats c × ¬ (FitObjects c)
FirstUnfit c Slots = FitSeats c × FitObjects c × ¬ (FitSlots c)
FirstUnfit c WriteMax = FitSeats c × FitObjects c × FitSlots c × ¬ (FitWrites c)
FirstUnfit c Marks = FitSeats c × FitObjects c × FitSlots c × FitWrites c × ¬ (FitMarks c)
FirstUnfit c Base = FitSeats c × FitObjects c × FitSlots c × FitWrites c × FitMarks c × ¬ (FitBase c)

-- `check` answers Ok exactly where all are in range, and else the first fault
abbrev pub Answers : Config → Result Unit ConfigFault → Type 0
Answers c (Ok _) = Checked c
Answers c (Err fault) = FirstUnfit c fault
