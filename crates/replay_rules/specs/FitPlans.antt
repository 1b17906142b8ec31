-- The ranges of the numbers of a plan.
use Rattle.std.specs.Prelude.{◌≡◌, ◌≤◌, ◌<◌, ◌^◌, ℕ, List, All, length}
use Rattle.mv_layout.specs.declared.config.Config.{Config}
use Rattle.mv_layout.specs.Limits.{Checked}
use Rattle.replay_rules.specs.declared.plan.Call.{Call}
use Rattle.replay_rules.specs.declared.plan.Call.TheVariants.{Enter, Read, Lock, Write, Commit, Abort, Leave, Tidy}
use Rattle.replay_rules.specs.declared.plan.CallOf.{CallOf}
use Rattle.replay_rules.specs.declared.plan.TheConstants.{MOST_STEPS}
use Rattle.replay_rules.specs.Plans.{PlanOf, config_of}

-- 1 to 64 seats
abbrev pub AreSeats : ℕ → Type 0
AreSeats seats = (1 ≤ seats) × (seats ≤ 64)

-- 1 to 1024 objects
abbrev pub AreObjects : ℕ → Type 0
AreObjects objects = (1 ≤ objects) × (objects ≤ 1024)

-- 64 to 256 slots of each log
abbrev pub AreSlots : ℕ → Type 0
AreSlots slots = (64 ≤ slots) × (slots ≤ 256)

-- the numbers of a plan's domain; the others follow from the slots
pub record IsFitConfig (config : Config) : Type 0 where
  pub seats : AreSeats config.seats
  pub objects : AreObjects config.objects
  pub slots : AreSlots config.slots
  pub checked : Checked config
  pub is : config ≡ config_of config.seats config.objects config.slots config.base

-- six words of 64 bits
abbrev pub AreSixWords : List ℕ → Type 0
AreSixWords words = (length words ≡ 6) × All (λ word. word < 2 ^ 64) words

-- the call's object is one of the domain, and what is written are six words
abbrev pub IsFitCall : Config → Call → Type 0
IsFitCall config (Read object) = object < config.objects
IsFitCall config (Lock object) = object < config.objects
IsFitCall config (Write object words) = (object < config.objects) × AreSixWords words
IsFitCall config Enter = Unit {0}
IsFitCall config Commit = Unit {0}
IsFitCall config Abort = Unit {0}
IsFitCall config Leave = Unit {0}
IsFitCall config Tidy = Unit {0}

-- and so is its seat
abbrev pub IsFitCallOf : Config → CallOf → Type 0
IsFitCallOf config c = (c.seat < config.seats) × IsFitCall config c.call

-- the steps are below so many seats, and there aren't too many
abbrev pub AreFitSteps : ℕ → List ℕ → Type 0
AreFitSteps seats steps = All (λ seat. seat < seats) steps × (length steps ≤ MOST_STEPS)

-- All numbers of a plan are in their ranges.
pub record IsFitPlan (plan : PlanOf) : Type 0 where
  pub config : IsFitConfig plan.config
  pub calls : All (IsFitCallOf plan.config) plan.calls
  pub steps : AreFitSteps plan.config.seats plan.steps
