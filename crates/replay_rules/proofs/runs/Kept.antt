-- The seat and its call are the same behind each step.
use Rattle.std.proofs.Common.{◌≡◌, ℕ, ◌+◌, ltb, List, length, refl}
use Rattle.replay_rules.specs.declared.seats.NotedVersion.{NotedVersion}
use Rattle.replay_rules.specs.declared.seats.State.{State}
use Rattle.replay_rules.specs.declared.seats.Entering.{Entering}
use Rattle.replay_rules.specs.declared.seats.Entering.TheVariants.{LoadLow, StoreMark, LoadTime}
use Rattle.replay_rules.specs.declared.seats.Helping.{Helping}
use Rattle.replay_rules.specs.declared.seats.Helping.TheVariants.{LoadNamed, LoadCheck, SwapStamp}
use Rattle.replay_rules.specs.declared.seats.Ending.{Ending}
use Rattle.replay_rules.specs.declared.seats.Ending.TheVariants.{LoadNow, Name, StampOwn, StoreSuper, Unlock, LoadDeath, Leave}
use Rattle.replay_rules.specs.declared.seats.Sweeping.{Sweeping}
use Rattle.replay_rules.specs.declared.seats.Sweeping.TheVariants.{LoadGrace, Free, LoadScan, LoadMark, RaiseGrace, LoadSuper, LoadTop, StoreMaster}
use Rattle.replay_rules.specs.declared.seats.Sweeping.TheVariants.{CutHead, LoadCutDeath, LeaveBack, LoadSuperAgain, NameRest}
use Rattle.replay_rules.specs.declared.seats.NextStep.{NextStep}
use Rattle.replay_rules.specs.declared.seats.NextStep.TheVariants.{Enters, Helps, Walks, Locks, Writes, EndsSection, Tidies}
use Rattle.replay_rules.specs.Learns.{entered, helped, ended, swept, state_after}
use Rattle.replay_rules.proofs.runs.Known.{if_so}

-- they are the same in two states
abbrev pub Keeps : State → State → Type 0
Keeps s t = (t.seat ≡ s.seat) × (t.call ≡ s.call)

entered_keeps : (step : Entering) (s : State) (found : ℕ) → Keeps s (entered step s found)
entered_keeps LoadLow s found = (refl, refl)
entered_keeps (StoreMark mark) s found = (refl, refl)
entered_keeps LoadTime s found = (refl, refl)

helped_keeps : (step : Helping) (s : State) (found : ℕ) → Keeps s (helped step s found)
helped_keeps (LoadNamed word) s found = (refl, refl)
helped_keeps (LoadCheck word unset) s found = (refl, refl)
helped_keeps (SwapStamp word unset) s found = (refl, refl)

ended_keeps : (step : Ending) (log : List NotedVersion) (s : State) → Keeps s (ended step log s)
ended_keeps LoadNow log s = (refl, refl)
ended_keeps (Name word new) log s = (refl, refl)
ended_keeps (StampOwn first time) log s = (refl, refl)
ended_keeps (StoreSuper at link time) log s = (refl, refl)
ended_keeps (Unlock at object previous) log s = (refl, refl)
ended_keeps LoadDeath log s = (refl, refl)
ended_keeps (Leave leaving) log s = (refl, refl)

swept_keeps : (step : Sweeping) (log : List NotedVersion) (s : State) (found : ℕ) → Keeps s (swept step log s found)
swept_keeps (LoadGrace again) log s found = (refl, refl)
swept_keeps (Free at left) log s found =
    if_so (Keeps s) (ltb s.freed (length log)) (record s { freed = s.freed + 1 }) s (λ e. (refl, refl)) (λ e. (refl, refl))
swept_keeps LoadScan log s found = (refl, refl)
swept_keeps (LoadMark seat) log s found = (refl, refl)
swept_keeps (RaiseGrace low) log s found = (refl, refl)
swept_keeps (LoadSuper at) log s found = (refl, refl)
swept_keeps (LoadTop at object) log s found = (refl, refl)
swept_keeps (StoreMaster at object words word) log s found = (refl, refl)
swept_keeps (CutHead at object) log s found = (refl, refl)
swept_keeps (LoadCutDeath at) log s found = (refl, refl)
swept_keeps (LeaveBack at back) log s found = (refl, refl)
swept_keeps (LoadSuperAgain at) log s found = (refl, refl)
swept_keeps (NameRest word new) log s found = (refl, refl)

pub state_keeps : (task : NextStep) (log : List NotedVersion) (s : State) (found : ℕ) → Keeps s (state_after task log s found)
state_keeps (Enters step) log s found = entered_keeps step s found
state_keeps (Helps step) log s found = helped_keeps step s found
state_keeps (Walks object next) log s found = (refl, refl)
state_keeps (Locks version at next) log s found = (refl, refl)
state_keeps (Writes at words word) log s found = (refl, refl)
state_keeps (EndsSection step) log s found = ended_keeps step log s
state_keeps (Tidies step) log s found = swept_keeps step log s found
