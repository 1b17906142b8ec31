-- When a call is skipped: what the same call of the runtime asks for doesn't hold of the seat's view.
use Rattle.std.specs.Prelude.{◌≡◌, ◌⊎◌, ◌<◌, true, false}
use Rattle.mv_history.specs.State.{touches}
use Rattle.mv_layout.specs.declared.config.Config.{Config}
use Rattle.mv_core.specs.declared.view.Knowledge.{Knowledge}
use Rattle.mv_core.specs.declared.view.OwnSection.{OwnSection}
use Rattle.mv_core.specs.declared.view.Phase.TheVariants.{Outside, Inside}
use Rattle.mv_core.specs.Rings.{own_of, held_count}
use Rattle.replay_rules.specs.declared.plan.Call.{Call}
use Rattle.replay_rules.specs.declared.plan.Call.TheVariants as calls

-- the seat is in a section
abbrev pub IsInside : Knowledge → Type 0
IsInside v = (inside : OwnSection) × (v.phase ≡ Inside inside)

-- An enter or a tidy isn't begun in a section, and no other call outside one; nor a read of an object that is held, a write of one that isn't, a commit
-- where nothing is held, or a leave where something is.
abbrev pub MayNotBegin : Config → Knowledge → Call → Type 0
MayNotBegin c v calls.Enter = IsInside v
MayNotBegin c v (calls.Read object) = (v.phase ≡ Outside) ⊎ (touches (own_of c v.ring) object ≡ true)
MayNotBegin c v (calls.Lock object) = v.phase ≡ Outside
MayNotBegin c v (calls.Write object words) = (v.phase ≡ Outside) ⊎ (touches (own_of c v.ring) object ≡ false)
MayNotBegin c v calls.Commit = (v.phase ≡ Outside) ⊎ (held_count v.ring ≡ 0)
MayNotBegin c v calls.Abort = v.phase ≡ Outside
MayNotBegin c v calls.Leave = (v.phase ≡ Outside) ⊎ (0 < held_count v.ring)
MayNotBegin c v calls.Tidy = IsInside v
