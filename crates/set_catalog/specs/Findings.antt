-- What a command comes to in a state, before anything is locked.
use Rattle.std.specs.Prelude.{ℕ, ◌≡◌, ◌<◌, ◌≤◌, ◌⊎◌, true, false, length}
use Rattle.mv_history.specs.State.{State, Writes}
use Rattle.mv_history.specs.Drift.{IsFit}
use Rattle.mv_history.specs.Legal.{are_distinct, AreWithin}
use Rattle.set_model.specs.Rules.{IsSetCommit}
use Rattle.set_model.specs.Tags.{tag_of}
use Rattle.set_model.specs.declared.commands.Command.{Command}
use Rattle.set_model.specs.declared.commands.Command.TheVariants.{Add, Put}
use Rattle.set_model.specs.declared.commands.Reply.{Reply}
use Rattle.set_model.specs.declared.commands.Reply.TheVariants.{Worn}
use Rattle.set_catalog.specs.Merges.{writes_in}
use Rattle.set_catalog.specs.Plans.{PlanWithin, GoneBy}
use Rattle.set_catalog.specs.Steps.{most_locks_of}
use Rattle.set_catalog.specs.Replies.{reply_in, changes_in}
use Rattle.set_catalog.specs.declared.finding.Finding.{Finding}
use Rattle.set_catalog.specs.declared.finding.Finding.TheVariants.{Settled, Open}
use Rattle.set_catalog.specs.declared.outcome.PlanOutcome.{PlanOutcome}
use Rattle.set_catalog.specs.declared.outcome.PlanOutcome.TheVariants.{Settled as Answered, Open as Changing}
use Rattle.set_catalog.specs.declared.plan.Vacated.{Vacated}
use Rattle.tree_balance.specs.declared.plan.WritePlan.{WritePlan}

-- These are exactly the objects that the command locks in this state, with what it writes, where an add to a tree may lock so many beside
-- its own four: different ones, fit to be committed, and a del leaves these vacant.
pub record IsPlannedWithin (most : ℕ) (command : Command) (s : State) (ws : Writes) (gone : Vacated) : Type 0 where
  pub plan : PlanWithin most command s ws
  pub few : length ws ≤ most_locks_of most command
  pub distinct : are_distinct ws ≡ true
  pub within : AreWithin ws (length s)
  pub some : 0 < length ws
  pub fit : IsFit IsSetCommit s (tag_of command) ws
  pub goes : GoneBy command s ws gone.node gone.inner

-- Where a time is left: it changes nothing and this is its reply, or it changes something and this is planned.
abbrev pub IsFoundWithin : ℕ → Command → State → Finding → Type 0
IsFoundWithin most command s (Settled answer) =
    (answer ≡ reply_in command s false) × (changes_in command s false ≡ false)
IsFoundWithin most command s (Open plan gone) =
    (changes_in command s false ≡ true) × (plan.count ≤ most_locks_of most command) × IsPlannedWithin most command s (writes_in plan) gone

-- what is planned, where no step follows an add
abbrev pub IsPlanned : Command → State → Writes → Vacated → Type 0
IsPlanned command s ws gone = IsPlannedWithin 0 command s ws gone

-- what is found where a time is left, and no step follows an add
abbrev pub IsFound : Command → State → Finding → Type 0
IsFound command s finding = IsFoundWithin 0 command s finding

-- what was found, with what is planned for it
abbrev pub with_plan : PlanOutcome → WritePlan → Finding
with_plan (Answered answer) plan = Settled answer
with_plan (Changing gone) plan = Open plan gone

-- the reply at the last time of what was found: a change comes too late
abbrev pub reply_at_last : Finding → Reply
reply_at_last (Settled answer) = answer
reply_at_last (Open plan gone) = Worn

-- the command adds this key with this value to the set of this name
abbrev pub IsNew : ℕ → ℕ → ℕ → Command → Type 0
IsNew name k v command = ((command ≡ Add name k) × (v ≡ 0)) ⊎ (command ≡ Put name k v)
