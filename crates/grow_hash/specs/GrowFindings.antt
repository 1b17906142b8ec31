-- What a command on a growing hash set comes to in a state, before anything is locked.
use Rattle.mv_history.specs.Drift.{IsFit}
use Rattle.mv_history.specs.Legal.{are_distinct, AreWithin}
use Rattle.set_model.specs.declared.commands.Reply.TheVariants.{Worn}
use Rattle.std.specs.Prelude.{◌≡◌}
use Rattle.grow_hash.specs.Terms.{Bool, true, false, length, State, Writes, tag_of, Command, Reply, ℕ}
use Rattle.grow_hash.specs.GrowRules.{IsGrowCommit}
use Rattle.grow_hash.specs.GrowPlans.{GrowPlan, grow_locks}
use Rattle.grow_hash.specs.GrowReplies.{reply_grown, changes_grown}
use Rattle.grow_hash.specs.declared.deciding.GrowFinding.{GrowFinding}
use Rattle.grow_hash.specs.declared.deciding.GrowFinding.TheVariants.{Settled, Open}

-- These are exactly the objects that the command locks in this state, with what it writes: different ones, fit to be committed.
pub record IsGrowPlanned (levels : ℕ) (command : Command) (s : State) (ws : Writes) : Type 0 where
  pub plan : GrowPlan levels command s ws
  pub distinct : are_distinct ws ≡ true
  pub within : AreWithin ws (length s)
  pub locks : length ws ≡ grow_locks
  pub fit : IsFit (IsGrowCommit levels) s (tag_of command) ws

-- It changes nothing and this is its reply, at the last time too; or, where a time is left, it changes something and this is planned.
abbrev pub IsGrowFound : ℕ → Command → State → GrowFinding → Type 0
IsGrowFound levels command s (Settled answer) = ((last : Bool) → answer ≡ reply_grown levels command s last) × (changes_grown levels command s false ≡ false)
IsGrowFound levels command s (Open writes) = (changes_grown levels command s false ≡ true) × IsGrowPlanned levels command s writes

-- the reply at the last time of what was found: a change comes too late
abbrev pub reply_at_last : GrowFinding → Reply
reply_at_last (Settled answer) = answer
reply_at_last (Open writes) = Worn
