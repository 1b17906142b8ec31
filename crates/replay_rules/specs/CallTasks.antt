-- The steps that each call may come to.
use Rattle.std.specs.Prelude.{◌≡◌}
use Rattle.replay_rules.specs.declared.plan.Call.{Call}
use Rattle.replay_rules.specs.declared.plan.Call.TheVariants as calls
use Rattle.replay_rules.specs.declared.seats.Leaving.TheVariants.{Plainly, WithCommit, WithAbort}
use Rattle.replay_rules.specs.declared.seats.Ending.{Ending}
use Rattle.replay_rules.specs.declared.seats.Ending.TheVariants.{LoadNow, Name, StampOwn, StoreSuper, Unlock, LoadDeath, Leave}
use Rattle.replay_rules.specs.declared.seats.NextStep.{NextStep}
use Rattle.replay_rules.specs.declared.seats.NextStep.TheVariants.{Enters, Helps, Walks, Locks, Writes, EndsSection, Tidies}

-- of a commit
abbrev pub IsCommitEnding : Ending → Type 0
IsCommitEnding LoadNow = Unit {0}
IsCommitEnding (Name word new) = Unit {0}
IsCommitEnding (StampOwn first time) = Unit {0}
IsCommitEnding (StoreSuper at link time) = Unit {0}
IsCommitEnding (Leave (WithCommit time)) = Unit {0}
IsCommitEnding _ = ⊥

-- of an abort
abbrev pub IsAbortEnding : Ending → Type 0
IsAbortEnding (Unlock at object previous) = Unit {0}
IsAbortEnding LoadDeath = Unit {0}
IsAbortEnding (Leave Plainly) = Unit {0}
IsAbortEnding (Leave (WithAbort dead)) = Unit {0}
IsAbortEnding _ = ⊥

-- of a leave
abbrev pub IsLeaveEnding : Ending → Type 0
IsLeaveEnding (Leave Plainly) = Unit {0}
IsLeaveEnding _ = ⊥

-- of a tidy, beside its own: the load of CLOCK before a rest
abbrev pub IsRestEnding : Ending → Type 0
IsRestEnding LoadNow = Unit {0}
IsRestEnding _ = ⊥

-- The step is one of the call: an enter and a tidy enter sections, and help clock words as a commit does; a read and a lock walk over their object, and
-- a lock builds and locks a version of it; a write stores its words.
abbrev pub IsTaskOf : Call → NextStep → Type 0
IsTaskOf calls.Enter (Enters step) = Unit {0}
IsTaskOf calls.Enter (Helps step) = Unit {0}
IsTaskOf (calls.Read object) (Walks other next) = other ≡ object
IsTaskOf (calls.Lock object) (Walks other next) = other ≡ object
IsTaskOf (calls.Lock object) (Locks version at next) = version.object ≡ object
IsTaskOf (calls.Write object words) (Writes at these word) = these ≡ words
IsTaskOf calls.Commit (Helps step) = Unit {0}
IsTaskOf calls.Commit (EndsSection step) = IsCommitEnding step
IsTaskOf calls.Abort (EndsSection step) = IsAbortEnding step
IsTaskOf calls.Leave (EndsSection step) = IsLeaveEnding step
IsTaskOf calls.Tidy (Enters step) = Unit {0}
IsTaskOf calls.Tidy (Helps step) = Unit {0}
IsTaskOf calls.Tidy (EndsSection step) = IsRestEnding step
IsTaskOf calls.Tidy (Tidies step) = Unit {0}
IsTaskOf call task = ⊥
