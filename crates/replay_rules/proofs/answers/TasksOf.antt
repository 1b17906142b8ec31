-- The step that a call comes to is one of the call.
use Rattle.std.proofs.Common.{ℕ, List, Option, Some}
use Rattle.mv_core.proofs.Terms.{Config}
use Rattle.mv_core.specs.declared.view.Knowledge.{Knowledge}
use Rattle.replay_rules.specs.declared.plan.Call.{Call}
use Rattle.replay_rules.specs.declared.plan.Call.TheVariants as calls
use Rattle.replay_rules.specs.declared.seats.NotedVersion.{NotedVersion}
use Rattle.replay_rules.specs.declared.seats.Sweep.{Sweep}
use Rattle.replay_rules.specs.declared.seats.State.{State}
use Rattle.replay_rules.specs.declared.seats.Leaving.TheVariants.{Plainly, WithCommit, WithAbort}
use Rattle.replay_rules.specs.declared.seats.Ending.{Ending}
use Rattle.replay_rules.specs.declared.seats.Ending.TheVariants.{LoadNow, Name, StampOwn, StoreSuper, Unlock, LoadDeath, Leave}
use Rattle.replay_rules.specs.declared.seats.NextStep.{NextStep}
use Rattle.replay_rules.specs.declared.seats.NextStep.TheVariants.{Enters, Helps, Walks, Locks, Writes, EndsSection, Tidies}
use Rattle.replay_rules.specs.CallTasks.{IsCommitEnding, IsAbortEnding, IsLeaveEnding, IsRestEnding, IsTaskOf}
use Rattle.replay_rules.proofs.runs.Standing.{StandsFor}
use Rattle.replay_rules.proofs.answers.Progress.{state_with}
use Rattle.replay_rules.proofs.answers.Leaves.{LeavingFar}
use Rattle.replay_rules.proofs.answers.CommitFar.{CommittingFar}
use Rattle.replay_rules.proofs.answers.Aborts.{AbortingFar}
use Rattle.replay_rules.proofs.answers.Tidying.Far.{EndsFar}
use Rattle.replay_rules.proofs.answers.Far.{FarIn}

commit_step : (c : Config) (v w : Knowledge) (log : List NotedVersion) (from : ℕ) (step : Ending) → CommittingFar c v w log from step → IsCommitEnding step
commit_step c v w log from LoadNow far = tt
commit_step c v w log from (Name word new) far = tt
commit_step c v w log from (StampOwn first time) far = tt
commit_step c v w log from (StoreSuper at link time) far = tt
commit_step c v w log from (Leave (WithCommit time)) far = tt
commit_step c v w log from (Leave Plainly) far = absurd far
commit_step c v w log from (Leave (WithAbort dead)) far = absurd far
commit_step c v w log from (Unlock at object previous) far = absurd far
commit_step c v w log from LoadDeath far = absurd far

abort_step : (v w : Knowledge) (log : List NotedVersion) (from : ℕ) (step : Ending) → AbortingFar v w log from step → IsAbortEnding step
abort_step v w log from (Unlock at object previous) far = tt
abort_step v w log from LoadDeath far = tt
abort_step v w log from (Leave Plainly) far = tt
abort_step v w log from (Leave (WithAbort dead)) far = tt
abort_step v w log from (Leave (WithCommit time)) far = absurd far
abort_step v w log from LoadNow far = absurd far
abort_step v w log from (Name word new) far = absurd far
abort_step v w log from (StampOwn first time) far = absurd far
abort_step v w log from (StoreSuper at link time) far = absurd far

leave_step : (v w : Knowledge) (step : Ending) → LeavingFar v w step → IsLeaveEnding step
leave_step v w (Leave Plainly) far = tt
leave_step v w (Leave (WithCommit time)) far = absurd far
leave_step v w (Leave (WithAbort dead)) far = absurd far
leave_step v w LoadNow far = absurd far
leave_step v w (Name word new) far = absurd far
leave_step v w (StampOwn first time) far = absurd far
leave_step v w (StoreSuper at link time) far = absurd far
leave_step v w (Unlock at object previous) far = absurd far
leave_step v w LoadDeath far = absurd far

rest_step : (c : Config) (v w : Knowledge) (log : List NotedVersion) (s : State) (step : Ending) → EndsFar c v w log s step → IsRestEnding step
rest_step c v w log s LoadNow far = tt
rest_step c v w log s _ far = absurd far

module _ (c : Config) (n : ℕ) (v0 v : Knowledge) (log : List NotedVersion) (freed from : ℕ) (time : Option ℕ) (sweep : Sweep) where
  -- the seat stands at the task in this call, which has come so far
  abbrev At : Call → NextStep → Type 0
  At call task =
      StandsFor c n v log freed from time call sweep (Some task) × FarIn call c n v0 v log (state_with n time from freed call sweep) task

  enter_task : (task : NextStep) → At calls.Enter task → IsTaskOf calls.Enter task
  enter_task (Enters step) at = tt
  enter_task (Helps step) at = tt
  enter_task _ at = absurd (at.1)

  read_task : (o : ℕ) (task : NextStep) → At (calls.Read o) task → IsTaskOf (calls.Read o) task
  read_task o (Walks p next) at = at.0.2
  read_task o _ at = absurd (at.1)

  lock_task : (o : ℕ) (task : NextStep) → At (calls.Lock o) task → IsTaskOf (calls.Lock o) task
  lock_task o (Walks p next) at = at.0.2.0
  lock_task o (Locks version place next) at = at.1.0
  lock_task o _ at = absurd (at.1)

  write_task : (o : ℕ) (words : List ℕ) (task : NextStep) → At (calls.Write o words) task → IsTaskOf (calls.Write o words) task
  write_task o words (Writes place these word) at = at.1.1
  write_task o words _ at = absurd (at.1)

  commit_task : (task : NextStep) → At calls.Commit task → IsTaskOf calls.Commit task
  commit_task (Helps step) at = tt
  commit_task (EndsSection step) at = commit_step c v0 v log from step at.1
  commit_task _ at = absurd (at.1)

  abort_task : (task : NextStep) → At calls.Abort task → IsTaskOf calls.Abort task
  abort_task (EndsSection step) at = abort_step v0 v log from step at.1
  abort_task _ at = absurd (at.1)

  leave_task : (task : NextStep) → At calls.Leave task → IsTaskOf calls.Leave task
  leave_task (EndsSection step) at = leave_step v0 v step at.1
  leave_task _ at = absurd (at.1)

  tidy_task : (task : NextStep) → At calls.Tidy task → IsTaskOf calls.Tidy task
  tidy_task (Enters step) at = tt
  tidy_task (Helps step) at = tt
  tidy_task (EndsSection step) at = rest_step c v0 v log (state_with n time from freed calls.Tidy sweep) step at.1
  tidy_task (Tidies step) at = tt
  tidy_task _ at = absurd (at.1)

  pub task_of : (call : Call) (task : NextStep) → StandsFor c n v log freed from time call sweep (Some task)
      → FarIn call c n v0 v log (state_with n time from freed call sweep) task → IsTaskOf call task
  task_of calls.Enter task stands far = enter_task task (stands, far)
  task_of (calls.Read o) task stands far = read_task o task (stands, far)
  task_of (calls.Lock o) task stands far = lock_task o task (stands, far)
  task_of (calls.Write o words) task stands far = write_task o words task (stands, far)
  task_of calls.Commit task stands far = commit_task task (stands, far)
  task_of calls.Abort task stands far = abort_task task (stands, far)
  task_of calls.Leave task stands far = leave_task task (stands, far)
  task_of calls.Tidy task stands far = tidy_task task (stands, far)
