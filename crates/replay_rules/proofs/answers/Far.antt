-- How far each call has come, and that it comes to its answer.
use Rattle.replay_rules.specs.declared.plan.Call.{Call}
use Rattle.replay_rules.specs.declared.plan.Call.TheVariants.{Enter, Read, Lock, Write, Commit, Abort, Leave, Tidy}
use Rattle.replay_rules.proofs.answers.Progress.{FarOf, BeginsSo, GoesOnSo}
use Rattle.replay_rules.proofs.answers.Enters.{EnterFar, enter_begins, enter_goes}
use Rattle.replay_rules.proofs.answers.Leaves.{LeaveFar, leave_begins, leave_goes}
use Rattle.replay_rules.proofs.answers.Reads.{ReadFar, read_begins, read_goes}
use Rattle.replay_rules.proofs.answers.Writes.{WriteFar, write_begins, write_goes}
use Rattle.replay_rules.proofs.answers.Locks.Far.{LockFar}
use Rattle.replay_rules.proofs.answers.Locks.Begins.{lock_begins}
use Rattle.replay_rules.proofs.answers.Locks.Goes.{lock_goes}
use Rattle.replay_rules.proofs.answers.CommitFar.{CommitFar}
use Rattle.replay_rules.proofs.answers.Commits.{commit_begins, commit_goes}
use Rattle.replay_rules.proofs.answers.Aborts.{AbortFar, abort_begins, abort_goes}
use Rattle.replay_rules.proofs.answers.Tidying.Far.{TidyFar}
use Rattle.replay_rules.proofs.answers.Tidying.Tidy.{tidy_begins, tidy_goes}

-- how far a call has come, by which one it is
abbrev pub FarIn : Call → FarOf
FarIn Enter = EnterFar
FarIn (Read o) = ReadFar o
FarIn (Lock o) = LockFar o
FarIn (Write o words) = WriteFar o words
FarIn Commit = CommitFar
FarIn Abort = AbortFar
FarIn Leave = LeaveFar
FarIn Tidy = TidyFar

pub call_begins : (call : Call) → BeginsSo call (FarIn call)
call_begins Enter = enter_begins
call_begins (Read o) = read_begins o
call_begins (Lock o) = lock_begins o
call_begins (Write o words) = write_begins o words
call_begins Commit = commit_begins
call_begins Abort = abort_begins
call_begins Leave = leave_begins
call_begins Tidy = tidy_begins

pub call_goes : (call : Call) → GoesOnSo call (FarIn call)
call_goes Enter = enter_goes
call_goes (Read o) = read_goes o
call_goes (Lock o) = lock_goes o
call_goes (Write o words) = write_goes o words
call_goes Commit = commit_goes
call_goes Abort = abort_goes
call_goes Leave = leave_goes
call_goes Tidy = tidy_goes
