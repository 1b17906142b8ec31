-- The number of each status, and the status of each answer.
use Rattle.std.specs.Prelude.{ℤ, pos, negsuc, Result, Ok, Err, Option, Some, None}
use Rattle.mv_history.specs.declared.answers.LockAnswer.{LockAnswer}
use Rattle.mv_history.specs.declared.answers.LockAnswer.TheVariants as lock
use Rattle.mv_history.specs.declared.answers.Room.{Room}
use Rattle.mv_history.specs.declared.answers.Room.TheVariants as room
use Rattle.object_seats.specs.declared.position.Misuse.{Misuse}
use Rattle.object_seats.specs.declared.position.Misuse.TheVariants as misuse
use Rattle.object_seats.specs.declared.position.Vacancy.{Vacancy}
use Rattle.object_seats.specs.declared.position.CommitResult.{CommitResult}
use Rattle.object_seats.specs.declared.position.CommitResult.TheVariants as ended
use Rattle.c_answers.specs.declared.status.Status.{Status}
use Rattle.c_answers.specs.declared.status.Status.TheVariants as status

-- The number of a status: one a meaning. `negsuc n` is -1 - n.
abbrev pub code_of : Status → ℤ
code_of status.Done = pos 0
code_of status.No = pos 1
code_of status.Again = pos 2
code_of status.Busy = pos 3
code_of status.Stale = pos 4
code_of status.Short = pos 5
code_of status.LogFull = pos 6
code_of status.Full = negsuc 0
code_of status.Worn = negsuc 1
code_of status.BadSet = negsuc 2
code_of status.SameSet = negsuc 3
code_of status.Closed = negsuc 4
code_of status.InUse = negsuc 5
code_of status.BadNumber = negsuc 6
code_of status.NoMemory = negsuc 7
code_of status.Outside = negsuc 11
code_of status.Inside = negsuc 12
code_of status.BadObject = negsuc 13
code_of status.NotLocked = negsuc 14
code_of status.Empty = negsuc 15
code_of status.Holding = negsuc 16
code_of status.SetFull = negsuc 17
code_of status.BadPlace = negsuc 18
code_of status.BadCommand = negsuc 19
code_of status.BadBlock = negsuc 20

-- each misuse has its own status
abbrev pub status_of_misuse : Misuse → Status
status_of_misuse misuse.Outside = status.Outside
status_of_misuse misuse.Inside = status.Inside
status_of_misuse misuse.Object = status.BadObject
status_of_misuse misuse.Place = status.BadPlace
status_of_misuse misuse.NotLocked = status.NotLocked
status_of_misuse misuse.Empty = status.Empty
status_of_misuse misuse.Holding = status.Holding

-- the status of what a lock answers: done where the object is held, and else why it is not
abbrev pub status_of_lock : LockAnswer → Status
status_of_lock lock.Held = status.Done
status_of_lock (lock.Busy seat) = status.Busy
status_of_lock (lock.Stale time) = status.Stale
status_of_lock lock.SetFull = status.SetFull
status_of_lock lock.LogFull = status.LogFull

-- of a look for a vacant object
abbrev pub status_of_vacant : Option Vacancy → Status
status_of_vacant None = status.Full
status_of_vacant (Some found) = status_of_lock found.lock

-- the status of making room: done, or short where there is too little
abbrev pub status_of_room : Room → Status
status_of_room room.Enough = status.Done
status_of_room (room.Short holder) = status.Short

-- the status of a commit: done, again where another seat's entry came first, or worn at the last time
abbrev pub status_of_commit : CommitResult → Status
status_of_commit (ended.Done time) = status.Done
status_of_commit (ended.Again rival) = status.Again
status_of_commit ended.End = status.Worn

-- a call that tells nothing by its number but that it was made
abbrev pub done : {A : Type 0} → A → Status
done answer = status.Done

-- what a call tells that is made, or is a misuse
abbrev pub status_of : {A : Type 0} → (A → Status) → Result A Misuse → Status
status_of made (Ok answer) = made answer
status_of made (Err why) = status_of_misuse why

-- what a call tells of a seat that may be closed
abbrev pub told_by : {A : Type 0} → (A → Status) → Option (Result A Misuse) → Status
told_by made None = status.Closed
told_by made (Some answer) = status_of made answer
