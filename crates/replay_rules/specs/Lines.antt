-- The lines of a replay.
use Rattle.std.specs.Prelude.{ℕ, ◌==◌, List, [], ◌++◌, codes, decimal, slice_index, Option, Some, None, if◌then◌else◌}
use Rattle.mv_history.specs.declared.answers.LockAnswer.{LockAnswer}
use Rattle.mv_history.specs.declared.answers.LockAnswer.TheVariants.{Held, Busy, Stale, SetFull, LogFull}
use Rattle.mv_history.specs.declared.answers.Holder.{Holder}
use Rattle.mv_history.specs.declared.answers.Holder.TheVariants as holders
use Rattle.commit_abort.specs.declared.committing.Ended.{Ended}
use Rattle.commit_abort.specs.declared.committing.Ended.TheVariants.{Done, Again, End}
use Rattle.replay_rules.specs.declared.plan.Call.{Call}
use Rattle.replay_rules.specs.declared.plan.Call.TheVariants as calls
use Rattle.replay_rules.specs.declared.seats.Access.{Access}
use Rattle.replay_rules.specs.declared.seats.Access.TheVariants.{Load, Store, Swap, Raise}
use Rattle.replay_rules.specs.declared.seats.CallAnswer.{CallAnswer}
use Rattle.replay_rules.specs.declared.seats.CallAnswer.TheVariants.{Silent, AtTime, SixWords, Locked, Committed, Tidied}

-- a number behind a blank
abbrev pub spaced : ℕ → List ℕ
spaced n = codes " " ++ decimal n

-- the name of a call
abbrev pub name_of : Call → List ℕ
name_of calls.Enter = codes "enter"
name_of (calls.Read object) = codes "read"
name_of (calls.Lock object) = codes "lock"
name_of (calls.Write object words) = codes "write"
name_of calls.Commit = codes "commit"
name_of calls.Abort = codes "abort"
name_of calls.Leave = codes "leave"
name_of calls.Tidy = codes "tidy"

-- a turn of a seat that has no call left
abbrev pub idle_line : ℕ → List ℕ
idle_line seat = decimal seat ++ codes " idle\n"

-- a call whose condition is false
abbrev pub skip_line : ℕ → Call → List ℕ
skip_line seat call = decimal seat ++ codes " skip " ++ name_of call ++ codes "\n"

-- the last line, with the time of CLOCK
abbrev pub end_line : ℕ → List ℕ
end_line time = codes "end " ++ decimal time ++ codes "\n"

-- what a step does, with the word's number, what it found there, and the word that it offers
abbrev pub text_of_access : Access → ℕ → ℕ → List ℕ
text_of_access Load place found = codes "load " ++ decimal place ++ spaced found
text_of_access (Store new) place found = codes "store " ++ decimal place ++ spaced new
text_of_access (Swap old new) place found =
    codes "swap " ++ decimal place ++ spaced found ++ spaced new ++ (if found == old then codes " won" else codes " lost")
text_of_access (Raise by) place found = codes "max " ++ decimal place ++ spaced found ++ spaced by

-- a step: its number and its seat before that
abbrev pub step_line : ℕ → ℕ → Access → ℕ → ℕ → List ℕ
step_line made seat access place found = decimal made ++ spaced seat ++ codes " " ++ text_of_access access place found ++ codes "\n"

-- six words
abbrev pub text_of_words : List ℕ → List ℕ
text_of_words words =
    spaced (slice_index words 0) ++ spaced (slice_index words 1) ++ spaced (slice_index words 2) ++ spaced (slice_index words 3)
    ++ spaced (slice_index words 4) ++ spaced (slice_index words 5)

-- what is written of what a lock answers
abbrev pub text_of_lock : LockAnswer → List ℕ
text_of_lock Held = codes " held"
text_of_lock (Busy seat) = codes " busy" ++ spaced seat
text_of_lock (Stale time) = codes " stale" ++ spaced time
text_of_lock SetFull = codes " setfull"
text_of_lock LogFull = codes " logfull"

-- what is written of how a commit ended, with its own time, or with the rival's seat and time
abbrev pub text_of_commit : Ended → List ℕ
text_of_commit (Done time) = codes " done" ++ spaced time
text_of_commit (Again rival) = codes " again" ++ spaced rival.seat ++ spaced rival.time
text_of_commit End = codes " end"

-- what is written of who holds a log back
abbrev pub text_of_holder : Holder → List ℕ
text_of_holder (holders.Mark seat low) = codes " mark" ++ spaced seat ++ spaced low
text_of_holder (holders.Above object seat) = codes " above" ++ spaced object ++ spaced seat
text_of_holder (holders.Fresh time) = codes " fresh" ++ spaced time
text_of_holder holders.End = codes " end"

-- the same of the holder of a log, if something holds it back
abbrev pub text_of_held : Option Holder → List ℕ
text_of_held None = []
text_of_held (Some holder) = text_of_holder holder

-- what is written of an answer
abbrev pub text_of_answer : CallAnswer → List ℕ
text_of_answer Silent = []
text_of_answer (AtTime time) = spaced time
text_of_answer (SixWords words) = text_of_words words
text_of_answer (Locked answer) = text_of_lock answer
text_of_answer (Committed ended) = text_of_commit ended
text_of_answer (Tidied tidy) = spaced tidy.freed ++ spaced tidy.live ++ text_of_held tidy.held

-- a call that ends
abbrev pub answer_line : ℕ → Call → CallAnswer → List ℕ
answer_line seat call answer = decimal seat ++ codes " " ++ name_of call ++ text_of_answer answer ++ codes "\n"
