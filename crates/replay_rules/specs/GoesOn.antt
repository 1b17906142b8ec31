-- How a call goes on behind a step.
use Rattle.std.specs.Prelude.{ℕ, ◌+◌, ◌==◌, ◌&&◌, ltb, leb, List, length, slice_set, replicate, None, unwrap_or, Bool, true, false, not}
use Rattle.std.specs.Prelude.{if◌then◌else◌}
use Rattle.mv_layout.specs.declared.config.Config.{Config}
use Rattle.mv_layout.specs.Words.{clock_time_of, clock_seat_of, clock_slot_of, link_seat_of}
use Rattle.mv_history.specs.declared.answers.LockAnswer.TheVariants as refusals
use Rattle.commit_abort.specs.declared.committing.Ended.TheVariants as ends
use Rattle.replay_rules.specs.declared.plan.Call.{Call}
use Rattle.replay_rules.specs.declared.plan.Call.TheVariants.{Enter, Read, Lock, Write, Commit, Abort, Leave, Tidy}
use Rattle.replay_rules.specs.declared.seats.NotedVersion.{NotedVersion}
use Rattle.replay_rules.specs.declared.seats.State.{State}
use Rattle.replay_rules.specs.declared.seats.Entering.{Entering}
use Rattle.replay_rules.specs.declared.seats.Entering.TheVariants.{LoadLow, StoreMark, LoadTime}
use Rattle.replay_rules.specs.declared.seats.Helping.{Helping}
use Rattle.replay_rules.specs.declared.seats.Helping.TheVariants.{LoadNamed, LoadCheck, SwapStamp}
use Rattle.replay_rules.specs.declared.seats.Walking.{Walking}
use Rattle.replay_rules.specs.declared.seats.Walking.TheVariants.{LoadHead, LoadFirst, LoadStamp, LoadPrev, LoadWord}
use Rattle.replay_rules.specs.declared.seats.Locking.{Locking}
use Rattle.replay_rules.specs.declared.seats.Locking.TheVariants.{Build, LockHead, ClearPrevious, FoundFirst, FoundStamp}
use Rattle.replay_rules.specs.declared.seats.Ending.{Ending}
use Rattle.replay_rules.specs.declared.seats.Ending.TheVariants.{LoadNow, Name, StampOwn, StoreSuper, Unlock, LoadDeath, Leave}
use Rattle.replay_rules.specs.declared.seats.Leaving.{Leaving}
use Rattle.replay_rules.specs.declared.seats.Leaving.TheVariants.{Plainly, WithCommit, WithAbort}
use Rattle.replay_rules.specs.declared.seats.Sweeping.TheVariants.{LoadGrace, LoadTop}
use Rattle.replay_rules.specs.declared.seats.Sweeping.TheVariants.{NameRest}
use Rattle.replay_rules.specs.declared.seats.NextStep.TheVariants.{Enters, Helps, Walks, Locks, Writes, EndsSection, Tidies}
use Rattle.replay_rules.specs.declared.seats.CallAnswer.TheVariants.{Silent, AtTime, SixWords, Locked, Committed}
use Rattle.replay_rules.specs.declared.seats.Then.{Then}
use Rattle.replay_rules.specs.declared.seats.Then.TheVariants.{Goes, Ends}
use Rattle.replay_rules.specs.declared.seats.Test.TheVariants.{IsLinked}
use Rattle.replay_rules.specs.Tasks.{next_clock, commit_clock}
use Rattle.replay_rules.specs.SeatNotes.{first_from, first_behind, version_at}
use Rattle.replay_rules.specs.Begins.{is_inside, unlock}

-- whether a stamp is unset
abbrev pub is_unset : ℕ → Bool
is_unset stamp = leb 9223372036854775808 stamp

-- the last time
abbrev pub is_last : ℕ → Bool
is_last time = time == 35184372088831

-- the exchange of CLOCK that a commit tries once the word is helped
abbrev pub name : Config → State → ℕ → Then
name c s word =
    if is_last (clock_time_of word) then Ends (Committed ends.End)
    else Goes (EndsSection (Name word (commit_clock c word s.seat s.from)))

-- What a tidy does once a word is helped: in a section it looks at HEAD of the object that it writes back, and outside it tries a
-- rest, but at the last time.
abbrev pub helped_in_tidy : List NotedVersion → State → ℕ → Then
helped_in_tidy log s word =
    if is_inside s then Goes (Tidies (LoadTop s.sweep.at (version_at log s.sweep.at).object))
    else (if is_last (clock_time_of word) then Goes (Tidies (LoadGrace true))
    else Goes (Tidies (NameRest word (next_clock word s.seat 8191))))

-- what a call does once a word is helped
abbrev pub helped_in : Call → Config → List NotedVersion → State → ℕ → Then
helped_in Enter c log s word = Ends (AtTime (clock_time_of word))
helped_in (Read object) c log s word = Ends (AtTime (clock_time_of word))
helped_in (Lock object) c log s word = Ends (AtTime (clock_time_of word))
helped_in (Write object words) c log s word = Ends (AtTime (clock_time_of word))
helped_in Commit c log s word = name c s word
helped_in Abort c log s word = Ends (AtTime (clock_time_of word))
helped_in Leave c log s word = Ends (AtTime (clock_time_of word))
helped_in Tidy c log s word = helped_in_tidy log s word

-- a word that names no commit is helped
abbrev pub help : Config → List NotedVersion → State → ℕ → Then
help c log s word = if clock_slot_of word == 8191 then helped_in s.call c log s word else Goes (Helps (LoadNamed word))

-- behind a step of an entering: MARK gets 1 more than CLOCK's time, and the word that CLOCK has then is helped
abbrev pub after_entering : Entering → Config → List NotedVersion → State → ℕ → Then
after_entering LoadLow c log s found = Goes (Enters (StoreMark (1 + clock_time_of found)))
after_entering (StoreMark mark) c log s found = Goes (Enters LoadTime)
after_entering LoadTime c log s found = help c log s found

-- behind a step of a help: an unset stamp is exchanged for the word's time if CLOCK still has the word; then the call goes on
abbrev pub after_helping : Helping → Config → List NotedVersion → State → ℕ → Then
after_helping (LoadNamed word) c log s found = if is_unset found then Goes (Helps (LoadCheck word found)) else helped_in s.call c log s word
after_helping (LoadCheck word unset) c log s found = if found == word then Goes (Helps (SwapStamp word unset)) else helped_in s.call c log s word
after_helping (SwapStamp word unset) c log s found = helped_in s.call c log s word

-- where a walk goes on at a link: link 0 is the master
abbrev pub stand : ℕ → ℕ → Then
stand object link = if link == 0 then Goes (Walks object (LoadWord link (replicate 6 0) 0)) else Goes (Walks object (LoadFirst link))

-- the refusal of a lock by a version with this stamp
abbrev pub refusal : ℕ → ℕ → Then
refusal link stamp = if is_unset stamp then Ends (Locked (refusals.Busy (link_seat_of link))) else Ends (Locked (refusals.Stale stamp))

-- whether a call is a lock
abbrev pub is_lock : Call → Bool
is_lock Enter = false
is_lock (Read object) = false
is_lock (Lock object) = true
is_lock (Write object words) = false
is_lock Commit = false
is_lock Abort = false
is_lock Leave = false
is_lock Tidy = false

-- a version of a time that isn't above the section's is read; past another one a read walks on, and a lock is refused by it
abbrev pub after_stamp : State → ℕ → ℕ → ℕ → Then
after_stamp s object link stamp =
    if not (is_unset stamp) && leb stamp (unwrap_or s.time 0) then Goes (Walks object (LoadWord link (replicate 6 0) 0))
    else (if is_lock s.call then refusal link stamp
    else Goes (Walks object (LoadPrev link)))

-- the version that a lock builds, over a link
abbrev pub new_version : State → ℕ → ℕ → List ℕ → NotedVersion
new_version s object link words =
    record { first = s.from; object = object; previous = link; words = words; time = 0; dead = 0; above = None }

-- a lock builds a version once the words are read, and a read answers them
abbrev pub after_words : List NotedVersion → State → ℕ → ℕ → List ℕ → Then
after_words log s object link words =
    if is_lock s.call then Goes (Locks (new_version s object link words) (length log) (Build 0)) else Ends (SixWords words)

-- behind a step of a walk over an object: from HEAD along the chain to the words that are read, then these one after another
abbrev pub after_walking : Walking → Config → List NotedVersion → State → ℕ → ℕ → Then
after_walking LoadHead c log s object found = stand object found
after_walking (LoadFirst link) c log s object found = Goes (Walks object (LoadStamp link found))
after_walking (LoadStamp link first) c log s object found = after_stamp s object link found
after_walking (LoadPrev link) c log s object found = stand object found
after_walking (LoadWord link words word) c log s object found =
    if ltb word 5 then Goes (Walks object (LoadWord link (slice_set words word found) (word + 1)))
    else after_words log s object link (slice_set words word found)

-- the field behind one; only the first slot of a write set has a stamp
abbrev pub after_field : NotedVersion → ℕ → ℕ → Then
after_field version at field =
    if (field == 0) && not (version.first == at) then Goes (Locks version at (Build 2))
    else (if ltb field 9 then Goes (Locks version at (Build (field + 1)))
    else Goes (Locks version at LockHead))

-- a lost exchange looks at the version that it found, or tries once more where the chain was cut
abbrev pub after_lock_head : NotedVersion → ℕ → ℕ → Then
after_lock_head version at found =
    if found == version.previous then Ends (Locked refusals.Held)
    else (if found == 0 then Goes (Locks (record version { previous = 0 }) at ClearPrevious)
    else Goes (Locks version at (FoundFirst found)))

-- behind a step of a lock past its walk: the slot is built, HEAD is exchanged, and a version that a lost exchange found refuses the lock
abbrev pub after_locking : Locking → NotedVersion → ℕ → ℕ → Then
after_locking (Build field) version at found = after_field version at field
after_locking LockHead version at found = after_lock_head version at found
after_locking ClearPrevious version at found = Goes (Locks version at LockHead)
after_locking (FoundFirst link) version at found = Goes (Locks version at (FoundStamp link found))
after_locking (FoundStamp link first) version at found = refusal link found

-- behind the store of a data word: the next one is stored, and behind the sixth the write ends
abbrev pub after_writing : ℕ → List ℕ → ℕ → Then
after_writing at words word = if ltb word 5 then Goes (Writes at words (word + 1)) else Ends Silent

-- the store of SUPER below the version at a position, and behind the last one the leave
abbrev pub store_super : List NotedVersion → ℕ → ℕ → Then
store_super log at time =
    if ltb at (length log) then Goes (EndsSection (StoreSuper at (version_at log at).previous time))
    else Goes (EndsSection (Leave (WithCommit time)))

-- a lost exchange names the rival
abbrev pub after_name : State → ℕ → ℕ → Then
after_name s word found =
    if found == word then Goes (EndsSection (StampOwn s.from (clock_time_of word + 1)))
    else Ends (Committed (ends.Again (record { seat = clock_seat_of found; time = clock_time_of found })))

-- behind an unlock of HEAD: that of the next held version, and behind the last one CLOCK is loaded for the time of death
abbrev pub after_unlock : List NotedVersion → ℕ → Then
after_unlock log at = if ltb (at + 1) (length log) then Goes (unlock log (at + 1)) else Goes (EndsSection LoadDeath)

-- behind the leave of a section: a commit answers its time, and a plain leave and an abort answer nothing
abbrev pub after_leaving : Leaving → Then
after_leaving Plainly = Ends Silent
after_leaving (WithCommit time) = Ends (Committed (ends.Done time))
after_leaving (WithAbort dead) = Ends Silent

-- a commit at the last time ends; before a rest the word is helped all the same
abbrev pub after_now : Call → Config → List NotedVersion → State → ℕ → Then
after_now Enter c log s found = help c log s found
after_now (Read object) c log s found = help c log s found
after_now (Lock object) c log s found = help c log s found
after_now (Write object words) c log s found = help c log s found
after_now Commit c log s found = if is_last (clock_time_of found) then Ends (Committed ends.End) else help c log s found
after_now Abort c log s found = help c log s found
after_now Leave c log s found = help c log s found
after_now Tidy c log s found = help c log s found

-- behind a step of a commit, an abort or a leave, or of the rest of a tidy
abbrev pub after_ending : Ending → Config → List NotedVersion → State → ℕ → Then
after_ending LoadNow c log s found = after_now s.call c log s found
after_ending (Name word new) c log s found = after_name s word found
after_ending (StampOwn first time) c log s found = store_super log (first_from log first IsLinked) time
after_ending (StoreSuper at link time) c log s found = store_super log (first_behind log at IsLinked) time
after_ending (Unlock at object previous) c log s found = after_unlock log at
after_ending LoadDeath c log s found = Goes (EndsSection (Leave (WithAbort (clock_time_of found + 1))))
after_ending (Leave leaving) c log s found = after_leaving leaving
