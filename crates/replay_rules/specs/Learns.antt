-- What a step changes of what its seat is at, and of the notes of its log.
use Rattle.std.specs.Prelude.{ℕ, ◌+◌, ◌-◌, ◌==◌, ltb, leb, max, List, length, slice_index, Option, Some, None, true, false, not}
use Rattle.std.specs.Prelude.{◌&&◌, if◌then◌else◌}
use Rattle.mv_layout.specs.Words.{clock_time_of, link_seat_of}
use Rattle.replay_rules.specs.declared.seats.NotedVersion.{NotedVersion}
use Rattle.replay_rules.specs.declared.seats.Scanned.{Scanned}
use Rattle.replay_rules.specs.declared.seats.Sweep.{Sweep}
use Rattle.replay_rules.specs.declared.seats.State.{State}
use Rattle.replay_rules.specs.declared.seats.Entering.{Entering}
use Rattle.replay_rules.specs.declared.seats.Entering.TheVariants.{LoadLow, StoreMark, LoadTime}
use Rattle.replay_rules.specs.declared.seats.Helping.{Helping}
use Rattle.replay_rules.specs.declared.seats.Helping.TheVariants.{LoadNamed, LoadCheck, SwapStamp}
use Rattle.replay_rules.specs.declared.seats.Locking.{Locking}
use Rattle.replay_rules.specs.declared.seats.Locking.TheVariants.{Build, LockHead, ClearPrevious, FoundFirst, FoundStamp}
use Rattle.replay_rules.specs.declared.seats.Ending.{Ending}
use Rattle.replay_rules.specs.declared.seats.Ending.TheVariants.{LoadNow, Name, StampOwn, StoreSuper, Unlock, LoadDeath, Leave}
use Rattle.replay_rules.specs.declared.seats.Leaving.{Leaving}
use Rattle.replay_rules.specs.declared.seats.Leaving.TheVariants.{Plainly, WithCommit, WithAbort}
use Rattle.replay_rules.specs.declared.seats.WriteBackEnd.{WriteBackEnd}
use Rattle.replay_rules.specs.declared.seats.WriteBackEnd.TheVariants.{WasCut, WasGone, WasAbove}
use Rattle.replay_rules.specs.declared.seats.Sweeping.{Sweeping}
use Rattle.replay_rules.specs.declared.seats.Sweeping.TheVariants.{LoadGrace, Free, LoadScan, LoadMark, RaiseGrace, LoadSuper, LoadTop, StoreMaster}
use Rattle.replay_rules.specs.declared.seats.Sweeping.TheVariants.{CutHead, LoadCutDeath, LeaveBack, LoadSuperAgain, NameRest}
use Rattle.replay_rules.specs.declared.seats.NextStep.{NextStep}
use Rattle.replay_rules.specs.declared.seats.NextStep.TheVariants.{Enters, Helps, Walks, Locks, Writes, EndsSection, Tidies}
use Rattle.replay_rules.specs.declared.seats.Edit.{Edit}
use Rattle.replay_rules.specs.declared.seats.Edit.TheVariants.{Kept, Pushed, WordPut, CommittedFrom, AbortedFrom, Retired, AboveNoted}

-- with a time that was found in CLOCK
abbrev pub with_clock : State → ℕ → State
with_clock s word = record s { sweep = record s.sweep { latest = max s.sweep.latest (clock_time_of word) } }

-- a section begins with the third step of an entering
abbrev pub entered : Entering → State → ℕ → State
entered LoadLow s found = s
entered (StoreMark mark) s found = s
entered LoadTime s found = with_clock (record s { time = Some (clock_time_of found) }) found

-- a help notes the time that its load of CLOCK finds
abbrev pub helped : Helping → State → ℕ → State
helped (LoadNamed word) s found = s
helped (LoadCheck word unset) s found = with_clock s found
helped (SwapStamp word unset) s found = s

-- a section ends with a leave, when nothing is held any more
abbrev pub ended : Ending → List NotedVersion → State → State
ended LoadNow log s = s
ended (Name word new) log s = s
ended (StampOwn first time) log s = s
ended (StoreSuper at link time) log s = s
ended (Unlock at object previous) log s = s
ended LoadDeath log s = s
ended (Leave leaving) log s = record s { time = None; from = length log }

-- a scan that has loaded CLOCK
abbrev pub scan_begun : ℕ → Scanned
scan_begun word = record { time = clock_time_of word; low = clock_time_of word; seat = 0; clock = clock_time_of word }

-- a seat whose scan has loaded CLOCK, and found this word
abbrev pub scanning : State → ℕ → State
scanning s word = with_clock (record s { sweep = record s.sweep { last = scan_begun word } }) word

-- with a mark more, of a seat above all before
abbrev pub lowered : Scanned → ℕ → ℕ → Scanned
lowered scan seat mark =
    if mark == 0 then scan else (if leb scan.low (mark - 1) then scan else record scan { low = mark - 1; seat = seat })

-- a scan that is whole: its watermark is the greater of its low time and the time found in GRACE
abbrev pub scanned_to : Scanned → ℕ → Scanned
scanned_to scan found = record scan { time = max scan.low found }

-- how far a tidy is once its scan is whole, where GRACE had this time: its round frees up to the scan's watermark
abbrev pub scanned : Sweep → ℕ → Sweep
scanned w found =
    record w {
      swept = true;
      bound = max w.last.low found;
      first = if w.again then w.first else scanned_to w.last found;
      last = scanned_to w.last found;
    }

-- one version more was freed
abbrev pub freed_one : List NotedVersion → State → State
freed_one log s = if ltb s.freed (length log) then record s { freed = s.freed + 1 } else s

-- what a step of a tidy changes of what its seat is at: how far the tidy is, what is freed, and the section of a write-back
abbrev pub swept : Sweeping → List NotedVersion → State → ℕ → State
swept (LoadGrace again) log s found = record s { sweep = record s.sweep { again = again; swept = false; bound = found } }
swept (Free at left) log s found = freed_one log s
swept LoadScan log s found = scanning s found
swept (LoadMark seat) log s found = record s { sweep = record s.sweep { last = lowered s.sweep.last seat found } }
swept (RaiseGrace low) log s found = record s { sweep = scanned s.sweep found }
swept (LoadSuper at) log s found = record s { sweep = record s.sweep { at = at } }
swept (LoadTop at object) log s found = s
swept (StoreMaster at object words word) log s found = s
swept (CutHead at object) log s found = s
swept (LoadCutDeath at) log s found = with_clock s found
swept (LeaveBack at back) log s found = record s { time = None }
swept (LoadSuperAgain at) log s found = s
swept (NameRest word new) log s found = s

-- what a seat is at behind a step that found this, by the notes before it
abbrev pub state_after : NextStep → List NotedVersion → State → ℕ → State
state_after (Enters step) log s found = entered step s found
state_after (Helps step) log s found = helped step s found
state_after (Walks object next) log s found = s
state_after (Locks version at next) log s found = s
state_after (Writes at words word) log s found = s
state_after (EndsSection step) log s found = ended step log s
state_after (Tidies step) log s found = swept step log s found

-- what is held is committed or given up where its section ends so
abbrev pub edit_of_leaving : ℕ → Leaving → Edit
edit_of_leaving from Plainly = Kept
edit_of_leaving from (WithCommit time) = CommittedFrom from time
edit_of_leaving from (WithAbort dead) = AbortedFrom from dead

-- of the steps that end a section the leave alone changes the notes
abbrev pub edit_of_end : ℕ → Ending → Edit
edit_of_end from LoadNow = Kept
edit_of_end from (Name word new) = Kept
edit_of_end from (StampOwn first time) = Kept
edit_of_end from (StoreSuper at link time) = Kept
edit_of_end from (Unlock at object previous) = Kept
edit_of_end from LoadDeath = Kept
edit_of_end from (Leave leaving) = edit_of_leaving from leaving

-- a time that is found in SUPER is that of the version's death
abbrev pub edit_of_super : ℕ → ℕ → Edit
edit_of_super at found = if found == 0 then Kept else Retired at found

-- a write-back has cut the chain, or found a newer version
abbrev pub edit_of_back : ℕ → WriteBackEnd → Edit
edit_of_back at (WasCut dead) = Retired at dead
edit_of_back at WasGone = Kept
edit_of_back at (WasAbove seat) = AboveNoted at seat

-- a tidy notes the times of death that it finds in SUPER, and what its write-backs have come to
abbrev pub edit_of_sweep : Sweeping → State → ℕ → Edit
edit_of_sweep (LoadGrace again) s found = Kept
edit_of_sweep (Free at left) s found = Kept
edit_of_sweep LoadScan s found = Kept
edit_of_sweep (LoadMark seat) s found = Kept
edit_of_sweep (RaiseGrace low) s found = Kept
edit_of_sweep (LoadSuper at) s found = if (found == 0) && not s.sweep.again then AboveNoted at None else edit_of_super at found
edit_of_sweep (LoadTop at object) s found = Kept
edit_of_sweep (StoreMaster at object words word) s found = Kept
edit_of_sweep (CutHead at object) s found = Kept
edit_of_sweep (LoadCutDeath at) s found = Kept
edit_of_sweep (LeaveBack at back) s found = edit_of_back at back
edit_of_sweep (LoadSuperAgain at) s found = edit_of_super at found
edit_of_sweep (NameRest word new) s found = Kept

-- a won exchange of HEAD puts the version among those that are held
abbrev pub edit_of_lock : Locking → NotedVersion → ℕ → Edit
edit_of_lock (Build field) version found = Kept
edit_of_lock LockHead version found = if found == version.previous then Pushed version else Kept
edit_of_lock ClearPrevious version found = Kept
edit_of_lock (FoundFirst link) version found = Kept
edit_of_lock (FoundStamp link first) version found = Kept

-- what the step changes in the notes
abbrev pub edit_of : NextStep → State → ℕ → Edit
edit_of (Enters step) s found = Kept
edit_of (Helps step) s found = Kept
edit_of (Walks object next) s found = Kept
edit_of (Locks version at next) s found = edit_of_lock next version found
edit_of (Writes at words word) s found = WordPut at word (slice_index words word)
edit_of (EndsSection step) s found = edit_of_end s.from step
edit_of (Tidies step) s found = edit_of_sweep step s found

-- the seat of a link, if it is another than this one
abbrev pub other_seat : ℕ → ℕ → Option ℕ
other_seat seat link = if link_seat_of link == seat then None else Some (link_seat_of link)
