-- How a tidy goes on behind a step, and how each call does.
use Rattle.std.specs.Prelude.{ℕ, ◌+◌, ◌-◌, ◌==◌, ◌&&◌, ◌||◌, ltb, leb, List, length, Option, Some, None, Bool, true, not}
use Rattle.std.specs.Prelude.{if◌then◌else◌}
use Rattle.mv_layout.specs.declared.config.Config.{Config}
use Rattle.mv_layout.specs.Words.{clock_time_of}
use Rattle.mv_history.specs.declared.answers.Holder.{Holder}
use Rattle.mv_history.specs.declared.answers.Holder.TheVariants as holders
use Rattle.replay_rules.specs.declared.seats.NotedVersion.{NotedVersion}
use Rattle.replay_rules.specs.declared.seats.Scanned.{Scanned}
use Rattle.replay_rules.specs.declared.seats.Sweep.{Sweep}
use Rattle.replay_rules.specs.declared.seats.State.{State}
use Rattle.replay_rules.specs.declared.seats.Entering.TheVariants as enter
use Rattle.replay_rules.specs.declared.seats.Ending.TheVariants as finish
use Rattle.replay_rules.specs.declared.seats.WriteBackEnd.{WriteBackEnd}
use Rattle.replay_rules.specs.declared.seats.WriteBackEnd.TheVariants.{WasCut, WasGone, WasAbove}
use Rattle.replay_rules.specs.declared.seats.Sweeping.{Sweeping}
use Rattle.replay_rules.specs.declared.seats.Sweeping.TheVariants.{LoadGrace, Free, LoadScan, LoadMark, RaiseGrace, LoadSuper, LoadTop, StoreMaster}
use Rattle.replay_rules.specs.declared.seats.Sweeping.TheVariants.{CutHead, LoadCutDeath, LeaveBack, LoadSuperAgain, NameRest}
use Rattle.replay_rules.specs.declared.seats.NextStep.{NextStep}
use Rattle.replay_rules.specs.declared.seats.NextStep.TheVariants.{Enters, Helps, Walks, Locks, Writes, EndsSection, Tidies}
use Rattle.replay_rules.specs.declared.seats.CallAnswer.TheVariants.{Tidied}
use Rattle.replay_rules.specs.declared.seats.Then.{Then}
use Rattle.replay_rules.specs.declared.seats.Then.TheVariants.{Goes, Ends}
use Rattle.replay_rules.specs.declared.seats.Test.TheVariants.{IsUntimed, IsDeadAbove, EndsSet}
use Rattle.replay_rules.specs.Tasks.{link_to}
use Rattle.replay_rules.specs.SeatNotes.{first_from, first_behind, version_at, live, dead_count}
use Rattle.replay_rules.specs.Learns.{other_seat}
use Rattle.replay_rules.specs.GoesOn.{is_last, after_entering, after_helping, after_walking, after_locking, after_writing, after_ending}

-- a version is dead only from a time above those that the tidy found in CLOCK, and the last time isn't reached
abbrev pub rest_is_due : List NotedVersion → State → Bool
rest_is_due log s =
    not (is_last s.sweep.latest) && ltb (first_from log s.freed (IsDeadAbove s.sweep.latest)) (length log)

-- the holder by the mark of a scan
abbrev pub by_mark : Scanned → Holder
by_mark scan = holders.Mark scan.seat scan.low

-- the holder of a version that its write-back left without a time of death
abbrev pub by_back : Option ℕ → NotedVersion → Sweep → Holder
by_back (Some seat) v w = holders.Above v.object seat
by_back None v w = by_mark w.first

-- why a version isn't dead by the last scan's watermark
abbrev pub holder_of : NotedVersion → Sweep → Holder
holder_of v w =
    if ltb 35184372088831 v.dead then holders.End
    else (if ltb w.last.clock v.dead then holders.Fresh v.dead
    else (if v.dead == 0 then by_back v.above v w
    else by_mark w.last))

-- who holds the oldest write set, if one is left
abbrev pub holder : List NotedVersion → State → Option Holder
holder log s =
    if ltb s.freed (length log) then Some (holder_of (version_at log (first_from log s.freed (EndsSet s.freed s.sweep.last.time))) s.sweep)
    else None

-- what a tidy answers
abbrev pub tidied : List NotedVersion → State → Then
tidied log s = Ends (Tidied (record { freed = s.freed - s.sweep.began; live = live log s; held = holder log s }))

-- behind all frees of a round: the scan where it hasn't scanned and something is left, and else the end of the round
abbrev pub after_frees : List NotedVersion → State → Then
after_frees log s =
    if not s.sweep.swept && ltb 0 (live log s) then Goes (Tidies LoadScan)
    else (if s.sweep.again then tidied log s
    else (if rest_is_due log s then Goes (EndsSection finish.LoadNow)
    else Goes (Tidies (LoadGrace true))))

-- the free of the oldest write set, where it is dead
abbrev pub free : List NotedVersion → State → Then
free log s =
    let left = dead_count log s s.sweep.bound in
    if left == 0 then after_frees log s else Goes (Tidies (Free s.freed left))

-- behind the free of a slot: the next one of the write set, and behind its last one the next write set
abbrev pub after_free : List NotedVersion → State → ℕ → Then
after_free log s left = if leb left 1 then free log s else Goes (Tidies (Free s.freed (left - 1)))

-- the mark of the seat, or of the next one where this is the own; behind the last one GRACE is raised
abbrev pub look_at : Config → State → ℕ → Then
look_at c s seat =
    if not (seat == s.seat) && ltb seat c.seats then Goes (Tidies (LoadMark seat))
    else (if ltb (seat + 1) c.seats then Goes (Tidies (LoadMark (seat + 1)))
    else Goes (Tidies (RaiseGrace s.sweep.last.low)))

-- looks at the version at a position, which has no time of death; behind the last one the round frees
abbrev pub settle : List NotedVersion → State → ℕ → Then
settle log s at = if ltb at (length log) then Goes (Tidies (LoadSuper at)) else free log s

-- looks at the next version without a time of death behind a position
abbrev pub settle_behind : List NotedVersion → State → ℕ → Then
settle_behind log s at = settle log s (first_behind log at IsUntimed)

-- in a round with write-backs a version that is old enough is written back, in a section
abbrev pub after_super : List NotedVersion → State → ℕ → ℕ → Then
after_super log s at found =
    if not (found == 0) || (s.sweep.again || ltb s.sweep.last.time (version_at log at).time) then settle_behind log s at
    else Goes (Enters enter.LoadLow)

-- what HEAD tells of a version that it doesn't name
abbrev pub back_by : State → ℕ → WriteBackEnd
back_by s link = if link == 0 then WasGone else WasAbove (other_seat s.seat link)

-- behind the load of HEAD in a write-back: the master's words are stored where it names the version, and else the section is left
abbrev pub after_top : List NotedVersion → State → ℕ → ℕ → ℕ → Then
after_top log s at object found =
    if found == link_to s.seat at then Goes (Tidies (StoreMaster at object (version_at log at).words 0))
    else Goes (Tidies (LeaveBack at (back_by s found)))

-- behind the store of a word of the master: the next one, and behind the sixth the cut
abbrev pub after_master : ℕ → ℕ → List ℕ → ℕ → Then
after_master at object words word =
    if ltb word 5 then Goes (Tidies (StoreMaster at object words (word + 1))) else Goes (Tidies (CutHead at object))

-- behind the exchange that cuts the chain: CLOCK is loaded for the time of death where it is won, and else the section is left
abbrev pub after_cut : State → ℕ → ℕ → Then
after_cut s at found =
    if found == link_to s.seat at then Goes (Tidies (LoadCutDeath at)) else Goes (Tidies (LeaveBack at (back_by s found)))

-- behind the leave of a write-back: the next version without a time of death; where HEAD was 0, SUPER is loaded again before that
abbrev pub after_back : WriteBackEnd → List NotedVersion → State → ℕ → Then
after_back (WasCut dead) log s at = settle_behind log s at
after_back WasGone log s at = Goes (Tidies (LoadSuperAgain at))
after_back (WasAbove seat) log s at = settle_behind log s at

-- how a tidy goes on behind a step of its own
abbrev pub after_sweeping : Sweeping → Config → List NotedVersion → State → ℕ → Then
after_sweeping (LoadGrace again) c log s found = free log s
after_sweeping (Free at left) c log s found = after_free log s left
after_sweeping LoadScan c log s found = look_at c s 0
after_sweeping (LoadMark seat) c log s found = look_at c s (seat + 1)
after_sweeping (RaiseGrace low) c log s found = settle log s (first_from log s.freed IsUntimed)
after_sweeping (LoadSuper at) c log s found = after_super log s at found
after_sweeping (LoadTop at object) c log s found = after_top log s at object found
after_sweeping (StoreMaster at object words word) c log s found = after_master at object words word
after_sweeping (CutHead at object) c log s found = after_cut s at found
after_sweeping (LoadCutDeath at) c log s found = Goes (Tidies (LeaveBack at (WasCut (clock_time_of found + 1))))
after_sweeping (LeaveBack at back) c log s found = after_back back log s at
after_sweeping (LoadSuperAgain at) c log s found = settle_behind log s at
after_sweeping (NameRest word new) c log s found = Goes (Tidies (LoadGrace true))

-- how a call goes on behind a step that found this, by what its seat is at and has noted then
abbrev pub then_after : NextStep → Config → List NotedVersion → State → ℕ → Then
then_after (Enters step) c log s found = after_entering step c log s found
then_after (Helps step) c log s found = after_helping step c log s found
then_after (Walks object next) c log s found = after_walking next c log s object found
then_after (Locks version at next) c log s found = after_locking next version at found
then_after (Writes at words word) c log s found = after_writing at words word
then_after (EndsSection step) c log s found = after_ending step c log s found
then_after (Tidies step) c log s found = after_sweeping step c log s found
