-- What a seat of a replay is at, by its view: its notes stand for the view, and its next step is one that may come next.
use Rattle.std.proofs.Common.{◌≡◌, ◌≢◌, ◌⊎◌, ℕ, ◌+◌, ◌<◌, ◌≤◌, ◌^◌, true, false, List, ◌∷◌, length, Option, Some, None, Contains}
use Rattle.std.proofs.Common.{All, slice_index, slice_index_or, refl}
use Rattle.mv_layout.specs.Words.{clock_time_of}
use Rattle.mv_history.specs.declared.Entry.{Entry}
use Rattle.mv_layout.specs.Words.{link_of}
use Rattle.mv_core.specs.declared.ring.CommitNote.{CommitNote}
use Rattle.mv_core.specs.declared.ring.Slot.TheVariants.{Live}
use Rattle.mv_core.specs.declared.ring.WriteSetStatus.TheVariants.{Committed}
use Rattle.mv_core.specs.declared.view.Scan.{Scan}
use Rattle.mv_core.specs.Rings.{slot_at, index_of}
use Rattle.mv_core.specs.SectionFacts.{IsPastHelp}
use Rattle.mv_core.specs.LockSteps.{death_loaded}
use Rattle.mv_core.specs.ReclaimSteps.{head_cut}
use Rattle.seat_log.specs.Stands.{version_of}
use Rattle.seat_log.specs.Frees.{FreesSet, slots_freed}
use Rattle.replay_rules.specs.Tasks.{next_clock}
use Rattle.replay_rules.specs.declared.seats.WriteBackEnd.TheVariants as back
use Rattle.replay_rules.proofs.runs.Notes.{note_of}
use Rattle.mv_core.proofs.Terms.{Config}
use Rattle.mv_core.specs.declared.ring.Build as build
use Rattle.mv_core.specs.declared.ring.Version as core
use Rattle.mv_core.specs.declared.view.Knowledge.{Knowledge}
use Rattle.mv_core.specs.declared.view.OwnSection.{OwnSection}
use Rattle.mv_core.specs.declared.view.Stand.{Stand}
use Rattle.mv_core.specs.declared.view.Phase.TheVariants.{Outside, Inside}
use Rattle.mv_core.specs.declared.view.Mode.TheVariants.{Open}
use Rattle.mv_core.specs.declared.view.WalkStage.TheVariants as walk
use Rattle.mv_core.specs.Views.{time_in}
use Rattle.mv_core.specs.WalkSteps.{words_read}
use Rattle.mv_core.specs.LockSteps.{StandsToLock}
use Rattle.mv_layout.specs.Words.{unset_of}
use Rattle.seat_log.specs.Notes.{Noted}
use Rattle.seat_log.specs.Stands.{Stands}
use Rattle.seat_log.specs.Builds.{build_at}
use Rattle.commit_abort.specs.Finishes.{WonNaming, IsJustNamed, IsFinishing}
use Rattle.commit_abort.specs.Aborts.{IsAborting, HasGivenUp}
use Rattle.replay_rules.specs.declared.plan.Call.{Call}
use Rattle.replay_rules.specs.declared.plan.Call.TheVariants.{Commit, Leave, Tidy}
use Rattle.replay_rules.specs.declared.plan.CallOf.{CallOf}
use Rattle.replay_rules.specs.declared.seats.NotedVersion.{NotedVersion}
use Rattle.replay_rules.specs.declared.seats.Sweep.{Sweep}
use Rattle.replay_rules.specs.declared.seats.Locking.{Locking}
use Rattle.replay_rules.specs.declared.seats.Locking.TheVariants.{Build, LockHead, ClearPrevious, FoundFirst, FoundStamp}
use Rattle.replay_rules.specs.declared.seats.Ending.{Ending}
use Rattle.replay_rules.specs.declared.seats.Ending.TheVariants.{LoadNow, Name, StampOwn, StoreSuper, Unlock, LoadDeath, Leave}
use Rattle.replay_rules.specs.declared.seats.Leaving.{Leaving}
use Rattle.replay_rules.specs.declared.seats.Leaving.TheVariants.{Plainly, WithCommit, WithAbort}
use Rattle.replay_rules.specs.declared.seats.Sweeping.{Sweeping}
use Rattle.replay_rules.specs.declared.seats.Sweeping.TheVariants.{LoadGrace, Free, LoadScan, LoadMark, RaiseGrace, LoadSuper, LoadTop, StoreMaster}
use Rattle.replay_rules.specs.declared.seats.Sweeping.TheVariants.{CutHead, LoadCutDeath, LeaveBack, LoadSuperAgain, NameRest}
use Rattle.replay_rules.specs.declared.seats.CallAnswer.{CallAnswer}
use Rattle.replay_rules.specs.declared.seats.Then.{Then}
use Rattle.replay_rules.specs.declared.seats.Then.TheVariants.{Goes, Ends}
use Rattle.replay_rules.specs.declared.seats.NextStep.{NextStep}
use Rattle.replay_rules.specs.declared.seats.NextStep.TheVariants.{Enters, Helps, Walks, Locks, Writes, EndsSection, Tidies}
use Rattle.replay_rules.specs.FitPlans.{IsFitCallOf}
use Rattle.replay_rules.specs.SeatNotes.{version_at}
use Rattle.replay_rules.specs.Kinds.{IsKindOf}
use Rattle.replay_rules.specs.Tasks.{commit_clock}
use Rattle.replay_rules.specs.Runs.{SeatOf, TapeOf, Scene, step_made}
use Rattle.replay_rules.specs.Behind.{IsTapeBehind}
use Rattle.replay_rules.specs.NextSteps.{IsStepOf}
use Rattle.replay_rules.specs.GoesOn.{is_lock}
use Rattle.replay_rules.specs.States.{Made, state_of}
use Rattle.mv_core.specs.Moves.{MoveKind}
use Rattle.replay_rules.proofs.runs.Sections.{seat_with, IsNoted, Logs, InSection, RestsAt, EntersAt, HelpsAt, helped_word}
use Rattle.replay_rules.proofs.runs.Sections.{IsBack, IsSwept, BacksUp, EntersFor, HelpsFor, MayHold, WalksFor, StandsAt, WalksAt}

-- of a build these words were stored: those of this version before an offset
pub record HasFields (b : build.Build) (version : NotedVersion) (at field : ℕ) : Type 0 where
  pub wide : length b.words ≡ 6
  pub first : 0 < field → b.first ≡ Some version.first
  pub stamp : 1 < field → version.first ≡ at → b.stamp ≡ Some (unset_of at)
  pub previous : 2 < field → b.previous ≡ Some version.previous
  pub successor : 3 < field → b.successor ≡ Some 0
  pub words : (i : ℕ) → 4 + i < field → i < 6 → slice_index_or b.words i None ≡ Some (slice_index version.words i)

-- the version that a lock builds: at the next position, in the write set that is held, with the words of the section's state
pub record Builds (c : Config) (v : Knowledge) (s : OwnSection) (log : List NotedVersion) (from o : ℕ) (version : NotedVersion) (at : ℕ) : Type 0 where
  pub object_is : version.object ≡ o
  pub at_is : at ≡ length log
  pub first_is : version.first ≡ from
  pub words : version.words ≡ words_read c v s o
  pub wide : length version.words ≡ 6
  pub small : (i : ℕ) → slice_index version.words i < 2 ^ 64
  pub small_link : version.previous < 2 ^ 64
  pub no_time : version.time ≡ 0
  pub no_death : version.dead ≡ 0

-- the next step of a lock behind its walk
abbrev pub LocksAt : Config → Knowledge → OwnSection → ℕ → NotedVersion → ℕ → Locking → Type 0
LocksAt c v s o version at (Build field) =
    (field < 10) × (field ≡ 1 → version.first ≡ at) × StandsToLock v s o version.previous × HasFields (build_at c v at) version at field
LocksAt c v s o version at LockHead = StandsToLock v s o version.previous × HasFields (build_at c v at) version at 10
LocksAt c v s o version at ClearPrevious =
    (v.walk ≡ walk.Master o) × (version.previous ≡ 0) × ((previous : ℕ) × HasFields (build_at c v at) (record version { previous = previous }) at 10)
LocksAt c v s o version at (FoundFirst link) = StandsAt v o link
LocksAt c v s o version at (FoundStamp link first) = (stands : StandsAt v o link) × (stands.stand.first ≡ Some first)

-- a lock behind its walk
pub record IsLocking (c : Config) (v : Knowledge) (log : List NotedVersion) (freed from : ℕ) (time : Option ℕ) (version : NotedVersion) (at : ℕ)
    (next : Locking) :
    Type 0 where
  pub inside : InSection c v log freed from time
  pub object : ℕ
  pub range : object < c.objects
  pub may : MayHold c log freed from object
  pub builds : Builds c v inside.section log from object version at
  pub locks : LocksAt c v inside.section object version at next

-- the version at a place in the log is the one that is written
pub record IsWriting (c : Config) (v : Knowledge) (log : List NotedVersion) (freed from : ℕ) (time : Option ℕ) (at : ℕ) (words : List ℕ)
    (word : ℕ) : Type 0 where
  pub inside : InSection c v log freed from time
  pub held : from ≤ at
  pub live : at < length log
  pub in_range : word < 6
  pub small : (i : ℕ) → slice_index words i < 2 ^ 64

-- what is held is being given up: so many versions were
pub record GivesUp (c : Config) (v : Knowledge) (log : List NotedVersion) (freed from given : ℕ) : Type 0 where
  pub before : Knowledge
  pub noted : Noted
  pub aborting : IsAborting c before v noted given
  pub is : IsNoted c noted log freed from

-- it was given up, with this time of death
pub record GaveUp (c : Config) (v : Knowledge) (log : List NotedVersion) (freed from dead : ℕ) : Type 0 where
  pub before : Knowledge
  pub noted : Noted
  pub given : HasGivenUp c before v noted dead
  pub is : IsNoted c noted log freed from
  pub some : from < length log

-- a commit was just named
pub record HasNamed (c : Config) (v : Knowledge) (log : List NotedVersion) (freed from first time : ℕ) : Type 0 where
  pub noted : Noted
  pub won : WonNaming
  pub named : IsJustNamed c v noted won
  pub is : IsNoted c noted log freed from
  pub first_is : first ≡ from
  pub time_is : time ≡ clock_time_of won.word + 1
  pub in_time : time ≤ 35184372088831

-- a commit is being finished: SUPER was stored below so many versions
pub record Finishes (c : Config) (v : Knowledge) (log : List NotedVersion) (freed from time told : ℕ) : Type 0 where
  pub before : Knowledge
  pub noted : Noted
  pub finishing : IsFinishing c before v noted time told
  pub is : IsNoted c noted log freed from
  pub in_time : time ≤ 35184372088831

-- a section may end
abbrev pub LeavesAt : Config → Knowledge → List NotedVersion → ℕ → ℕ → Option ℕ → Leaving → Type 0
LeavesAt c v log freed from time Plainly = InSection c v log freed from time × (from ≡ length log)
LeavesAt c v log freed from time (WithCommit t) = (told : ℕ) × Finishes c v log freed from t told × (from + told ≡ length log)
LeavesAt c v log freed from time (WithAbort dead) = GaveUp c v log freed from dead

-- the next step of a commit, an abort or a leave
abbrev pub EndsAt : Config → ℕ → Knowledge → List NotedVersion → ℕ → ℕ → Option ℕ → Call → Ending → Type 0
EndsAt c n v log freed from time call LoadNow =
    (InSection c v log freed from time × (from < length log) × (call ≡ Commit)) ⊎ (RestsAt c v log freed from None × (time ≡ None) × (call ≡ Tidy))
EndsAt c n v log freed from time call (Name word new) =
    InSection c v log freed from time × (from < length log) × Contains v.clocks.loaded word × Contains v.clocks.helped word
    × (clock_time_of word < 35184372088831) × (new ≡ commit_clock c word n from)
EndsAt c n v log freed from time call (StampOwn first t) = HasNamed c v log freed from first t
EndsAt c n v log freed from time call (StoreSuper at link t) =
    (told : ℕ) × Finishes c v log freed from t told × (at ≡ from + told) × (at < length log) × (link ≡ (version_at log at).previous) × (link ≢ 0)
EndsAt c n v log freed from time call (Unlock at o previous) =
    (given : ℕ) × GivesUp c v log freed from given × (at ≡ from + given) × (at < length log) × (o ≡ (version_at log at).object)
    × (previous ≡ (version_at log at).previous)
EndsAt c n v log freed from time call LoadDeath = (given : ℕ) × GivesUp c v log freed from given × (from + given ≡ length log) × (0 < given)
EndsAt c n v log freed from time call (Leave leaving) = LeavesAt c v log freed from time leaving

-- Some of the oldest write set were freed, one after another: so many of them, of so many.
pub record IsFreeing (c : Config) (v : Knowledge) (log : List NotedVersion) (freed from : ℕ) (sweep : Sweep) (at left : ℕ) : Type 0 where
  pub before : Knowledge
  pub noted : Noted
  pub stands : Stands c before noted
  pub first : ℕ
  pub is : IsNoted c noted log first from
  pub outside : before.phase ≡ Outside
  pub scans : before.scan ≡ None
  pub nothing : from ≡ length log
  pub done : ℕ
  pub all : ℕ
  pub frees : FreesSet noted sweep.bound all
  pub bounded : sweep.bound ≤ before.grace
  pub view_is : v ≡ slots_freed c before first done
  pub freed_is : freed ≡ first + done
  pub at_is : at ≡ freed
  pub left_is : done + left ≡ all
  pub some : 0 < left
  pub outside_now : v.phase ≡ Outside
  pub bounded_now : sweep.bound ≤ v.grace

-- a write-back under way: so many words were stored, or the walk stands at the version
pub record IsBacking (c : Config) (n : ℕ) (v : Knowledge) (log : List NotedVersion) (freed from : ℕ) (time : Option ℕ) (sweep : Sweep)
    (at o word : ℕ) : Type 0 where
  pub section : OwnSection
  pub phase : v.phase ≡ Inside section
  pub open_is : section.mode ≡ Open
  pub helped : IsPastHelp v.clocks section
  pub time_is : time ≡ Some (time_in section)
  pub logs : Logs c v log freed from
  pub nothing : from ≡ length log
  pub back : IsBack v.grace log freed at
  pub swept : IsSwept v.grace sweep
  pub object_is : o ≡ (version_at log at).object
  pub goes : ((word ≡ 0) × (v.back ≡ None)
      × ((stand : Stand) × (v.walk ≡ walk.At stand) × (stand.object ≡ o) × (stand.link ≡ link_of n at)))
      ⊎ ((0 < word) × (v.back ≡ Some (record { object = o; position = at; stored = word; tried = false })))

-- a section whose write-back cut nothing is to be left
pub record IsUncut (c : Config) (v : Knowledge) (log : List NotedVersion) (freed from : ℕ) (sweep : Sweep) (at : ℕ) : Type 0 where
  pub section : OwnSection
  pub phase : v.phase ≡ Inside section
  pub open_is : section.mode ≡ Open
  pub logs : Logs c v log freed from
  pub nothing : from ≡ length log
  pub back : IsBack v.grace log freed at
  pub swept : IsSwept v.grace sweep

-- the view behind the exchange that cut the version, and behind the load of its time of death
abbrev pub WasCut : Config → Knowledge → Knowledge → ℕ → ℕ → core.Version → CommitNote → Option ℕ → Type 0
WasCut c v before o at x note None = v ≡ head_cut c before o at x note
WasCut c v before o at x note (Some dead) =
    (word : ℕ) × (h : List Entry) × (v ≡ death_loaded c (head_cut c before o at x note) word h) × (dead ≡ clock_time_of word + 1)

-- a section that has cut its version out of the chain; its time of death is loaded or not
pub record HasCut (c : Config) (v : Knowledge) (log : List NotedVersion) (freed from : ℕ) (sweep : Sweep) (at : ℕ) (dead : Option ℕ) : Type 0 where
  pub before : Knowledge
  pub section : OwnSection
  pub phase : before.phase ≡ Inside section
  pub open_is : section.mode ≡ Open
  pub scans : before.scan ≡ None
  pub logs : Logs c before log freed from
  pub nothing : from ≡ length log
  pub back : IsBack before.grace log freed at
  pub swept : IsSwept before.grace sweep
  pub note : CommitNote
  pub lives : slot_at before.ring (index_of c at) ≡ Live (version_of (note_of at (version_at log at))) (Committed note)
  pub view_is : WasCut c v before (version_at log at).object at (version_of (note_of at (version_at log at))) note dead

-- the next step of a tidy
abbrev pub TidiesAt : Config → ℕ → Knowledge → List NotedVersion → ℕ → ℕ → Option ℕ → Sweep → Sweeping → Type 0
TidiesAt c n v log freed from time sweep (LoadGrace again) = RestsAt c v log freed from None × (time ≡ None)
TidiesAt c n v log freed from time sweep (Free at left) = IsFreeing c v log freed from sweep at left × (time ≡ None)
TidiesAt c n v log freed from time sweep LoadScan = RestsAt c v log freed from None × (time ≡ None)
TidiesAt c n v log freed from time sweep (LoadMark seat) =
    RestsAt c v log freed from None × (time ≡ None)
    × ((scan : Scan) × (v.scan ≡ Some scan) × (scan.next ≡ seat) × (scan.least ≡ sweep.last.low) × (seat < c.seats))
TidiesAt c n v log freed from time sweep (RaiseGrace low) =
    RestsAt c v log freed from None × (time ≡ None) × (low ≡ sweep.last.low) × (sweep.last.low ≤ v.grace)
TidiesAt c n v log freed from time sweep (LoadSuper at) =
    RestsAt c v log freed from None × (time ≡ None) × IsSwept v.grace sweep × (freed ≤ at) × (at < length log) × ((version_at log at).dead ≡ 0)
TidiesAt c n v log freed from time sweep (LoadTop at o) =
    InSection c v log freed from time × BacksUp v.grace log freed from sweep × (at ≡ sweep.at) × (o ≡ (version_at log at).object)
TidiesAt c n v log freed from time sweep (StoreMaster at o words word) =
    IsBacking c n v log freed from time sweep at o word × (words ≡ (version_at log at).words) × (word < 6)
TidiesAt c n v log freed from time sweep (CutHead at o) = IsBacking c n v log freed from time sweep at o 6
TidiesAt c n v log freed from time sweep (LoadCutDeath at) = HasCut c v log freed from sweep at None
TidiesAt c n v log freed from time sweep (LeaveBack at (back.WasCut dead)) = HasCut c v log freed from sweep at (Some dead)
TidiesAt c n v log freed from time sweep (LeaveBack at back.WasGone) = IsUncut c v log freed from sweep at
TidiesAt c n v log freed from time sweep (LeaveBack at (back.WasAbove seat)) = IsUncut c v log freed from sweep at
TidiesAt c n v log freed from time sweep (LoadSuperAgain at) =
    RestsAt c v log freed from None × (time ≡ None) × IsSwept v.grace sweep × (freed ≤ at) × (at < length log) × ((version_at log at).dead ≡ 0)
TidiesAt c n v log freed from time sweep (NameRest word new) =
    RestsAt c v log freed from None × (time ≡ None) × Contains v.clocks.loaded word × Contains v.clocks.helped word
    × (clock_time_of word < 35184372088831) × (new ≡ next_clock word n 8191)

-- what a seat is at, by its next step, if it is in a call
abbrev pub StandsFor : Config → ℕ → Knowledge → List NotedVersion → ℕ → ℕ → Option ℕ → Call → Sweep → Option NextStep → Type 0
StandsFor c n v log freed from time call sweep None = RestsAt c v log freed from time
StandsFor c n v log freed from time call sweep (Some (Enters step)) =
    EntersAt v step × EntersFor v.grace log freed from sweep call × (time ≡ None) × (from ≡ length log) × Logs c v log freed from
StandsFor c n v log freed from time call sweep (Some (Helps step)) = HelpsAt v step × HelpsFor c v log freed from time sweep (helped_word step) call
StandsFor c n v log freed from time call sweep (Some (Walks o next)) =
    (i : InSection c v log freed from time) × (o < c.objects) × WalksFor c log freed from o call × WalksAt c v i.section o next
StandsFor c n v log freed from time call sweep (Some (Locks version at next)) = IsLocking c v log freed from time version at next × (is_lock call ≡ true)
StandsFor c n v log freed from time call sweep (Some (Writes at words word)) = IsWriting c v log freed from time at words word
StandsFor c n v log freed from time call sweep (Some (EndsSection step)) = EndsAt c n v log freed from time call step
StandsFor c n v log freed from time call sweep (Some (Tidies step)) = TidiesAt c n v log freed from time sweep step × (call ≡ Tidy)

-- no scan runs but where the mark of a seat is loaded next
abbrev pub ScanAt : Knowledge → Option NextStep → Type 0
ScanAt v task = (v.scan ≡ None) ⊎ ((seat : ℕ) × (task ≡ Some (Tidies (LoadMark seat))))

-- a seat and its view
pub record IsSeat (c : Config) (n : ℕ) (s : SeatOf) (v : Knowledge) : Type 0 where
  pub log : List NotedVersion
  pub freed : ℕ
  pub from : ℕ
  pub time : Option ℕ
  pub call : Call
  pub sweep : Sweep
  pub task : Option NextStep
  pub left : List CallOf
  pub is : s ≡ seat_with n log freed from time call sweep task left
  pub scans : ScanAt v task
  pub before : All (IsFitCallOf c) left
  pub stands : StandsFor c n v log freed from time call sweep task

-- the core's step of this kind
abbrev pub step_of : ℕ → MoveKind → Made
step_of n kind = record { seat = n; kind = kind }

-- a seat and the tape behind one step more, which is that of this task
pub record IsStepped (c : Config) (n : ℕ) (made : List Made) (task : NextStep) (y : Scene) : Type 0 where
  pub kind : MoveKind
  pub is : IsKindOf task kind
  pub next : IsStepOf c made (step_of n kind) n task
  pub behind : IsTapeBehind c y.tape (step_of n kind ∷ made)
  pub seat_is : IsSeat c n y.seat ((state_of c (step_of n kind ∷ made)).seats n)

-- so it is of a seat at this tape whose next step is that of the task
abbrev pub StepsSo : Config → ℕ → List Made → TapeOf → NextStep → SeatOf → Type 0
StepsSo c n made t task seat = IsStepped c n made task (step_made c task (record { seat = seat; tape = t }))

-- how a call goes on, and what its seat is at then
pub data GoesSo (c : Config) (n : ℕ) (v : Knowledge) (log : List NotedVersion) (freed from : ℕ) (time : Option ℕ) (call : Call) (sweep : Sweep) (then : Then) :
    Type 0 where
  by_step : (task : NextStep) → then ≡ Goes task → StandsFor c n v log freed from time call sweep (Some task) → GoesSo c n v log freed from time call sweep then
  by_end : (answer : CallAnswer) → then ≡ Ends answer → RestsAt c v log freed from time → GoesSo c n v log freed from time call sweep then

-- a seat, by what it is at
pub seat_by : (c : Config) (n : ℕ) (v : Knowledge) (log : List NotedVersion) (freed from : ℕ) (time : Option ℕ) (call : Call) (sweep : Sweep)
    (task : Option NextStep)
    (left : List CallOf) → ScanAt v task → All (IsFitCallOf c) left → StandsFor c n v log freed from time call sweep task
    → IsSeat c n (seat_with n log freed from time call sweep task left) v
seat_by c n v log freed from time call sweep task left scans before stands = record {
  log = log;
  freed = freed;
  from = from;
  time = time;
  call = call;
  sweep = sweep;
  task = task;
  left = left;
  is = refl;
  scans = scans;
  before = before;
  stands = stands;
}
