-- The kind of the core's step that the next step of a call is.
use Rattle.std.specs.Prelude.{◌≡◌, ◌⊎◌, ℕ, List, [], ◌∷◌, slice_index}
use Rattle.mv_core.specs.declared.ring.Build as core_build
use Rattle.mv_core.specs.declared.ring.Version as core
use Rattle.mv_core.specs.declared.ring.CommitNote.{CommitNote}
use Rattle.mv_core.specs.declared.view.OwnSection.{OwnSection}
use Rattle.mv_core.specs.declared.view.Stand.{Stand}
use Rattle.mv_core.specs.declared.view.Scan.{Scan}
use Rattle.mv_core.specs.Moves.{MoveKind, load_low, store_mark, load_time, clear_mark, load_named, load_check, stamp, load_head, load_first, load_stamp}
use Rattle.mv_core.specs.Moves.{load_prev, load_data, load_master, store_built, store_data, load_death, lock_head, unlock_head, name_commit}
use Rattle.mv_core.specs.Moves.{store_super, name_rest, load_scan, load_mark, load_grace, raise_grace, load_super, store_master, cut_head, store_free}
use Rattle.replay_rules.specs.declared.seats.NotedVersion.{NotedVersion}
use Rattle.replay_rules.specs.declared.seats.Entering.{Entering}
use Rattle.replay_rules.specs.declared.seats.Entering.TheVariants.{LoadLow, StoreMark, LoadTime}
use Rattle.replay_rules.specs.declared.seats.Helping.{Helping}
use Rattle.replay_rules.specs.declared.seats.Helping.TheVariants.{LoadNamed, LoadCheck, SwapStamp}
use Rattle.replay_rules.specs.declared.seats.Walking.{Walking}
use Rattle.replay_rules.specs.declared.seats.Walking.TheVariants.{LoadHead, LoadFirst, LoadStamp, LoadPrev, LoadWord}
use Rattle.replay_rules.specs.declared.seats.Locking.{Locking}
use Rattle.replay_rules.specs.declared.seats.Locking.TheVariants.{Build, LockHead, ClearPrevious, FoundFirst, FoundStamp}
use Rattle.replay_rules.specs.declared.seats.Ending.{Ending}
use Rattle.replay_rules.specs.declared.seats.Ending.TheVariants.{LoadNow, Name, StampOwn, StoreSuper, Unlock, LoadDeath, Leave}
use Rattle.replay_rules.specs.declared.seats.Sweeping.{Sweeping}
use Rattle.replay_rules.specs.declared.seats.Sweeping.TheVariants.{LoadGrace, Free, LoadScan, LoadMark, RaiseGrace, LoadSuper, LoadTop, StoreMaster}
use Rattle.replay_rules.specs.declared.seats.Sweeping.TheVariants.{CutHead, LoadCutDeath, LeaveBack, LoadSuperAgain, NameRest}
use Rattle.replay_rules.specs.declared.seats.NextStep.{NextStep}
use Rattle.replay_rules.specs.declared.seats.NextStep.TheVariants.{Enters, Helps, Walks, Locks, Writes, EndsSection, Tidies}
use Rattle.replay_rules.specs.Tasks.{stamp_from, field_word}

-- of an entering
abbrev pub IsKindOfEntering : Entering → MoveKind → Type 0
IsKindOfEntering LoadLow kind = kind ≡ load_low
IsKindOfEntering (StoreMark mark) kind = (low : ℕ) × (kind ≡ store_mark low)
IsKindOfEntering LoadTime kind = kind ≡ load_time

-- of a help of a clock word
abbrev pub IsKindOfHelping : Helping → MoveKind → Type 0
IsKindOfHelping (LoadNamed word) kind = kind ≡ load_named word
IsKindOfHelping (LoadCheck word unset) kind = kind ≡ load_check
IsKindOfHelping (SwapStamp word unset) kind = kind ≡ stamp word unset

-- of a walk over an object
abbrev pub IsKindOfWalking : ℕ → Walking → MoveKind → Type 0
IsKindOfWalking object LoadHead kind = (inside : OwnSection) × (kind ≡ load_head object inside)
IsKindOfWalking object (LoadFirst link) kind = (stand : Stand) × (kind ≡ load_first link stand)
IsKindOfWalking object (LoadStamp link first) kind = (stand : Stand) × (kind ≡ load_stamp link first stand)
IsKindOfWalking object (LoadPrev link) kind = (stand : Stand) × (kind ≡ load_prev link stand)
IsKindOfWalking object (LoadWord link words word) kind =
    ((link ≡ 0) × ((inside : OwnSection) × (kind ≡ load_master object word inside)))
    ⊎ ((stand : Stand) × (inside : OwnSection) × (kind ≡ load_data link word stand inside))

-- of a lock behind its walk, of this version at this position
abbrev pub IsKindOfLocking : NotedVersion → ℕ → Locking → MoveKind → Type 0
IsKindOfLocking version at (Build field) kind = (build : core_build.Build) × (kind ≡ store_built at field (field_word version at field) build)
IsKindOfLocking version at LockHead kind =
    (build : core_build.Build) × (inside : OwnSection) × (kind ≡ lock_head version.object version.previous at version.words build inside)
IsKindOfLocking version at ClearPrevious kind = (build : core_build.Build) × (kind ≡ store_built at 2 0 build)
IsKindOfLocking version at (FoundFirst link) kind = (stand : Stand) × (kind ≡ load_first link stand)
IsKindOfLocking version at (FoundStamp link first) kind = (stand : Stand) × (kind ≡ load_stamp link first stand)

-- the tag of each commit of a replay: no word of it is other than 0
abbrev pub no_tag : List ℕ
no_tag = 0 ∷ 0 ∷ 0 ∷ 0 ∷ []

-- of a commit, an abort or a leave, or of the rest of a tidy
abbrev pub IsKindOfEnding : Ending → MoveKind → Type 0
IsKindOfEnding LoadNow kind = kind ≡ load_check
IsKindOfEnding (Name word new) kind = (inside : OwnSection) × (kind ≡ name_commit word no_tag inside)
IsKindOfEnding (StampOwn first time) kind = (word : ℕ) × (kind ≡ stamp word (stamp_from first))
IsKindOfEnding (StoreSuper at link time) kind =
    (slot : ℕ) × (version : core.Version) × (note : CommitNote) × (kind ≡ store_super link time slot version note)
IsKindOfEnding (Unlock at object previous) kind =
    (slot : ℕ) × (version : core.Version) × (inside : OwnSection) × (kind ≡ unlock_head object previous slot version inside)
IsKindOfEnding LoadDeath kind = kind ≡ load_death
IsKindOfEnding (Leave leaving) kind = kind ≡ clear_mark

-- of a tidy
abbrev pub IsKindOfSweeping : Sweeping → MoveKind → Type 0
IsKindOfSweeping (LoadGrace again) kind = kind ≡ load_grace
IsKindOfSweeping (Free at left) kind = kind ≡ store_free at
IsKindOfSweeping LoadScan kind = kind ≡ load_scan
IsKindOfSweeping (LoadMark seat) kind = (scan : Scan) × (kind ≡ load_mark seat scan)
IsKindOfSweeping (RaiseGrace low) kind = kind ≡ raise_grace low
IsKindOfSweeping (LoadSuper at) kind = (version : core.Version) × (note : CommitNote) × (kind ≡ load_super at version note)
IsKindOfSweeping (LoadTop at object) kind = (inside : OwnSection) × (kind ≡ load_head object inside)
IsKindOfSweeping (StoreMaster at object words word) kind =
    (version : core.Version) × (note : CommitNote) × (inside : OwnSection)
    × (kind ≡ store_master object word (slice_index words word) at version note inside)
IsKindOfSweeping (CutHead at object) kind = (version : core.Version) × (note : CommitNote) × (kind ≡ cut_head object at version note)
IsKindOfSweeping (LoadCutDeath at) kind = kind ≡ load_death
IsKindOfSweeping (LeaveBack at back) kind = kind ≡ clear_mark
IsKindOfSweeping (LoadSuperAgain at) kind = (version : core.Version) × (note : CommitNote) × (kind ≡ load_super at version note)
IsKindOfSweeping (NameRest word new) kind = kind ≡ name_rest word

-- the kind of a call's next step; what the seat knows of its words is what the step's condition says
abbrev pub IsKindOf : NextStep → MoveKind → Type 0
IsKindOf (Enters step) kind = IsKindOfEntering step kind
IsKindOf (Helps step) kind = IsKindOfHelping step kind
IsKindOf (Walks object next) kind = IsKindOfWalking object next kind
IsKindOf (Locks version at next) kind = IsKindOfLocking version at next kind
IsKindOf (Writes at words word) kind = (version : core.Version) × (kind ≡ store_data at word (slice_index words word) version)
IsKindOf (EndsSection step) kind = IsKindOfEnding step kind
IsKindOf (Tidies step) kind = IsKindOfSweeping step kind
