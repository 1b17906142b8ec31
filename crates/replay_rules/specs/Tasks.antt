-- The word that the next step of a call is of, and what the step does with it.
use Rattle.std.specs.Prelude.{ℕ, zero, suc, ◌+◌, ◌%◌, ◌==◌, ◌&&◌, ltb, leb, max, slice_index, Option, Some, None, if◌then◌else◌}
use Rattle.mv_layout.specs.declared.config.Config.{Config}
use Rattle.mv_layout.specs.declared.places.SharedWord.{SharedWord}
use Rattle.mv_layout.specs.declared.places.SharedWord.TheVariants.{Clock, Grace, Mark, Head, Master, First, Stamp, Prev, Super, Data}
use Rattle.mv_layout.specs.Words.{clock_of, clock_time_of, clock_seat_of, clock_slot_of, link_of, link_seat_of, link_position_of, unset_of}
use Rattle.mv_core.specs.EnterSteps.{stored_if}
use Rattle.mv_core.specs.LockSteps.{field_place}
use Rattle.replay_rules.specs.declared.seats.NotedVersion.{NotedVersion}
use Rattle.replay_rules.specs.declared.seats.Entering.{Entering}
use Rattle.replay_rules.specs.declared.seats.Entering.TheVariants.{LoadLow, StoreMark, LoadTime}
use Rattle.replay_rules.specs.declared.seats.Helping.{Helping}
use Rattle.replay_rules.specs.declared.seats.Helping.TheVariants.{LoadNamed, LoadCheck, SwapStamp}
use Rattle.replay_rules.specs.declared.seats.Walking.{Walking}
use Rattle.replay_rules.specs.declared.seats.Walking.TheVariants.{LoadHead, LoadFirst, LoadStamp, LoadPrev, LoadWord}
use Rattle.replay_rules.specs.declared.seats.Locking.{Locking}
use Rattle.replay_rules.specs.declared.seats.Locking.TheVariants.{Build, LockHead, ClearPrevious, FoundFirst, FoundStamp}
use Rattle.replay_rules.specs.declared.seats.Ending.{Ending}
use Rattle.replay_rules.specs.declared.seats.Ending.TheVariants.{LoadNow, Name, StampOwn, StoreSuper, Unlock, LoadDeath, Leave}
use Rattle.replay_rules.specs.declared.seats.Sweeping.{Sweeping}
use Rattle.replay_rules.specs.declared.seats.Sweeping.TheVariants.{LoadGrace, Free, LoadScan, LoadMark, RaiseGrace, LoadSuper, LoadTop, StoreMaster}
use Rattle.replay_rules.specs.declared.seats.Sweeping.TheVariants.{CutHead, LoadCutDeath, LeaveBack, LoadSuperAgain, NameRest}
use Rattle.replay_rules.specs.declared.seats.NextStep.{NextStep}
use Rattle.replay_rules.specs.declared.seats.NextStep.TheVariants.{Enters, Helps, Walks, Locks, Writes, EndsSection, Tidies}
use Rattle.replay_rules.specs.declared.seats.Access.{Access}
use Rattle.replay_rules.specs.declared.seats.Access.TheVariants.{Load, Store, Swap, Raise}

-- the slot of a position
abbrev pub slot_at : Config → ℕ → ℕ
slot_at c at = at % c.slots

-- the slot of a link
abbrev pub link_slot : Config → ℕ → ℕ
link_slot c link = slot_at c (link_position_of link)

-- the link to a position of a seat's log
abbrev pub link_to : ℕ → ℕ → ℕ
link_to seat at = if ltb seat 64 && ltb at 144115188075855872 then link_of seat at else 0

-- the unset stamp of a write set that begins at a position
abbrev pub stamp_from : ℕ → ℕ
stamp_from at = if ltb at 144115188075855872 then unset_of at else 0

-- the clock word of a seat's next entry behind a word, with this slot
abbrev pub next_clock : ℕ → ℕ → ℕ → ℕ
next_clock word seat slot =
    if ltb (clock_time_of word) 35184372088831 && (ltb seat 64 && leb slot 8191) then clock_of (clock_time_of word + 1) seat slot else 0

-- and that of its next commit, whose write set begins at a position
abbrev pub commit_clock : Config → ℕ → ℕ → ℕ → ℕ
commit_clock c word seat at = next_clock word seat (slot_at c at)

-- the stamp of the commit that a clock word names
abbrev pub named_place : ℕ → SharedWord
named_place word = Stamp (clock_seat_of word) (clock_slot_of word)

-- the word of the next step of an entering
abbrev pub entering_place : ℕ → Entering → SharedWord
entering_place seat LoadLow = Clock
entering_place seat (StoreMark mark) = Mark seat
entering_place seat LoadTime = Clock

-- the word of the next step of a help of a clock word
abbrev pub helping_place : Helping → SharedWord
helping_place (LoadNamed word) = named_place word
helping_place (LoadCheck word unset) = Clock
helping_place (SwapStamp word unset) = named_place word

-- the word of the next step of a walk over an object
abbrev pub walking_place : Config → ℕ → Walking → SharedWord
walking_place c object LoadHead = Head object
walking_place c object (LoadFirst link) = First (link_seat_of link) (link_slot c link)
walking_place c object (LoadStamp link first) = Stamp (link_seat_of link) (slot_at c first)
walking_place c object (LoadPrev link) = Prev (link_seat_of link) (link_slot c link)
walking_place c object (LoadWord link words word) =
    if link == 0 then Master object word else Data (link_seat_of link) (link_slot c link) word

-- the word of the next step of a lock behind its walk, of this object at this position
abbrev pub locking_place : Config → ℕ → ℕ → ℕ → Locking → SharedWord
locking_place c seat object at (Build field) = field_place seat (slot_at c at) field
locking_place c seat object at LockHead = Head object
locking_place c seat object at ClearPrevious = Prev seat (slot_at c at)
locking_place c seat object at (FoundFirst link) = First (link_seat_of link) (link_slot c link)
locking_place c seat object at (FoundStamp link first) = Stamp (link_seat_of link) (slot_at c first)

-- the word of the next step of a commit, an abort or a leave, or of the rest of a tidy
abbrev pub ending_place : Config → ℕ → Ending → SharedWord
ending_place c seat LoadNow = Clock
ending_place c seat (Name word new) = Clock
ending_place c seat (StampOwn first time) = Stamp seat (slot_at c first)
ending_place c seat (StoreSuper at link time) = Super (link_seat_of link) (link_slot c link)
ending_place c seat (Unlock at object previous) = Head object
ending_place c seat LoadDeath = Clock
ending_place c seat (Leave leaving) = Mark seat

-- the word of the next step of a tidy
abbrev pub sweeping_place : Config → ℕ → Sweeping → SharedWord
sweeping_place c seat (LoadGrace again) = Grace
sweeping_place c seat (Free at left) = Stamp seat (slot_at c at)
sweeping_place c seat LoadScan = Clock
sweeping_place c seat (LoadMark other) = Mark other
sweeping_place c seat (RaiseGrace low) = Grace
sweeping_place c seat (LoadSuper at) = Super seat (slot_at c at)
sweeping_place c seat (LoadTop at object) = Head object
sweeping_place c seat (StoreMaster at object words word) = Master object word
sweeping_place c seat (CutHead at object) = Head object
sweeping_place c seat (LoadCutDeath at) = Clock
sweeping_place c seat (LeaveBack at back) = Mark seat
sweeping_place c seat (LoadSuperAgain at) = Super seat (slot_at c at)
sweeping_place c seat (NameRest word new) = Clock

-- the word of the next step of a call
abbrev pub place_in_task : Config → ℕ → NextStep → SharedWord
place_in_task c seat (Enters step) = entering_place seat step
place_in_task c seat (Helps step) = helping_place step
place_in_task c seat (Walks object next) = walking_place c object next
place_in_task c seat (Locks version at next) = locking_place c seat version.object at next
place_in_task c seat (Writes at words word) = Data seat (slot_at c at) word
place_in_task c seat (EndsSection step) = ending_place c seat step
place_in_task c seat (Tidies step) = sweeping_place c seat step

-- what the next step of an entering does with its word
abbrev pub entering_access : Entering → Access
entering_access LoadLow = Load
entering_access (StoreMark mark) = Store mark
entering_access LoadTime = Load

-- what the next step of a help of a clock word does with its word
abbrev pub helping_access : Helping → Access
helping_access (LoadNamed word) = Load
helping_access (LoadCheck word unset) = Load
helping_access (SwapStamp word unset) = Swap unset (clock_time_of word)

-- a word of a version's slot, by its offset
abbrev pub field_word : NotedVersion → ℕ → ℕ → ℕ
field_word version at zero = version.first
field_word version at (suc zero) = stamp_from at
field_word version at (suc (suc zero)) = version.previous
field_word version at (suc (suc (suc zero))) = 0
field_word version at (suc (suc (suc (suc word)))) = slice_index version.words word

-- what the next step of a lock behind its walk, of this version at this position, does with its word
abbrev pub locking_access : ℕ → NotedVersion → ℕ → Locking → Access
locking_access seat version at (Build field) = Store (field_word version at field)
locking_access seat version at LockHead = Swap version.previous (link_to seat at)
locking_access seat version at ClearPrevious = Store 0
locking_access seat version at (FoundFirst link) = Load
locking_access seat version at (FoundStamp link first) = Load

-- what the next step of a commit, an abort or a leave, or of the rest of a tidy, does with its word
abbrev pub ending_access : Ending → Access
ending_access LoadNow = Load
ending_access (Name word new) = Swap word new
ending_access (StampOwn first time) = Swap (stamp_from first) time
ending_access (StoreSuper at link time) = Store time
ending_access (Unlock at object previous) = Store previous
ending_access LoadDeath = Load
ending_access (Leave leaving) = Store 0

-- what the next step of a tidy does with its word
abbrev pub sweeping_access : ℕ → Sweeping → Access
sweeping_access seat (LoadGrace again) = Load
sweeping_access seat (Free at left) = Store 0
sweeping_access seat LoadScan = Load
sweeping_access seat (LoadMark other) = Load
sweeping_access seat (RaiseGrace low) = Raise low
sweeping_access seat (LoadSuper at) = Load
sweeping_access seat (LoadTop at object) = Load
sweeping_access seat (StoreMaster at object words word) = Store (slice_index words word)
sweeping_access seat (CutHead at object) = Swap (link_to seat at) 0
sweeping_access seat (LoadCutDeath at) = Load
sweeping_access seat (LeaveBack at back) = Store 0
sweeping_access seat (LoadSuperAgain at) = Load
sweeping_access seat (NameRest word new) = Swap word new

-- what the next step of a call does with its word
abbrev pub access_in_task : ℕ → NextStep → Access
access_in_task seat (Enters step) = entering_access step
access_in_task seat (Helps step) = helping_access step
access_in_task seat (Walks object next) = Load
access_in_task seat (Locks version at next) = locking_access seat version at next
access_in_task seat (Writes at words word) = Store (slice_index words word)
access_in_task seat (EndsSection step) = ending_access step
access_in_task seat (Tidies step) = sweeping_access seat step

-- what an access writes where it finds this
abbrev pub written_by : Access → ℕ → Option ℕ
written_by Load found = None
written_by (Store new) found = Some new
written_by (Swap old new) found = stored_if found old new
written_by (Raise by) found = Some (max found by)
