-- What the words of the slots are, and what write sets are in the logs.
use Rattle.std.specs.Prelude.{◌≡◌, ◌≢◌, ◌⊎◌, ℕ, ◌+◌, ◌-◌, ◌*◌, ◌<◌, ◌≤◌, false, List, length, Option, Some}
use Rattle.std.specs.Prelude.{None, slice_get, slice_index, slice_index_or}
use Rattle.mv_history.specs.declared.Commit.{Commit}
use Rattle.mv_history.specs.declared.Entry.{Entry}
use Rattle.mv_history.specs.declared.Entry.TheVariants.{Change}
use Rattle.mv_layout.specs.declared.Config.{Config}
use Rattle.mv_layout.specs.Words.{clock_of, unset_of}
use Rattle.mv_core.specs.declared.ring.Ring.{Ring}
use Rattle.mv_core.specs.declared.ring.Slot.{Slot}
use Rattle.mv_core.specs.declared.ring.Slot.TheVariants.{Free, Built, Live, Freeing}
use Rattle.mv_core.specs.declared.ring.Build.{Build}
use Rattle.mv_core.specs.declared.ring.Version.{Version}
use Rattle.mv_core.specs.declared.ring.WriteSetStatus.{WriteSetStatus}
use Rattle.mv_core.specs.declared.ring.WriteSetStatus.TheVariants.{Held, Aborted, Committed}
use Rattle.mv_core.specs.declared.ring.CommitNote.{CommitNote}
use Rattle.mv_core.specs.declared.view.OwnSection.{OwnSection}
use Rattle.mv_core.specs.declared.view.Mode.TheVariants.{Named}
use Rattle.mv_core.specs.declared.view.Naming.{Naming}
use Rattle.mv_core.specs.Rings.{slot_at, index_of, Lives, Names, HasFirst, InUse}
use Rattle.mv_core.specs.Times.{IsEntry, IsNextWrite}

-- the word is what was stored, if anything was
abbrev pub IsStored : Option ℕ → ℕ → Type 0
IsStored None n = Unit {0}
IsStored (Some x) n = n ≡ x

-- FIRST, PREV and DATA are those of the version
pub record HoldsVersion (first prev : ℕ) (data_word : ℕ → ℕ) (x : Version) : Type 0 where
  pub first_is : first ≡ x.first
  pub prev_is : prev ≡ x.previous
  pub wide : length x.words ≡ 6
  pub words : (i : ℕ) → i < 6 → data_word i ≡ slice_index x.words i

-- FIRST, PREV and DATA are those that were stored
pub record HoldsBuild (first prev : ℕ) (data_word : ℕ → ℕ) (b : Build) : Type 0 where
  pub first_is : IsStored b.first first
  pub prev_is : IsStored b.previous prev
  pub wide : length b.words ≡ 6
  pub words : (i : ℕ) → i < 6 → IsStored (slice_index_or b.words i None) (data_word i)

-- FIRST, PREV and DATA, by what is in the slot
abbrev pub HoldsSlot : ℕ → ℕ → (ℕ → ℕ) → Slot → Type 0
HoldsSlot first prev data_word Free = Unit {0}
HoldsSlot first prev data_word (Built b) = HoldsBuild first prev data_word b
HoldsSlot first prev data_word (Live x st) = HoldsVersion first prev data_word x
HoldsSlot first prev data_word (Freeing p f) = Unit {0}

-- slot-words: each slot's FIRST, PREV and DATA are what its owner's view says
abbrev pub SlotWords : (ℕ → ℕ → ℕ) → (ℕ → ℕ → ℕ) → (ℕ → ℕ → ℕ → ℕ) → (ℕ → Ring) → Type 0
SlotWords first prev data_word rings =
    (s k : ℕ) → HoldsSlot (first s k) (prev s k) (λ i. data_word s k i) (slot_at (rings s) k)

-- the stamp of a write set, whose first slot is this one: unset while held and when aborted, and of a commit its time, or unset while the clock names it
abbrev pub StampedAs : ℕ → ℕ → ℕ → ℕ → ℕ → WriteSetStatus → Type 0
StampedAs clock s k stamp first Held = stamp ≡ unset_of first
StampedAs clock s k stamp first (Aborted dead) = stamp ≡ unset_of first
StampedAs clock s k stamp first (Committed note) = (stamp ≡ note.time) ⊎ ((stamp ≡ unset_of first) × (clock ≡ clock_of note.time s k))

-- the stamp of the write set that a version is of
abbrev pub stamp_of : Config → (ℕ → ℕ → ℕ) → ℕ → Version → ℕ
stamp_of c stamp s x = stamp s (index_of c x.first)

-- stamps: each live version's write set has the stamp of its status, and a built slot the stamp that was stored
pub record Stamps (c : Config) (clock : ℕ) (stamp : ℕ → ℕ → ℕ) (rings : ℕ → Ring) : Type 0 where
  pub live : (s k : ℕ) (x : Version) (st : WriteSetStatus) → Lives rings s k x st → StampedAs clock s (index_of c x.first) (stamp_of c stamp s x) x.first st
  pub built : (s k : ℕ) (b : Build) → slot_at (rings s) k ≡ Built b → IsStored b.stamp (stamp s k)

-- the write set of a committed version has exactly the writes of one commit of its seat
pub record CommitOf (c : Config) (h : List Entry) (rings : ℕ → Ring) (s : ℕ) (x : Version) (note : CommitNote) : Type 0 where
  pub commit : Commit
  pub entry : IsEntry c.base h note.time (Change commit)
  pub seat : commit.seat ≡ s
  pub after_first : x.first ≤ x.position
  pub write : slice_get commit.writes (x.position - x.first) ≡ Some (x.object, x.words)
  pub all : (i : ℕ) → i < length commit.writes
      → (y : Version) × (other : CommitNote) × Lives rings s (index_of c (x.first + i)) y (Committed other) × (y.position ≡ x.first + i)
      × (y.first ≡ x.first) × (other.time ≡ note.time)

-- the version at a position belongs to this write set, and of its status this is known
pub record InHeldSet (c : Config) (rings : ℕ → Ring) (s first p : ℕ) (P : WriteSetStatus → Type 0) : Type 0 where
  pub version : Version
  pub status : WriteSetStatus
  pub lives : Lives rings s (index_of c p) version status
  pub position_is : version.position ≡ p
  pub first_is : version.first ≡ first
  pub known : P status

-- the version isn't committed
abbrev pub IsHeldOrAborted : WriteSetStatus → Type 0
IsHeldOrAborted Held = Unit {0}
IsHeldOrAborted (Aborted dead) = Unit {0}
IsHeldOrAborted (Committed note) = ⊥

-- the version at a position belongs to this write set
abbrev pub InSet : Config → (ℕ → Ring) → ℕ → ℕ → ℕ → Type 0
InSet c rings s first p = InHeldSet c rings s first p (λ st. Unit {0})

-- write-sets: a committed one has the writes of one commit, of each commit there is one, the first version of a set lives as long
-- as the others and none of them is before it, the positions between it and each other one are of that set, a set that is held or
-- aborted has no committed version, and the positions from the first held one on are of that set
pub record WriteSets (c : Config) (h : List Entry) (rings : ℕ → Ring) : Type 0 where
  pub commit : (s k : ℕ) (x : Version) (note : CommitNote) → Lives rings s k x (Committed note) → CommitOf c h rings s x note
  pub once : (s k l : ℕ) (x y : Version) (m n : CommitNote) → Lives rings s k x (Committed m) → Lives rings s l y (Committed n) → m.time ≡ n.time
      → x.first ≡ y.first
  pub first : (s k : ℕ) (x : Version) (st : WriteSetStatus) → Lives rings s k x st → HasFirst rings c s x
  pub after_first : (s k : ℕ) (x : Version) (st : WriteSetStatus) → Lives rings s k x st → x.first ≤ x.position
  pub between : (s k : ℕ) (x : Version) (st : WriteSetStatus) → Lives rings s k x st → (p : ℕ) → x.first ≤ p → p ≤ x.position
      → InSet c rings s x.first p
  pub apart : (s k l : ℕ) (x y : Version) (st : WriteSetStatus) (note : CommitNote) → Lives rings s k x st → IsHeldOrAborted st
      → Lives rings s l y (Committed note) → x.first ≢ y.first
  pub held : (s k : ℕ) (x : Version) → Lives rings s k x Held → (p : ℕ) → x.first ≤ p → p < (rings s).next
      → InHeldSet c rings s x.first p IsHeldOrAborted

-- the seat of a commit that isn't finished is in the section that named it
pub record IsNaming (section : ℕ → Option OwnSection) (time : ℕ) (P : Naming → Type 0) : Type 0 where
  pub seat : ℕ
  pub inside : OwnSection
  pub naming : Naming
  pub in_section : section seat ≡ Some inside
  pub mode : inside.mode ≡ Named naming
  pub time_is : naming.time ≡ time
  pub known : P naming

-- successors: SUPER of a live version is 0 or the time of the next write of its object, whose set is then stamped or no longer
-- live; it may be 0 under an unfinished commit, and of a version that was cut
pub record Successors (c : Config) (h : List Entry) (stamp super : ℕ → ℕ → ℕ) (section : ℕ → Option OwnSection) (rings : ℕ → Ring) : Type 0 where
  pub held : (s k : ℕ) (x : Version) (st : WriteSetStatus) → Lives rings s k x st → IsHeldOrAborted st → super s k ≡ 0
  pub next : (s k : ℕ) (x : Version) (note : CommitNote) → Lives rings s k x (Committed note) → super s k ≢ 0
      → IsNextWrite c.base h x.object note.time (super s k)
  pub stamped : (s k : ℕ) (x : Version) (note : CommitNote) → Lives rings s k x (Committed note) → (t l : ℕ) (y : Version) (other : CommitNote)
      → Lives rings t l y (Committed other) → other.time ≡ super s k → stamp_of c stamp t y ≡ other.time
  pub unfinished : (s k : ℕ) (x : Version) (note : CommitNote) → Lives rings s k x (Committed note) → note.cut ≡ false → super s k ≡ 0
      → (next : ℕ) → IsNextWrite c.base h x.object note.time next → IsNaming section next (λ _. Unit {0})
  pub built : (s k : ℕ) (b : Build) → slot_at (rings s) k ≡ Built b → IsStored b.successor (super s k)

-- below-is-stamped: a live version that a held or aborted version's link names is stamped
abbrev pub BelowIsStamped : Config → (ℕ → ℕ → ℕ) → (ℕ → Ring) → Type 0
BelowIsStamped c stamp rings =
    (s k : ℕ) (x : Version) (st : WriteSetStatus) → Lives rings s k x st → IsHeldOrAborted st
    → (y : Version) (note : CommitNote) (below : Names rings x.previous y (Committed note)) → stamp_of c stamp below.seat y ≡ note.time

-- unstamped-is-unfinished: a committed set whose stamp is unset is of a seat in that section, before its own stamp exchange
abbrev pub UnstampedIsUnfinished : Config → (ℕ → ℕ → ℕ) → (ℕ → Option OwnSection) → (ℕ → Ring) → Type 0
UnstampedIsUnfinished c stamp section rings =
    (s k : ℕ) (x : Version) (note : CommitNote) → Lives rings s k x (Committed note) → stamp_of c stamp s x ≢ note.time
    → (inside : OwnSection) × (naming : Naming) × (section s ≡ Some inside) × (inside.mode ≡ Named naming) × (naming.time ≡ note.time)
    × (naming.stamped ≡ false)

-- positions: each log has its slots, a live or freeing slot has its own position among the last ones used, with no gap, what is
-- being freed is after the first position of its set and before all that lives, a built slot is for the next position, and there
-- are no more positions than the time allows
pub record Positions (c : Config) (h : List Entry) (rings : ℕ → Ring) : Type 0 where
  pub wide : (s : ℕ) → length (rings s).slots ≡ c.slots
  pub within : (s k : ℕ) (x : Version) (st : WriteSetStatus) → Lives rings s k x st → s < c.seats
  pub live : (s k : ℕ) (x : Version) (st : WriteSetStatus) → Lives rings s k x st
      → (index_of c x.position ≡ k) × (x.position < (rings s).next) × ((rings s).next ≤ x.position + c.slots)
  pub freeing : (s k p first : ℕ) → slot_at (rings s) k ≡ Freeing p first
      → (index_of c p ≡ k) × (p < (rings s).next) × ((rings s).next ≤ p + c.slots)
  pub oldest : (s k p first : ℕ) → slot_at (rings s) k ≡ Freeing p first
      → (first < p) × ((j : ℕ) (x : Version) (st : WriteSetStatus) → Lives rings s j x st → p < x.position)
  pub built : (s k : ℕ) (b : Build) → slot_at (rings s) k ≡ Built b → index_of c (rings s).next ≡ k
  pub no_gap : (s p q : ℕ) → InUse rings c s p → p ≤ q → q < (rings s).next → InUse rings c s q
  pub bound : (s : ℕ) → (rings s).next ≤ c.slots * (length h + 1)
