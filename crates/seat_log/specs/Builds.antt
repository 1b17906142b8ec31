-- Building a version in the next slot of the own log: what the calls need of the view, and what they make of it.
use Rattle.std.specs.Prelude.{◌≡◌, ℕ, zero, suc, ◌+◌, ◌<◌, ◌==◌, if◌then◌else◌, false, List, [], length, Some, None}
use Rattle.std.specs.Prelude.{unwrap_or, slice_index}
use Rattle.mv_layout.specs.declared.Config.{Config}
use Rattle.mv_layout.specs.declared.cells.TheConstants.{FIRST_OFFSET, STAMP_OFFSET, PREV_OFFSET, SUPER_OFFSET, DATA_OFFSET}
use Rattle.mv_layout.specs.Words.{unset_of}
use Rattle.reader_marks.specs.mv_core.declared.ring.Build.{Build}
use Rattle.reader_marks.specs.mv_core.declared.ring.Slot.{Slot}
use Rattle.reader_marks.specs.mv_core.declared.ring.Slot.TheVariants.{Live}
use Rattle.reader_marks.specs.mv_core.declared.ring.Version.{Version}
use Rattle.reader_marks.specs.mv_core.declared.ring.WriteSetStatus.TheVariants.{Committed}
use Rattle.reader_marks.specs.mv_core.declared.ring.CommitNote.{CommitNote}
use Rattle.reader_marks.specs.mv_core.declared.view.Knowledge.{Knowledge}
use Rattle.reader_marks.specs.mv_core.declared.view.Phase.TheVariants.{Inside}
use Rattle.reader_marks.specs.mv_core.declared.view.OwnSection.{OwnSection}
use Rattle.reader_marks.specs.mv_core.declared.view.Mode.TheVariants.{Open}
use Rattle.reader_marks.specs.mv_core.Rings.{slot_at, index_of, set_first}
use Rattle.reader_marks.specs.mv_core.LockSteps.{nothing_built, build_in, built_stored, data_stored}

-- the view is in an open section
abbrev pub IsOpen : Knowledge → Type 0
IsOpen v = (inside : OwnSection) × (v.phase ≡ Inside inside) × (inside.mode ≡ Open)

-- what was stored so far of the version at a position
abbrev pub build_at : Config → Knowledge → ℕ → Build
build_at c v position = unwrap_or (build_in (slot_at v.ring (index_of c position))) nothing_built

-- the view after one more word of it was stored
unfoldable pub stored_next : Config → Knowledge → ℕ → ℕ → ℕ → Knowledge
stored_next c v position field x = built_stored c v position field x (build_at c v position)

-- the view after so many of its data words were stored, in order
unfoldable pub words_stored : Config → Knowledge → ℕ → List ℕ → ℕ → Knowledge
words_stored c v position words zero = v
words_stored c v position words (suc i) = stored_next c (words_stored c v position words i) position (DATA_OFFSET + i) (slice_index words i)

-- FIRST, and STAMP where the position is the first of its set
unfoldable pub begun : Config → Knowledge → ℕ → ℕ → Knowledge
begun c v position first =
    let one = stored_next c v position FIRST_OFFSET first in
    if first == position then stored_next c one position STAMP_OFFSET (unset_of position) else one

-- then PREV, and SUPER
unfoldable pub linked : Config → Knowledge → ℕ → ℕ → ℕ → Knowledge
linked c v position first previous = stored_next c (stored_next c (begun c v position first) position PREV_OFFSET previous) position SUPER_OFFSET 0

-- and then the six data words: the version is whole
unfoldable pub slot_built : Config → Knowledge → ℕ → ℕ → ℕ → List ℕ → Knowledge
slot_built c v position first previous words = words_stored c (linked c v position first previous) position words 6

-- how many words that are
abbrev pub build_cost : ℕ → ℕ → ℕ
build_cost position first = if first == position then 10 else 9

-- a version may be built at a position: in an open section, at the next position, whose slot is free or being built
pub record MayBuild (c : Config) (v : Knowledge) (position : ℕ) : Type 0 where
  pub open_is : IsOpen v
  pub next : position ≡ v.ring.next
  pub within : index_of c position < length v.ring.slots
  pub spare : (b : Build) × (build_in (slot_at v.ring (index_of c position)) ≡ Some b)

-- the first position of the write set that is held, or the next position where nothing is held
abbrev pub first_in : Knowledge → ℕ
first_in v = set_first v.ring

-- what is left of a version at this slot; it tells nothing of a slot that has none
abbrev pub version_in : Slot → Version
version_in (Live x st) = x
version_in _ = record { position = 0; first = 0; object = 0; previous = 0; words = [] }

-- what is noted of the commit of the version in a slot; it tells nothing of another slot
abbrev pub note_in : Slot → CommitNote
note_in (Live x (Committed note)) = note
note_in _ = record { time = 0; dead = None; cut = false; linked = false }

-- the version at a position of the own log
abbrev pub version_at : Config → Knowledge → ℕ → Version
version_at c v position = version_in (slot_at v.ring (index_of c position))

-- the view after a data word of the held version at a position was stored
abbrev pub word_stored : Config → Knowledge → ℕ → ℕ → ℕ → Knowledge
word_stored c v position word value = data_stored c v position word value (version_at c v position)

-- the view after so many data words of the held version at a position were stored, in order
unfoldable pub words_put : Config → Knowledge → ℕ → List ℕ → ℕ → Knowledge
words_put c v position words zero = v
words_put c v position words (suc i) = word_stored c (words_put c v position words i) position i (slice_index words i)

-- nothing of a view has changed but the log and the trail
abbrev pub ChangesLog : Knowledge → Knowledge → Type 0
ChangesLog v w = w ≡ record v { ring = w.ring; trail = w.trail }
