-- Freeing the oldest write set of a log: when it is freed, and what that makes of the notes and of the view.
use Rattle.std.specs.Prelude.{◌≡◌, ◌≢◌, ◌⊎◌, ℕ, zero, suc, ◌+◌, ◌<◌, ◌≤◌, length, drop}
use Rattle.mv_layout.specs.declared.Config.{Config}
use Rattle.reader_marks.specs.mv_core.declared.view.Knowledge.{Knowledge}
use Rattle.reader_marks.specs.mv_core.ReclaimSteps.{free_stored}
use Rattle.seat_log.specs.declared.version.Note.{Note}
use Rattle.seat_log.specs.Notes.{Noted, IsNoteAt}

-- a version is noted to be dead from a time not above t
abbrev pub IsDeadNote : ℕ → Note → Type 0
IsDeadNote t n = (0 < n.dead) × (n.dead ≤ t)

-- each version of the oldest write set is
abbrev pub OldestIsDead : Noted → ℕ → Type 0
OldestIsDead l t = (i : ℕ) (n : Note) → IsNoteAt l i n → n.first ≡ l.freed → IsDeadNote t n

-- the first k live versions are the oldest write set, which begins at the oldest position; an empty log has none
pub record IsOldestSet (l : Noted) (k : ℕ) : Type 0 where
  pub few : k ≤ length l.live
  pub inside : (i : ℕ) (n : Note) → IsNoteAt l i n → i < k → n.first ≡ l.freed
  pub outside : (i : ℕ) (n : Note) → IsNoteAt l i n → k ≤ i → n.first ≢ l.freed

-- how many slots are freed: those of the oldest write set where each of its versions is dead from a time not above t, and else none
abbrev pub FreesSet : Noted → ℕ → ℕ → Type 0
FreesSet l t k = (OldestIsDead l t × IsOldestSet l k) ⊎ ((OldestIsDead l t → ⊥) × (k ≡ 0))

-- the first k live versions were freed
abbrev pub freed_noted : Noted → ℕ → Noted
freed_noted l k = record l { live = drop k l.live; freed = l.freed + k }

-- the view after the slots of k positions from one on were freed, one after another
unfoldable pub slots_freed : Config → Knowledge → ℕ → ℕ → Knowledge
slots_freed c v position zero = v
slots_freed c v position (suc k) = free_stored c (slots_freed c v position k) (position + k)
