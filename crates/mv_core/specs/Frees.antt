-- How the slots of a write set are freed: the first free takes the whole set out of its log, when each of its versions is dead by
-- the watermark of its seat; the other slots are being freed then, and nothing reaches them.
use Rattle.std.specs.Prelude.{◌≡◌, ◌≢◌, ◌⊎◌, ℕ, ◌+◌, ◌/◌, ◌<◌, ◌≤◌, true, List, Some}
use Rattle.mv_history.specs.declared.Entry.{Entry}
use Rattle.mv_history.specs.State.{maker_of}
use Rattle.mv_layout.specs.declared.Config.{Config}
use Rattle.mv_layout.specs.declared.SharedWord.TheVariants.{Clock}
use Rattle.mv_layout.specs.Places.{Memory}
use Rattle.mv_layout.specs.Words.{link_of, clock_seat_of, clock_slot_of}
use Rattle.mv_core.specs.declared.ring.Slot.TheVariants.{Free, Live, Freeing}
use Rattle.mv_core.specs.declared.ring.Version.{Version}
use Rattle.mv_core.specs.declared.ring.WriteSetStatus.{WriteSetStatus}
use Rattle.mv_core.specs.declared.ring.WriteSetStatus.TheVariants.{Committed}
use Rattle.mv_core.specs.declared.ring.CommitNote.{CommitNote}
use Rattle.mv_core.specs.declared.view.Knowledge.{Knowledge}
use Rattle.mv_core.specs.declared.view.OwnSection.{OwnSection}
use Rattle.mv_core.specs.declared.view.Mode.TheVariants.{Named}
use Rattle.mv_core.specs.declared.view.Naming.{Naming}
use Rattle.mv_core.specs.Rings.{slot_at, index_of, Lives, IsVersion}
use Rattle.mv_core.specs.Times.{writes_to, IsEntry}
use Rattle.mv_core.specs.Views.{ViewParts}
use Rattle.mv_core.specs.ReclaimSteps.{IsDeadBy, free_stored}
use Rattle.mv_core.specs.Chains.{ReachesLink, Reaches}

-- the commit that CLOCK names, where it is of this seat, begins after the position
abbrev pub ClockIsAfter : Memory → ViewParts → ℕ → ℕ → Type 0
ClockIsAfter m f s p =
    clock_slot_of (m Clock) ≢ 8191 → clock_seat_of (m Clock) ≡ s
    → (x : Version) × (note : CommitNote) × Lives f.ring s (clock_slot_of (m Clock)) x (Committed note) × (x.position ≡ x.first) × (p < x.first)

-- a position of a seat's log whose slot is being freed: the set was freed from its first position on; each live version is of a
-- later set, so none of this one is live; no section that named a commit named this set, and CLOCK names none up to here; no
-- section reaches a link up to here; and the round of the position is below the seat's watermark
pub record FreeingIs (c : Config) (m : Memory) (f : ViewParts) (s p first : ℕ) : Type 0 where
  pub after_first : first < p
  pub later_sets : (k : ℕ) (x : Version) (st : WriteSetStatus) → Lives f.ring s k x st → p < x.first
  pub named_later : (inside : OwnSection) (n : Naming) → f.section s ≡ Some inside → inside.mode ≡ Named n → p < n.first
  pub clock_later : ClockIsAfter m f s p
  pub unreached : (j t link q : ℕ) → ReachesLink c m f j t link → q ≤ p → link ≢ link_of s q
  pub round : c.base + p / c.slots < f.grace s

-- what is being freed is so; no section reaches a version that is dead by its seat's watermark; and each write of the history has
-- its version still, or its time is below the watermark of the seat that made it
pub record FreesHold (c : Config) (m : Memory) (h : List Entry) (f : ViewParts) : Type 0 where
  pub freeing : (s k p first : ℕ) → slot_at (f.ring s) k ≡ Freeing p first → FreeingIs c m f s p first
  pub dead : (s k : ℕ) (x : Version) (st : WriteSetStatus) → Lives f.ring s k x st → IsDeadBy (f.grace s) st → (j t : ℕ)
      → ¬ (Reaches c m f j t (record { seat = s; slot = k; version = x; status = st }))
  pub old : (t o : ℕ) (e : Entry) → IsEntry c.base h t e → writes_to o e ≡ true
      → ((link : ℕ) × (x : Version) × (note : CommitNote) × IsVersion f.ring o t link x note) ⊎ (t < f.grace (maker_of e))

-- the first free of a write set: it is of the set's first position, each version of the set is dead by the seat's watermark, and
-- afterwards none is live: that slot is free, and each other one is being freed
pub record FirstFree (c : Config) (v : Knowledge) (position : ℕ) (x : Version) : Type 0 where
  pub position_is : x.position ≡ position
  pub first_is : x.first ≡ position
  pub dead : (k : ℕ) (y : Version) (st : WriteSetStatus) → slot_at v.ring k ≡ Live y st → y.first ≡ position → IsDeadBy v.grace st
  pub gone : (k : ℕ) (y : Version) (st : WriteSetStatus) → slot_at (free_stored c v position).ring k ≡ Live y st → y.first ≢ position
  pub freed : slot_at (free_stored c v position).ring (index_of c position) ≡ Free
  pub freeing : (k : ℕ) (y : Version) (st : WriteSetStatus) → slot_at v.ring k ≡ Live y st → y.first ≡ position → k ≢ index_of c position
      → slot_at (free_stored c v position).ring k ≡ Freeing y.position position
