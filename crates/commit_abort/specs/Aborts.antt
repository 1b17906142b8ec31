-- Giving up what a section holds: what the calls need of the view and of the log, and what they leave.
use Rattle.std.specs.Prelude.{◌≡◌, ◌≢◌, ◌⊎◌, ℕ, zero, suc, ◌+◌, ◌<◌, ◌≤◌, List, ◌++◌, length, All, None}
use Rattle.mv_history.specs.declared.Entry.{Entry}
use Rattle.mv_history.specs.declared.Step.{Step}
use Rattle.mv_history.specs.declared.StepKind.{StepKind}
use Rattle.mv_history.specs.declared.StepKind.TheVariants.{UnlockHead, LoadDeath, ClearMark}
use Rattle.mv_layout.specs.declared.Config.{Config}
use Rattle.seat_log.specs.mv_core.declared.ring.Slot.{Slot}
use Rattle.seat_log.specs.mv_core.declared.ring.Slot.TheVariants.{Live}
use Rattle.seat_log.specs.mv_core.declared.ring.Version.{Version}
use Rattle.seat_log.specs.mv_core.declared.ring.WriteSetStatus.TheVariants.{Held, Aborted}
use Rattle.seat_log.specs.mv_core.declared.view.Knowledge.{Knowledge}
use Rattle.seat_log.specs.mv_core.declared.view.Phase.TheVariants.{Outside, Inside}
use Rattle.seat_log.specs.mv_core.declared.view.OwnSection.{OwnSection}
use Rattle.seat_log.specs.mv_core.declared.view.Mode.TheVariants.{Open}
use Rattle.seat_log.specs.mv_core.declared.view.WalkStage.TheVariants.{Nowhere}
use Rattle.seat_log.specs.mv_core.Rings.{slot_at, index_of}
use Rattle.seat_log.specs.mv_core.Views.{no_clocks, IsUnnamed}
use Rattle.seat_log.specs.mv_core.HistoryFacts.{BeginsWith}
use Rattle.mv_layout.specs.Words.{clock_time_of}
use Rattle.seat_log.specs.mv_core.EnterSteps.{IsWhole}
use Rattle.seat_log.specs.mv_core.LockSteps.{MayUnlock, head_unlocked, death_loaded}
use Rattle.seat_log.specs.reader_marks.Sections.{section_in}
use Rattle.seat_log.specs.declared.version.Note.{Note}
use Rattle.seat_log.specs.Notes.{Noted, held_from}
use Rattle.seat_log.specs.Stands.{Stands}
use Rattle.seat_log.specs.Builds.{version_in}

-- an open section
pub record IsOpen (v : Knowledge) (inside : OwnSection) : Type 0 where
  pub phase : v.phase ≡ Inside inside
  pub open_is : inside.mode ≡ Open

-- what is in a slot, and is there still, but that what was held may be aborted
abbrev pub IsAbortedToo : Slot → Slot → Type 0
IsAbortedToo a b = (b ≡ a) ⊎ ((x : Version) × (a ≡ Live x Held) × (b ≡ Live x (Aborted None)))

-- HEAD was given back of each of the held versions before this place in the log, by one step each, and nothing else changed but how far the
-- section is, and the trail
pub record Unlocks (c : Config) (v w : Knowledge) (l : Noted) (inside : OwnSection) (i : ℕ) : Type 0 where
  pub inside_now : OwnSection
  pub phase : w.phase ≡ Inside inside_now
  pub unnamed : IsUnnamed inside_now.mode
  pub kept : w ≡ record v { phase = w.phase; ring = w.ring; trail = w.trail }
  pub wide : length w.ring.slots ≡ length v.ring.slots
  pub next : w.ring.next ≡ v.ring.next
  pub more : (k : ℕ) → IsAbortedToo (slot_at v.ring k) (slot_at w.ring k)
  pub gone : (j : ℕ) → held_from l ≤ j → j < i → (x : Version) × (slot_at w.ring (index_of c (l.freed + j)) ≡ Live x (Aborted None))
  pub left : (j : ℕ) → i ≤ j → j < length l.live → slot_at w.ring (index_of c (l.freed + j)) ≡ slot_at v.ring (index_of c (l.freed + j))
  pub trail : (steps : List Step) × (w.trail ≡ v.trail ++ steps) × (length steps + held_from l ≡ i) × All (λ s. s.kind ≡ UnlockHead) steps

-- a slot of the own log, the held version that it has, and the section that holds it
pub record HeldSlot : Type 0 where
  pub slot : ℕ
  pub version : Version
  pub inside : OwnSection

-- this slot of a view's log, so; it tells nothing of a slot without a version
abbrev pub held_in : Knowledge → ℕ → HeldSlot
held_in v k = record { slot = k; version = version_in (slot_at v.ring k); inside = section_in v }

-- HEAD of the object of this note may be given back
abbrev pub MayGiveBack : Config → Knowledge → Note → HeldSlot → Type 0
MayGiveBack c v n held = (n.object < c.objects) × MayUnlock v n.object n.previous held.slot held.version held.inside

-- and was
abbrev pub GivesBack : Config → Knowledge → Knowledge → Note → HeldSlot → Type 0
GivesBack c v w n held = w ≡ head_unlocked c v n.object n.previous held.slot held.version held.inside

-- of the version that was locked as number so many, from 0 on
abbrev pub held_number : Config → Knowledge → Noted → ℕ → HeldSlot
held_number c v l which = held_in v (index_of c (l.freed + (held_from l + which)))

-- What the open section of the view `from` holds is being given up: HEAD was given back of the first so many objects, and nothing else was done since.
pub record IsAborting (c : Config) (from v : Knowledge) (l : Noted) (given : ℕ) : Type 0 where
  pub inside : OwnSection
  pub opened : IsOpen from inside
  pub stands : Stands c from l
  pub unbuilt : l.built ≡ None
  pub unlocks : Unlocks c from v l inside (held_from l + given)

-- CLOCK was loaded, by one step, and `dead` is the time after its word's
pub record TimesDeath (c : Config) (v w : Knowledge) (dead before after : ℕ) : Type 0 where
  pub word : ℕ
  pub history : List Entry
  pub whole : IsWhole c v word history
  pub view : w ≡ death_loaded c v word history
  pub dead_is : dead ≡ clock_time_of word + 1
  pub step : after ≡ before + 1

-- so it was where something was held; else nothing was done, and `dead` is 0
pub record LoadsDeath (c : Config) (v w : Knowledge) (held dead before after : ℕ) : Type 0 where
  pub none : held ≡ 0 → (w ≡ v) × (dead ≡ 0) × (after ≡ before)
  pub some : held ≢ 0 → TimesDeath c v w dead before after

-- HEAD was given back of all that the section of the view `from` held, and the time of death was found
pub record HasGivenUp (c : Config) (from v : Knowledge) (l : Noted) (dead : ℕ) : Type 0 where
  pub before : Knowledge
  pub aborting : IsAborting c from before l l.held
  pub at_first : ℕ
  pub at_last : ℕ
  pub death : LoadsDeath c before v l.held dead at_first at_last

-- a step of an abort
abbrev pub IsAbortStep : StepKind → Type 0
IsAbortStep UnlockHead = Unit {0}
IsAbortStep LoadDeath = Unit {0}
IsAbortStep ClearMark = Unit {0}
IsAbortStep _ = ⊥

-- how many steps an abort makes at most, with so many versions held
abbrev pub abort_cost : ℕ → ℕ
abort_cost zero = 1
abort_cost (suc n) = suc n + 2

-- The section has ended and made no entry, nor tried to: the trail has at most so many steps more, each of an abort, and more may have been seen.
pub record Aborts (v w : Knowledge) (most : ℕ) : Type 0 where
  pub outside : w.phase ≡ Outside
  pub seen : BeginsWith w.past.seen v.past.seen
  pub trail : (steps : List Step) × (w.trail ≡ v.trail ++ steps) × (length steps ≤ most) × All (λ s. IsAbortStep s.kind) steps
  pub rest : w
      ≡ record v {
        past = record v.past { seen = w.past.seen };
        phase = Outside;
        clocks = no_clocks;
        walk = Nowhere;
        back = None;
        ring = w.ring;
        trail = w.trail;
      }
