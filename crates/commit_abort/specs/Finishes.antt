-- Finishing a commit that its section has named: what the calls need of the view and of the log, and what they leave.
use Rattle.std.specs.Prelude.{◌≡◌, ◌≢◌, ◌⊎◌, ℕ, ◌+◌, ◌<◌, ◌≤◌, ◌==◌, true, false, List, [], ◌∷◌, ◌++◌}
use Rattle.std.specs.Prelude.{length, All, None}
use Rattle.mv_history.specs.declared.Entry.{Entry}
use Rattle.mv_history.specs.declared.Step.{Step}
use Rattle.mv_history.specs.declared.StepKind.{StepKind}
use Rattle.mv_history.specs.declared.StepKind.TheVariants.{SwapStamp, StoreSuper, ClearMark}
use Rattle.mv_layout.specs.declared.Config.{Config}
use Rattle.mv_layout.specs.Words.{clock_time_of}
use Rattle.seat_log.specs.mv_core.declared.ring.Slot.{Slot}
use Rattle.seat_log.specs.mv_core.declared.ring.Slot.TheVariants.{Live}
use Rattle.seat_log.specs.mv_core.declared.ring.Version.{Version}
use Rattle.seat_log.specs.mv_core.declared.ring.WriteSetStatus.TheVariants.{Committed}
use Rattle.seat_log.specs.mv_core.declared.ring.CommitNote.{CommitNote}
use Rattle.seat_log.specs.mv_core.declared.view.Knowledge.{Knowledge}
use Rattle.seat_log.specs.mv_core.declared.view.Phase.TheVariants.{Outside, Inside}
use Rattle.seat_log.specs.mv_core.declared.view.Mode.{Mode}
use Rattle.seat_log.specs.mv_core.declared.view.OwnSection.{OwnSection}
use Rattle.seat_log.specs.mv_core.declared.view.Mode.TheVariants.{Named}
use Rattle.seat_log.specs.mv_core.declared.view.WalkStage.TheVariants.{Nowhere}
use Rattle.seat_log.specs.mv_core.Rings.{slot_at, index_of, HoldsNothing, held_count, set_first}
use Rattle.seat_log.specs.mv_core.Views.{no_clocks}
use Rattle.seat_log.specs.mv_core.WalkSteps.{IsPackedOf, IsLinkOf}
use Rattle.seat_log.specs.mv_core.NameSteps.{LogTold, commit_named, MayStoreSuper, super_stored}
use Rattle.seat_log.specs.reader_marks.Sections.{section_in}
use Rattle.seat_log.specs.declared.version.Note.{Note}
use Rattle.seat_log.specs.Notes.{Noted, held_from, IsNoteAt}
use Rattle.seat_log.specs.Stands.{version_of, Stands}
use Rattle.seat_log.specs.Builds.{version_in, note_in}

-- a won exchange of CLOCK for a commit: the view before it, its section, the tag, the word that was expected, and the whole history before it
pub record WonNaming : Type 0 where
  pub before : Knowledge
  pub inside : OwnSection
  pub tag : List ℕ
  pub word : ℕ
  pub history : List Entry

-- The last step of the pass was this exchange. Before it its section was open and held something, the log stood for the pass, and nothing was being built.
pub record IsJustNamed (c : Config) (w : Knowledge) (l : Noted) (won : WonNaming) : Type 0 where
  pub phase : won.before.phase ≡ Inside won.inside
  pub some : 0 < held_count won.before.ring
  pub named : w ≡ commit_named c won.before won.inside won.tag won.word won.history
  pub log : LogTold c won.before won.word
  pub stands : Stands c won.before l
  pub unbuilt : l.built ≡ None

-- the first position of the commit that a section of this mode has named; it tells nothing of one that has named none
abbrev pub first_of_mode : Mode → ℕ
first_of_mode (Named n) = n.first
first_of_mode _ = 0

-- the same of the section of a view
abbrev pub first_named : Knowledge → ℕ
first_named v = first_of_mode (section_in v).mode

-- the section has named the commit of this first position and time, and its own stamp isn't exchanged yet
abbrev pub HasNamed : Knowledge → ℕ → ℕ → OwnSection → Type 0
HasNamed v first time inside = v.phase ≡ Inside (record inside { mode = Named (record { time = time; first = first; stamped = false }) })

-- that exchange was made: nothing else changed but the words helped and the trail
pub record StampsIt (v w : Knowledge) (first time : ℕ) (inside : OwnSection) : Type 0 where
  pub phase : w.phase ≡ Inside (record inside { mode = Named (record { time = time; first = first; stamped = true }) })
  pub trail : (s : Step) × (w.trail ≡ v.trail ++ s ∷ []) × (s.kind ≡ SwapStamp)
  pub rest : w ≡ record v { phase = w.phase; clocks = w.clocks; trail = w.trail }

-- the held versions of the log are committed at this time; those with something below aren't linked yet
pub record AreCommitted (c : Config) (v : Knowledge) (l : Noted) (time : ℕ) : Type 0 where
  pub each : (i : ℕ) (n : Note) → IsNoteAt l i n → held_from l ≤ i
      → (note : CommitNote) × (slot_at v.ring (index_of c (l.freed + i)) ≡ Live (version_of n) (Committed note)) × (note.time ≡ time)
      × (note.linked ≡ (n.previous == 0)) × IsLinkOf c n.previous
  pub only : (k : ℕ) (x : Version) (note : CommitNote) → slot_at v.ring k ≡ Live x (Committed note) → note.time ≡ time
      → (i : ℕ) × (held_from l ≤ i) × (i < length l.live) × (k ≡ index_of c (l.freed + i))
  pub round : length l.live ≤ c.slots
  pub wide : length v.ring.slots ≡ c.slots
  pub nothing : HoldsNothing v.ring

-- a slot of the own log, the committed version that it has, and what is noted of its commit
pub record CommittedSlot : Type 0 where
  pub slot : ℕ
  pub version : Version
  pub note : CommitNote

-- this slot of a view's log, so; it tells nothing of a slot without one
abbrev pub above_at : Knowledge → ℕ → CommittedSlot
above_at v k = record { slot = k; version = version_in (slot_at v.ring k); note = note_in (slot_at v.ring k) }

-- SUPER may be stored below the version of this note, where something is below it
abbrev pub MayTell : Config → Knowledge → Note → ℕ → CommittedSlot → Type 0
MayTell c v n time above = n.previous ≢ 0 → IsPackedOf c n.previous × MayStoreSuper v n.previous time above.slot above.version above.note

-- and was stored, by the one step that was made
pub record TellsOne (c : Config) (v w : Knowledge) (n : Note) (time before after : ℕ) (above : CommittedSlot) : Type 0 where
  pub none : n.previous ≡ 0 → (w ≡ v) × (after ≡ before)
  pub one : n.previous ≢ 0 → (w ≡ super_stored c v n.previous time above.slot above.version above.note) × (after ≡ before + 1)

-- what is in a slot, and is there still, but that SUPER may have been stored below it
abbrev pub IsLinkedToo : Slot → Slot → Type 0
IsLinkedToo a b =
    (b ≡ a) ⊎ ((x : Version) × (note : CommitNote) × (a ≡ Live x (Committed note)) × (b ≡ Live x (Committed (record note { linked = true }))))

-- SUPER was stored below each of the held versions before this place in the log, and nothing else changed but the trail
pub record Tells (c : Config) (v w : Knowledge) (l : Noted) (i : ℕ) : Type 0 where
  pub kept : w ≡ record v { ring = w.ring; trail = w.trail }
  pub wide : length w.ring.slots ≡ length v.ring.slots
  pub next : w.ring.next ≡ v.ring.next
  pub more : (k : ℕ) → IsLinkedToo (slot_at v.ring k) (slot_at w.ring k)
  pub told : (j : ℕ) (x : Version) (note : CommitNote) → held_from l ≤ j → j < i
      → slot_at w.ring (index_of c (l.freed + j)) ≡ Live x (Committed note)
      → note.linked ≡ true
  pub left : (j : ℕ) → i ≤ j → j < length l.live → slot_at w.ring (index_of c (l.freed + j)) ≡ slot_at v.ring (index_of c (l.freed + j))
  pub trail : (steps : List Step) × (w.trail ≡ v.trail ++ steps) × (length steps + held_from l ≤ i) × All (λ s. s.kind ≡ StoreSuper) steps

-- of the version that was locked as number so many, from 0 on
abbrev pub above_held : Config → Knowledge → Noted → ℕ → CommittedSlot
above_held c v l which = above_at v (index_of c (l.freed + (held_from l + which)))

-- The commit that the view `from` has just named is being finished: its stamp was exchanged, SUPER was stored below the first so many versions
-- of its write set, and nothing else was done since.
pub record IsFinishing (c : Config) (from v : Knowledge) (l : Noted) (time told : ℕ) : Type 0 where
  pub won : WonNaming
  pub named : IsJustNamed c from l won
  pub time_is : time ≡ clock_time_of won.word + 1
  pub first : ℕ
  pub first_is : first ≡ set_first won.before.ring
  pub stamped : Knowledge
  pub stamps : StampsIt from stamped first time (section_in from)
  pub tells : Tells c stamped v l (held_from l + told)

-- a step of finishing a commit
abbrev pub IsFinishStep : StepKind → Type 0
IsFinishStep SwapStamp = Unit {0}
IsFinishStep StoreSuper = Unit {0}
IsFinishStep ClearMark = Unit {0}
IsFinishStep _ = ⊥

-- The section has ended: the walk, the write-back and the clock words with it. Its log is committed, and the trail has at most so many steps more,
-- each of a finish.
pub record Finishes (v w : Knowledge) (most : ℕ) : Type 0 where
  pub outside : w.phase ≡ Outside
  pub trail : (steps : List Step) × (w.trail ≡ v.trail ++ steps) × (length steps ≤ most) × All (λ s. IsFinishStep s.kind) steps
  pub rest : w ≡ record v { phase = Outside; clocks = no_clocks; walk = Nowhere; back = None; ring = w.ring; trail = w.trail }
