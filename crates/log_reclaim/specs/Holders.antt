-- Who holds the oldest write set of a log, and the cause of each.
use Rattle.std.specs.Prelude.{◌≡◌, ◌≢◌, ◌⊎◌, ℕ, ◌+◌, ◌<◌, ◌≤◌, Bool, true, false, List, ◌∷◌, ◌++◌, length}
use Rattle.std.specs.Prelude.{Contains, All, Option, Some, None}
use Rattle.mv_history.specs.declared.Entry.{Entry}
use Rattle.mv_history.specs.declared.Step.{Step}
use Rattle.mv_history.specs.declared.answers.Holder.{Holder}
use Rattle.mv_history.specs.declared.answers.Holder.TheVariants.{Mark, Above, Fresh, End}
use Rattle.mv_history.specs.State.{maker_of}
use Rattle.mv_layout.specs.declared.Config.{Config}
use Rattle.mv_layout.specs.Words.{clock_time_of}
use Rattle.seat_log.specs.mv_core.declared.ring.Slot.TheVariants.{Live}
use Rattle.seat_log.specs.mv_core.declared.ring.Version.{Version}
use Rattle.seat_log.specs.mv_core.declared.ring.WriteSetStatus.{WriteSetStatus}
use Rattle.seat_log.specs.mv_core.declared.ring.WriteSetStatus.TheVariants.{Held, Aborted, Committed}
use Rattle.seat_log.specs.mv_core.declared.view.Knowledge.{Knowledge}
use Rattle.seat_log.specs.mv_core.Rings.{slot_at, index_of}
use Rattle.seat_log.specs.mv_core.Times.{latest, IsEntry, IsNextIn}
use Rattle.seat_log.specs.reader_marks.Scans.{mark_step, scan_step}
use Rattle.seat_log.specs.declared.version.Note.{Note}
use Rattle.seat_log.specs.Notes.{Noted, IsNoteAt}
use Rattle.seat_log.specs.Stands.{version_of}
use Rattle.log_reclaim.specs.Parts.{BeginsNoScan, super_step, FindsAbove}

-- The watermark that a version needs: one that was aborted or cut needs its noted time of death, the one above the clock that its
-- owner loaded afterwards; a committed one whose object has a later write in what was seen needs the time of the next; any other
-- its own time.
abbrev pub Needs : Knowledge → Version → WriteSetStatus → ℕ → Type 0
Needs v x Held t = ⊥
Needs v x (Aborted dead) t = dead ≡ Some t
Needs v x (Committed note) t =
    ((note.cut ≡ true) × (note.dead ≡ Some t))
    ⊎ (((note.cut ≡ false) × IsNextIn v.base v.past.seen x.object note.time t)
    ⊎ ((note.cut ≡ false) × (latest v.base v.past.seen x.object ≤ note.time) × (t ≡ note.time)))

-- a version of the oldest write set needs this watermark
pub record OldestNeeds (c : Config) (v : Knowledge) (l : Noted) (t : ℕ) : Type 0 where
  pub index : ℕ
  pub note : Note
  pub at : IsNoteAt l index note
  pub oldest : note.first ≡ l.freed
  pub status : WriteSetStatus
  pub lives : slot_at v.ring (index_of c note.position) ≡ Live (version_of note) status
  pub needs : Needs v (version_of note) status t

-- a version of the oldest write set needs a watermark above this one
abbrev pub OldestNeedsMore : Config → Knowledge → Noted → ℕ → Type 0
OldestNeedsMore c v l low = (t : ℕ) × OldestNeeds c v l t × (low < t)

-- among these steps is a load of this other seat's mark, which found this low time
pub record ReadsMark (c : Config) (own : ℕ) (made : List Step) (seat low : ℕ) : Type 0 where
  pub not_own : seat ≢ own
  pub in_range : seat < c.seats
  pub read : Contains made (mark_step c seat (1 + low))

-- a version of the oldest write set is of this object, committed and without a time of death, and a write-back of it found a newer
-- version in HEAD, another seat's
pub record OldestIsUnder (c : Config) (w : Knowledge) (l : Noted) (made : List Step) (object seat : ℕ) : Type 0 where
  pub index : ℕ
  pub note : Note
  pub at : IsNoteAt l index note
  pub oldest : note.first ≡ l.freed
  pub committed : 0 < note.time
  pub untimed : note.dead ≡ 0
  pub object_is : note.object ≡ object
  pub finds : FindsAbove c w made note seat

-- the last scan among these steps loaded a clock word of an earlier time than this one
pub record IsAfterScan (c : Config) (made : List Step) (time : ℕ) : Type 0 where
  pub word : ℕ
  pub before : List Step
  pub after : List Step
  pub made_is : made ≡ before ++ scan_step c word ∷ after
  pub last : All (λ s. BeginsNoScan s.kind) after
  pub later : clock_time_of word < time

-- what was seen has an entry of this time, by another seat
pub record IsOthers (v : Knowledge) (time : ℕ) : Type 0 where
  pub entry : Entry
  pub at : IsEntry v.base v.past.seen time entry
  pub not_own : maker_of entry ≢ v.number

-- a load of CLOCK among these steps found the last time
pub record FindsLast (made : List Step) : Type 0 where
  pub step : Step
  pub there : Contains made step
  pub clock : step.word ≡ 0
  pub word : ℕ
  pub found : step.found ≡ Some word
  pub last : clock_time_of word ≡ 35184372088831

-- SUPER was found 0 in a version of the oldest write set, of a commit of this time
pub record OldestIsLast (c : Config) (own : ℕ) (l : Noted) (made : List Step) (time : ℕ) : Type 0 where
  pub index : ℕ
  pub note : Note
  pub at : IsNoteAt l index note
  pub oldest : note.first ≡ l.freed
  pub time_is : note.time ≡ time
  pub super : Contains made (super_step c own note)

-- the cause of a holder that a tidy answers, which has left this view and this log after these steps
abbrev pub TidyHolds : Config → Knowledge → Noted → List Step → Holder → Type 0
TidyHolds c w l made (Mark seat low) = ReadsMark c w.number made seat low × OldestNeedsMore c w l low
TidyHolds c w l made (Above object seat) = OldestIsUnder c w l made object seat
TidyHolds c w l made (Fresh time) = IsAfterScan c made time × IsOthers w time × OldestNeeds c w l time
TidyHolds c w l made End = FindsLast made × OldestNeedsMore c w l 35184372088831

-- The same of a round: there `Fresh` comes where a version needs a time above the scan's clock, or, in a round that writes
-- nothing back, where one has no later write.
abbrev pub RoundHolds : Config → Knowledge → Noted → List Step → Bool → Holder → Type 0
RoundHolds c w l made back (Mark seat low) = ReadsMark c w.number made seat low × OldestNeedsMore c w l low
RoundHolds c w l made back (Above object seat) = OldestIsUnder c w l made object seat
RoundHolds c w l made back (Fresh time) =
    (IsAfterScan c made time × OldestNeeds c w l time) ⊎ ((back ≡ false) × OldestIsLast c w.number l made time)
RoundHolds c w l made back End = FindsLast made × OldestNeedsMore c w l 35184372088831

-- no holder exactly where the log is empty
abbrev pub HeldSo : (Holder → Type 0) → Noted → Option Holder → Type 0
HeldSo Causes l None = length l.live ≡ 0
HeldSo Causes l (Some holder) = (0 < length l.live) × Causes holder
