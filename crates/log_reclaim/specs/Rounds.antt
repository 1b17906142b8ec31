-- The parts of a round, and what it leaves of each version.
use Rattle.std.specs.Prelude.{◌≡◌, ◌⊎◌, ℕ, ◌<◌, ◌≤◌, Bool, true, false, if◌then◌else◌, nat_lt, List, [], ◌∷◌, ◌++◌, length}
use Rattle.std.specs.Prelude.{All, Option, Some, None}
use Rattle.mv_history.specs.declared.answers.Holder.{Holder}
use Rattle.mv_history.specs.declared.answers.Holder.TheVariants.{Mark, Above, Fresh, End}
use Rattle.mv_history.specs.declared.Step.{Step}
use Rattle.mv_history.specs.declared.StepKind.TheVariants.{StoreFree}
use Rattle.mv_layout.specs.declared.Config.{Config}
use Rattle.seat_log.specs.mv_core.declared.view.Knowledge.{Knowledge}
use Rattle.seat_log.specs.reader_marks.declared.scanning.Watermark.{Watermark}
use Rattle.seat_log.specs.declared.version.Note.{Note}
use Rattle.seat_log.specs.Notes.{Noted, IsNoteAt}
use Rattle.seat_log.specs.Frees.{OldestIsDead, IsDeadNote, freed_noted}
use Rattle.log_reclaim.specs.declared.settling.HeadHolders.{HeadHolders}
use Rattle.log_reclaim.specs.declared.rounds.RoundScan.{RoundScan}
use Rattle.log_reclaim.specs.Sweeps.{found_at}
use Rattle.log_reclaim.specs.Parts.{HasScanned, IsPlain, grace_load}
use Rattle.log_reclaim.specs.Tries.{Makes}
use Rattle.log_reclaim.specs.Untimed.{StaysUntimed}

-- So many slots were freed, by one step each, and the oldest write set that is left isn't dead by that time. Of the view nothing
-- has changed but the log and the trail.
pub record FreesAll (v w : Knowledge) (l m : Noted) (made : List Step) (time freed : ℕ) : Type 0 where
  pub makes : Makes v w made
  pub kinds : All (λ s. s.kind ≡ StoreFree) made
  pub long : length made ≡ freed
  pub view : w ≡ record v { ring = w.ring; trail = w.trail }
  pub few : freed ≤ length l.live
  pub log : m ≡ freed_noted l freed
  pub kept : 0 < length m.live → OldestIsDead m time → ⊥

-- what a call does once its first frees have left nothing: a tidy loads GRACE once more, which begins its round without write-backs, and a
-- round does nothing
abbrev pub EndsBy : Config → Bool → List Step → Type 0
EndsBy c true rest = (time : ℕ) × (rest ≡ grace_load c time ∷ [])
EndsBy c false rest = rest ≡ []

-- The steps of a round, or of a tidy, begin with a load of GRACE and the frees that the time found there allows, one step for each slot:
-- the oldest write set that these leave isn't dead by that time. Where they leave nothing, only what ends the call so follows.
pub record FreesFirst (c : Config) (l : Noted) (made : List Step) (tidies : Bool) : Type 0 where
  pub time : ℕ
  pub frees : List Step
  pub rest : List Step
  pub made_is : made ≡ (grace_load c time ∷ frees) ++ rest
  pub kinds : All (λ s. s.kind ≡ StoreFree) frees
  pub few : length frees ≤ length l.live
  pub kept : length frees < length l.live → OldestIsDead (freed_noted l (length frees)) time → ⊥
  pub empty : length frees ≡ length l.live → EndsBy c tidies rest

-- the same, where a scan comes only after frees that left something
abbrev pub FreesBeforeScan : Config → Noted → List Step → Option RoundScan → Type 0
FreesBeforeScan c l made None = FreesFirst c l made false
FreesBeforeScan c l made (Some scanned) = (first : FreesFirst c l made false) × (length first.frees < length l.live)

-- the first version of the oldest write set that isn't dead by this time; where there is none, the set is dead by it
abbrev pub IsDue : Noted → ℕ → Option Note → Type 0
IsDue l time (Some n) = (i : ℕ) × IsNoteAt l i n × (n.first ≡ l.freed) × (IsDeadNote time n → ⊥)
IsDue l time None = OldestIsDead l time

-- the holder by the mark of a scan
abbrev pub by_mark_of : Watermark → Holder
by_mark_of mark = Mark mark.seat mark.low

-- the holder of a version without a time of death, by which seat's version its write-back found in HEAD
abbrev pub untimed_holder : RoundScan → Note → Option ℕ → Holder
untimed_holder first n None = by_mark_of first.mark
untimed_holder first n (Some seat) = Above n.object seat

-- The holder by the version that is due: the last time is reached; it is dead from a time above the last scan's clock; it is dead
-- from a time above the last scan's watermark; it is untimed after a round that wrote nothing back; or a write-back left it
-- untimed.
abbrev pub holder_of : RoundScan → RoundScan → Bool → HeadHolders → Note → Holder
holder_of first last back found n =
    if nat_lt 35184372088831 n.dead then End
    else (if nat_lt last.clock n.dead then Fresh n.dead
    else (if nat_lt 0 n.dead then by_mark_of last.mark
    else (if back then untimed_holder first n (found_at found n.position)
    else Fresh n.time)))

-- who holds the oldest write set: by the version of it that is due by the last scan's watermark
abbrev pub IsHolder : Noted → RoundScan → RoundScan → Bool → HeadHolders → Option Holder → Type 0
IsHolder l first last back found None = OldestIsDead l last.mark.time
IsHolder l first last back found (Some holder) =
    (n : Note) × IsDue l last.mark.time (Some n) × (holder ≡ holder_of first last back found n)

-- The round's scan found a watermark by which the oldest write set isn't dead, and of each version without a time of death it is known why it has none.
pub record HasLeft (c : Config) (w : Knowledge) (l : Noted) (made : List Step) (back : Bool) : Type 0 where
  pub mark : Watermark
  pub clock : ℕ
  pub scan : HasScanned c w.number made mark clock
  pub kept : OldestIsDead l mark.time → ⊥
  pub untimed : (i : ℕ) (n : Note) → IsNoteAt l i n → n.dead ≡ 0 → (above : Option ℕ) × StaysUntimed c w made mark clock back n above

-- after a round the log is empty, or the round has left it so
abbrev pub SweptSo : Config → Knowledge → Noted → List Step → Bool → Type 0
SweptSo c w l made back = (length l.live ≡ 0) ⊎ HasLeft c w l made back

-- unless versions are written back, each step between the two views loads GRACE, CLOCK, a mark or SUPER, raises GRACE, or frees a slot
abbrev pub HasMade : Knowledge → Knowledge → Bool → Type 0
HasMade v w back = (made : List Step) × (w.trail ≡ v.trail ++ made) × IsPlain back made
