-- Looking at one version of the log: what the parts need, and what each of them leaves.
use Rattle.std.specs.Prelude.{◌≡◌, ◌≢◌, ◌⊎◌, ℕ, ◌+◌, ◌-◌, ◌<◌, ◌≤◌, Bool, true, false, List, [], ◌∷◌}
use Rattle.std.specs.Prelude.{◌++◌, length, All, Contains, Some, None}
use Rattle.mv_history.specs.declared.Step.{Step}
use Rattle.mv_layout.specs.declared.Config.{Config}
use Rattle.seat_log.specs.mv_core.declared.view.Knowledge.{Knowledge}
use Rattle.seat_log.specs.mv_core.EnterSteps.{MayLoadLow}
use Rattle.seat_log.specs.mv_core.declared.view.Phase.TheVariants.{Outside}
use Rattle.seat_log.specs.mv_core.declared.view.WalkStage.TheVariants.{Nowhere}
use Rattle.seat_log.specs.mv_core.HistoryFacts.{BeginsWith}
use Rattle.seat_log.specs.mv_core.Times.{latest_at}
use Rattle.seat_log.specs.reader_marks.declared.scanning.Watermark.{Watermark}
use Rattle.seat_log.specs.reader_marks.Scans.{IsKnown}
use Rattle.seat_log.specs.declared.version.Note.{Note}
use Rattle.seat_log.specs.Notes.{Noted, IsNoteAt, retired, back_noted}
use Rattle.log_reclaim.specs.declared.settling.WriteBackSeen.{WriteBackSeen}
use Rattle.log_reclaim.specs.declared.writing_back.StartedWriteBack.{StartedWriteBack}
use Rattle.log_reclaim.specs.declared.writing_back.BackEnd.{BackEnd}
use Rattle.log_reclaim.specs.declared.writing_back.BackEnd.TheVariants.{Cut, Above}
use Rattle.log_reclaim.specs.Backs.{HasLater}
use Rattle.log_reclaim.specs.Parts.{IsReclaimKind, IsOtherKind, Reclaims, super_load, FindsTop, FindsOther, TimesDeath}

-- The pass is outside a section, with no scan running, and knows the watermark of a scan that found this time in CLOCK; all of
-- that history was seen, and no commit of the log is later.
pub record MaySettle (v : Knowledge) (l : Noted) (mark : Watermark) (clock : ℕ) : Type 0 where
  pub outside : MayLoadLow v
  pub known : IsKnown v mark
  pub low : mark.low ≤ mark.time
  pub below : mark.low ≤ clock
  pub seen : clock ≤ v.base + length v.past.seen
  pub early : (i : ℕ) (n : Note) → IsNoteAt l i n → n.time ≤ clock

-- the log has this note, of a committed version without a time of death, at the position
pub record IsUntimed (l : Noted) (position : ℕ) (n : Note) : Type 0 where
  pub from : l.freed ≤ position
  pub at : IsNoteAt l (position - l.freed) n
  pub committed : 0 < n.time
  pub untimed : n.dead ≡ 0

-- these steps were made, none of which begins a scan or is an exchange on CLOCK, and no rest was made
pub record Makes (v w : Knowledge) (made : List Step) : Type 0 where
  pub reclaims : Reclaims v w made
  pub rests : w.past.rests ≡ v.past.rests
  pub kinds : All (λ s. IsOtherKind s.kind) made

-- SUPER was loaded: a time found is noted as the time of death, and was seen; where 0 was found, nothing was noted, and no write
-- of the object after the version's and up to the pass's watermark was seen
pub record LoadsSuper (c : Config) (v w : Knowledge) (l m : Noted) (n : Note) (found : Bool) : Type 0 where
  pub time : ℕ
  pub makes : Makes v w (super_load c v.number n time ∷ [])
  pub grace : w.grace ≡ v.grace
  pub none : found ≡ false → (time ≡ 0) × (m ≡ l) × (latest_at w.base w.past.seen n.object v.grace ≤ n.time)
  pub some : found ≡ true → (0 < time) × (m ≡ retired l n.position time) × (time ≤ w.base + length w.past.seen)

-- A write-back that was begun stored all words and ended: the version was cut and is noted as dead after the time found in CLOCK,
-- or HEAD was found to name a newer version, another seat's, by a step before which the log was as at the begin, and nothing was noted.
pub record StoresAll (c : Config) (v w : Knowledge) (l m : Noted) (back : StartedWriteBack) (end : BackEnd) (time : ℕ) : Type 0 where
  pub made : List Step
  pub outside : w.phase ≡ Outside
  pub seen : BeginsWith w.past.seen v.past.seen
  pub trail : w.trail ≡ v.trail ++ made
  pub kinds : All (λ s. IsReclaimKind s.kind × IsOtherKind s.kind) made
  pub rest : w ≡ record v {
    past = record v.past { seen = w.past.seen };
    phase = Outside;
    clocks = w.clocks;
    walk = Nowhere;
    ring = w.ring;
    back = None;
    trail = w.trail;
  }
  pub within : time ≤ w.base + length w.past.seen
  pub cut : end ≡ Cut → (m ≡ back_noted (retired l back.position (time + 1))) × TimesDeath made (time + 1)
  pub above : (seat : ℕ) → end ≡ Above seat → (m ≡ l) × (seat ≢ v.number) × (seat < c.seats)
      × ((s : Step) × Contains made s × (top : FindsTop c w back.object seat s) × (top.view.ring ≡ v.ring))

-- A write-back was tried of the version of a note in which SUPER was found 0. Either it is noted from when on it is dead: from a
-- time that a second load of SUPER found, or after the time that the write-back found in CLOCK; or it is as before: it is too young for the
-- watermark, or the log has a later commit of its object, or another seat's version was found in HEAD.
pub record TriesOne (c : Config) (v w : Knowledge) (l m : Noted) (n : Note) (mark : Watermark) (tried : WriteBackSeen) : Type 0 where
  pub made : List Step
  pub makes : Makes v w made
  pub within : tried.clock ≤ w.base + length w.past.seen
  pub fate :
      ((dead : ℕ) × (0 < dead) × (tried.above ≡ None)
      × (((m ≡ retired l n.position dead) × (dead ≤ w.base + length w.past.seen) × Contains made (super_load c v.number n dead))
      ⊎ ((m ≡ back_noted (retired l n.position dead)) × (dead ≤ tried.clock + 1) × TimesDeath made dead)))
      ⊎ ((m ≡ l)
      × (((tried.above ≡ None) × ((mark.time < n.time) ⊎ HasLater l n))
      ⊎ ((seat : ℕ) × (tried.above ≡ Some seat) × FindsOther c w made n seat)))
