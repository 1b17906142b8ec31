-- Own versions without a time of death, and why they have none.
use Rattle.std.specs.Prelude.{◌≡◌, ◌⊎◌, ℕ, ◌+◌, ◌<◌, ◌≤◌, Bool, true, List, length, Contains, Option, Some, None}
use Rattle.mv_history.specs.declared.Step.{Step}
use Rattle.mv_layout.specs.declared.Config.{Config}
use Rattle.seat_log.specs.mv_core.declared.view.Knowledge.{Knowledge}
use Rattle.seat_log.specs.mv_core.Times.{latest, latest_at}
use Rattle.seat_log.specs.reader_marks.declared.scanning.Watermark.{Watermark}
use Rattle.seat_log.specs.declared.version.Note.{Note}
use Rattle.log_reclaim.specs.Parts.{super_load, super_step, FindsAbove, TimesDeath}

-- Why a write-back left a version without a time of death, by which seat's version it found in HEAD, if another's. Where none was
-- found, the scan's own low time is below the clock's, and the version is later than the watermark or its object has a later write.
abbrev pub TriedSo : Config → Knowledge → List Step → Watermark → ℕ → Note → Option ℕ → Type 0
TriedSo c w made mark clock n None = (mark.low < clock) × ((mark.time < n.time) ⊎ (n.time < latest w.base w.past.seen n.object))
TriedSo c w made mark clock n (Some seat) = FindsAbove c w made n seat

-- A committed version has no time of death after a round with this watermark: one of the round's steps found SUPER 0 in it, no
-- write of its object after its own and up to the low time was seen, and where the round writes back it tried so.
pub record StaysUntimed (c : Config) (w : Knowledge) (made : List Step) (mark : Watermark) (clock : ℕ) (back : Bool) (n : Note)
    (above : Option ℕ) : Type 0 where
  pub committed : 0 < n.time
  pub super : Contains made (super_step c w.number n)
  pub unwritten : latest_at w.base w.past.seen n.object mark.low ≤ n.time
  pub tried : back ≡ true → TriedSo c w made mark clock n above

-- Where a time of death comes from that a note has after these steps: it was noted before; or a load of SUPER of that version among
-- these steps found it, and it was seen; or a load of CLOCK among these steps, that of a write-back, found the time before it, which
-- is at most `most`.
abbrev pub DatedSo : Config → Knowledge → List Step → ℕ → Bool → Note → Note → Type 0
DatedSo c w made most back old n =
    (n.dead ≡ old.dead)
    ⊎ (((n.dead ≤ w.base + length w.past.seen) × Contains made (super_load c w.number n n.dead))
    ⊎ ((back ≡ true) × (n.dead ≤ most + 1) × TimesDeath made n.dead))
