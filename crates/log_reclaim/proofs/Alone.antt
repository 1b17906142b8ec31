-- In a domain of one seat a tidy leaves the log empty, where the last time wasn't reached before.
use Rattle.std.proofs.Common.{◌≡◌, ℕ, ◌+◌, ◌<◌, ◌≤◌, true, false, List, length, refl, sym, ap, ◌∙◌, subst, ⊎_elim, arith, Option, Some, None}
use Rattle.std.proofs.lemmas.Bool.{cases_lt}
use Rattle.mv_history.specs.State.{State, Writes}
use Rattle.mv_history.specs.declared.Step.{Step}
use Rattle.mv_layout.specs.declared.Config.{Config}
use Rattle.seat_log.specs.mv_core.declared.view.Knowledge.{Knowledge}
use Rattle.seat_log.specs.mv_core.Known.{Known}
use Rattle.seat_log.proofs.mv_core_lemmas.history.OwnEntries.{own_seen}
use Rattle.seat_log.specs.reader_marks.declared.scanning.Watermark.{Watermark}
use Rattle.seat_log.specs.declared.version.Note.{Note}
use Rattle.seat_log.specs.Notes.{Noted, IsNoteAt}
use Rattle.seat_log.specs.Stands.{Stands}
use Rattle.log_reclaim.specs.declared.settling.HeadHolders.{HeadHolders}
use Rattle.log_reclaim.specs.declared.rounds.RoundScan.{RoundScan}
use Rattle.log_reclaim.specs.Parts.{HasScanned}
use Rattle.log_reclaim.specs.Untimed.{TriedSo}
use Rattle.log_reclaim.specs.Sweeps.{Sweeps, found_at}
use Rattle.log_reclaim.specs.Tidies.{RestsSo}
use Rattle.log_reclaim.proofs.causes.ScanCauses.{low_known, marked_cause}
use Rattle.log_reclaim.proofs.Reclaiming.{reclaims_number, reclaims_base}
use Rattle.log_reclaim.proofs.rests.TidyDeaths.{at_before, death_next}

module _ (c : Config) (one : c.seats ≡ 1) where
  -- a scan finds no mark, and so the clock's time
  low_is_clock : (own : ℕ) → own < c.seats → (made : List Step) (mark : Watermark) (clock : ℕ) → HasScanned c own made mark clock → clock ≤ mark.low
  low_is_clock own mine made mark clock k =
      ⊎_elim
      (λ lt.
      let r = marked_cause c own made mark clock k lt in
      let other = r.not_own in let in_range = r.in_range in absurd (other (let e : mark.seat ≡ own = omega arith in e)))
      (λ le. le)
      (cases_lt mark.low clock)

  -- no write-back is left untried, nor finds another seat's version
  none_left : (w : Knowledge) → w.number < c.seats → (made : List Step) (mark : Watermark) (clock : ℕ) (n : Note) → clock ≤ mark.low → (above : Option ℕ)
      → TriedSo c w made mark clock n above → ⊥
  none_left w mine made mark clock n low None t = let lt = t.0 in omega arith
  none_left w mine made mark clock n low (Some seat) a = let in_range = a.in_range in a.not_own (let e : seat ≡ w.number = omega arith in e)

  module _ (starts : State → Type 0) (allows : List ℕ → State → Writes → Type 0) (v u x w : Knowledge) (k l m o : Noted) (made rested later : List Step)
      (first last : RoundScan) (found unused : HeadHolders) (freed more : ℕ)
      (sweep : Sweeps c v u k l made true first found freed) (rest : RestsSo c u x l m rested first.latest)
      (again : Sweeps c x w m o later false last unused more)
      (stands : Stands c v k) (known : ∥ Known starts allows v ∥₁) (mine : v.number < c.seats) (early : v.base + length v.past.seen < 35184372088831) where
    number_u : u.number ≡ v.number
    number_u = reclaims_number v u made sweep.reclaims

    number_x : x.number ≡ v.number
    number_x = reclaims_number u x rested rest.reclaims ∙ number_u

    -- after the first round each version has a time of death
    all_timed : (i : ℕ) (n : Note) → IsNoteAt l i n → 0 < n.dead
    all_timed i n at =
        ⊎_elim (λ lt. lt)
        (λ le.
        let d = sweep.untimed i n at (omega arith) in
        let low = low_is_clock v.number mine made first.mark first.clock sweep.scan in
        absurd (none_left u (subst (λ s. s < c.seats) (sym number_u) mine) made first.mark first.clock n low (found_at found n.position) (d.tried refl)))
        (cases_lt 0 n.dead)

    -- the clock that the last scan found is that of the call's begin, and of the rest
    clock_last : last.clock ≡ v.base + (length v.past.mine + x.past.rests)
    clock_last =
        let base = reclaims_base u x rested rest.reclaims ∙ reclaims_base v u made sweep.reclaims in
        let same = ap length (rest.reclaims.mine ∙ sweep.reclaims.mine) in
        let at = again.alone one in
        omega arith

    -- which none of them is above
    all_past : (i : ℕ) (n : Note) → IsNoteAt m i n → n.dead ≤ last.clock
    all_past i n at =
        let after = again.after in
        ⊎_elim
        (λ seen. omega arith)
        (λ end.
        let all = end.0 in
        let none = end.1 in
        let rests = sweep.rests in
        let few = own_seen starts allows v known in
        let is = clock_last in
        absurd (omega arith))
        (death_next starts allows c v u k l made first found freed sweep stands known x m rested rest i n at)

    all_dead : (i : ℕ) (n : Note) → IsNoteAt o i n → (0 < n.dead) × (n.dead ≤ last.mark.time)
    all_dead i n at =
        let r = again.notes i n at in
        let some = all_timed (i + more) r.0 (at_before starts allows c v u k l made first found freed sweep stands known x m rested rest (i + more) r.0 r.1) in
        let same = r.2.once some in
        let past = all_past (i + more) r.0 r.1 in
        let low = low_is_clock x.number (subst (λ s. s < c.seats) (sym number_x) mine) later last.mark last.clock again.scan in
        let high = low_known c x.number later last.mark last.clock again.scan in
        (omega arith, omega arith)

    pub none_alive : length o.live ≡ 0
    none_alive = ⊎_elim (λ some. absurd (again.kept some (λ i n at oldest. all_dead i n at))) (λ le. omega arith) (cases_lt 0 (length o.live))
