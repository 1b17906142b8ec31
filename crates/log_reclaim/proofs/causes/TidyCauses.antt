-- The cause of each holder that a tidy answers, in its own steps.
use Rattle.std.proofs.Common.{◌≡◌, ℕ, ◌<◌, ◌≤◌, true, false, List, [], ◌++◌, length, refl, sym, ◌∙◌, subst, ⊎_elim, inl, inr}
use Rattle.std.proofs.Common.{arith, append-nil, append_assoc, Option, Some, None}
use Rattle.std.proofs.lemmas.Bool.{cases_lt}
use Rattle.std.proofs.lemmas.List.Elements.{All-nil}
use Rattle.std.proofs.lemmas.Option.{slice_get_within}
use Rattle.mv_history.specs.State.{State, Writes}
use Rattle.mv_history.specs.declared.Step.{Step}
use Rattle.mv_history.specs.declared.answers.Holder.{Holder}
use Rattle.mv_history.specs.declared.answers.Holder.TheVariants.{Fresh, End}
use Rattle.mv_layout.specs.declared.Config.{Config}
use Rattle.seat_log.specs.mv_core.declared.view.Knowledge.{Knowledge}
use Rattle.seat_log.specs.mv_core.Known.{Known}
use Rattle.seat_log.specs.declared.version.Note.{Note}
use Rattle.seat_log.specs.Notes.{Noted, IsNoteAt}
use Rattle.seat_log.specs.Stands.{Stands}
use Rattle.seat_log.specs.Frees.{IsDeadNote}
use Rattle.log_reclaim.specs.declared.settling.HeadHolders.{HeadHolders}
use Rattle.log_reclaim.specs.declared.rounds.RoundScan.{RoundScan}
use Rattle.log_reclaim.specs.Parts.{BeginsNoScan, HasScan}
use Rattle.log_reclaim.specs.Untimed.{StaysUntimed}
use Rattle.log_reclaim.specs.Sweeps.{Sweeps, found_at}
use Rattle.log_reclaim.specs.Holders.{ReadsMark, IsAfterScan, FindsLast, TidyHolds, HeldSo}
use Rattle.log_reclaim.specs.Rounds.{by_mark_of, untimed_holder, holder_of, IsHolder}
use Rattle.log_reclaim.specs.Tidies.{RestsSo, HasTried}
use Rattle.log_reclaim.proofs.causes.ScanCauses.{low_below, low_known, marked_cause, fresh_cause}
use Rattle.log_reclaim.proofs.causes.EndCause.{end_cause}
use Rattle.log_reclaim.proofs.Needed.{needs_of_note, needs_more_timed, needs_more_untimed}
use Rattle.log_reclaim.proofs.causes.HolderCases.{by_cases}
use Rattle.log_reclaim.proofs.MoreSteps.{reads_mark_more, last_found_more, scan_more, after_scan_more}
use Rattle.log_reclaim.proofs.Reclaiming.{reclaims_number, reclaims_on}
use Rattle.log_reclaim.proofs.Untimed.{untimed_on}
use Rattle.log_reclaim.proofs.rests.TidyDeaths.{untimed_first, death_others}

-- a version that isn't dead by a time is dead only from above it, or has no time of death
dead_above : (time : ℕ) (n : Note) → (IsDeadNote time n → ⊥) → 0 < n.dead → time < n.dead
dead_above time n alive some = ⊎_elim (λ lt. lt) (λ le. absurd (alive (some, le))) (cases_lt time n.dead)

module _ (starts : State → Type 0) (allows : List ℕ → State → Writes → Type 0) (c : Config) (v u x w : Knowledge) (k l m o : Noted)
    (made rested later : List Step)
    (first last : RoundScan) (found unused : HeadHolders) (freed more : ℕ)
    (sweep : Sweeps c v u k l made true first found freed) (rest : RestsSo c u x l m rested first.latest)
    (again : Sweeps c x w m o later false last unused more)
    (stands : Stands c v k) (stands_x : Stands c x m) (stands_w : Stands c w o) (known : ∥ Known starts allows v ∥₁) (known_x : ∥ Known starts allows x ∥₁)
    (known_w : ∥ Known starts allows w ∥₁) where
  abbrev steps : List Step
  steps = made ++ rested ++ later

  -- what the steps of the first round and those of the last show all of them show
  of_first : (P : List Step → Type 0) → P (made ++ (rested ++ later)) → P steps
  of_first P p = subst P (sym (append_assoc made rested later)) p

  of_last : (P : List Step → Type 0) → P (steps ++ []) → P steps
  of_last P p = subst P (append-nil steps) p

  number_first : w.number ≡ v.number
  number_first = reclaims_number x w later again.reclaims ∙ reclaims_number u x rested rest.reclaims ∙ reclaims_number v u made sweep.reclaims

  -- why the first round left a version without a time of death holds of all steps
  untried : (i : ℕ) (n : Note) → IsNoteAt o i n → n.dead ≡ 0 → StaysUntimed c w steps first.mark first.clock true n (found_at found n.position)
  untried i n at none =
      let d = untimed_first starts allows c v u k l made first found freed sweep stands known x m rested rest w o later last unused more again i n at none in
      let low = low_below c v.number made first.mark first.clock sweep.scan in
      let before = sweep.before in
      of_first (λ s. StaysUntimed c w s first.mark first.clock true n (found_at found n.position))
      (untimed_on c u w made (rested ++ later) (reclaims_on u x w rested later rest.reclaims again.reclaims) first.mark first.clock n true
      (found_at found n.position) (omega arith) d)

  -- so the write-backs of the first round were tried
  pub tidy_tried : HasTried c w o steps
  tidy_tried = record {
    mark = first.mark;
    clock = first.clock;
    scan = of_first (λ s. HasScan c w.number s first.mark first.clock)
        (subst (λ (own : ℕ). HasScan c own (made ++ (rested ++ later)) first.mark first.clock) (sym number_first)
        (scan_more [] made (rested ++ later) c v.number first.mark first.clock sweep.scan));
    untimed = λ i n at none. (found_at found n.position, untried i n at none);
  }

  module _ (i : ℕ) (n : Note) (at : IsNoteAt o i n) (oldest : n.first ≡ o.freed) (alive : IsDeadNote last.mark.time n → ⊥) where
    ends : 35184372088831 < n.dead → TidyHolds c w o steps End
    ends late = (
      of_last FindsLast
          (last_found_more (made ++ rested) later []
          (end_cause starts allows c x w m o later false last unused more again stands_x known_x known_w i n at late)),
      needs_more_timed c w o i n stands_w at starts allows known_w oldest 35184372088831 late,
    )

    fresh : last.clock < n.dead → n.dead ≤ 35184372088831 → TidyHolds c w o steps (Fresh n.dead)
    fresh late in_time = (
      of_last (λ s. IsAfterScan c s n.dead)
          (after_scan_more (made ++ rested) later [] c n.dead (All-nil (λ (s : Step). BeginsNoScan s.kind))
          (fresh_cause c x.number later last.mark last.clock again.scan n.dead late)),
      death_others starts allows c v u k l made first found freed sweep stands known x m rested rest w o later last unused more again known_x known_w i
          n at late in_time,
      needs_of_note c w o i n stands_w at starts allows known_w oldest (omega arith),
    )

    marked : 0 < n.dead → n.dead ≤ last.clock → TidyHolds c w o steps (by_mark_of last.mark)
    marked some before =
        let above = dead_above last.mark.time n alive some in
        let low = low_known c x.number later last.mark last.clock again.scan in (
          of_last (λ s. ReadsMark c w.number s last.mark.seat last.mark.low)
              (subst (λ (own : ℕ). ReadsMark c own (steps ++ []) last.mark.seat last.mark.low) (sym (reclaims_number x w later again.reclaims))
              (reads_mark_more (made ++ rested) later [] c x.number last.mark.seat last.mark.low
              (marked_cause c x.number later last.mark last.clock again.scan (omega arith)))),
          needs_more_timed c w o i n stands_w at starts allows known_w oldest last.mark.low (omega arith),
        )

    untimed_as : (above : Option ℕ) → n.dead ≡ 0 → StaysUntimed c w steps first.mark first.clock true n above
        → TidyHolds c w o steps (untimed_holder first n above)
    untimed_as None none d =
        let t = d.tried refl in
        let low = low_known c v.number made first.mark first.clock sweep.scan in (
          of_first (λ s. ReadsMark c w.number s first.mark.seat first.mark.low)
              (subst (λ (own : ℕ). ReadsMark c own (made ++ (rested ++ later)) first.mark.seat first.mark.low) (sym number_first)
              (reads_mark_more [] made (rested ++ later) c v.number first.mark.seat first.mark.low
              (marked_cause c v.number made first.mark first.clock sweep.scan t.0))),
          needs_more_untimed c w o i n stands_w at starts allows known_w oldest first.mark.low none d.committed d.unwritten
              (⊎_elim (λ young. inl (omega arith)) inr t.1),
        )
    untimed_as (Some seat) none d = record {
      index = i;
      note = n;
      at = at;
      oldest = oldest;
      committed = d.committed;
      untimed = none;
      object_is = refl;
      finds = d.tried refl;
    }

    caused : TidyHolds c w o steps (holder_of first last true found n)
    caused =
        by_cases (TidyHolds c w o steps) first last true found n ends fresh marked
        (λ none back. untimed_as (found_at found n.position) none (untried i n at none))
        (λ none back. absurd cc)

  pub tidy_holds : (held : Option Holder) → IsHolder o first last true found held → HeldSo (TidyHolds c w o steps) o held
  tidy_holds None dead = ⊎_elim (λ some. absurd (again.kept some dead)) (λ le. omega arith) (cases_lt 0 (length o.live))
  tidy_holds (Some holder) h =
      let n = h.0 in
      let due = h.1 in
      let within = slice_get_within o.live due.0 n due.1 in (
        omega arith,
        subst (TidyHolds c w o steps) (sym h.2) (caused due.0 n due.1 due.2 due.3),
      )
