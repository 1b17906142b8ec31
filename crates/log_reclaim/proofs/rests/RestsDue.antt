-- A tidy tries a rest only where a version is dead from a time above the clock.
use Rattle.std.proofs.Common.{◌≡◌, ℕ, ◌+◌, true, List, [], ◌++◌, refl, sym, ◌∙◌, subst, inl, inr, ⊎_elim, ap, arith, append_assoc, append-nil, All, Contains}
use Rattle.std.proofs.lemmas.Bool.{cases_lt}
use Rattle.std.proofs.lemmas.List.{append_cancel_left}
use Rattle.std.proofs.lemmas.List.Elements.{Contains-append_left}
use Rattle.mv_history.specs.Trail.{clock_exchanges}
use Rattle.mv_history.specs.declared.Step.{Step}
use Rattle.mv_layout.specs.declared.Config.{Config}
use Rattle.seat_log.specs.mv_core.declared.view.Knowledge.{Knowledge}
use Rattle.seat_log.specs.commit_clock.Hears.{FindsUpTo, Hears}
use Rattle.seat_log.specs.declared.version.Note.{Note}
use Rattle.seat_log.specs.Notes.{Noted}
use Rattle.log_reclaim.specs.declared.settling.HeadHolders.{HeadHolders}
use Rattle.log_reclaim.specs.declared.rounds.RoundScan.{RoundScan}
use Rattle.log_reclaim.specs.Parts.{Reclaims, DiesFrom, HasScan, super_load, TimesDeath}
use Rattle.log_reclaim.specs.Sweeps.{Sweeps}
use Rattle.log_reclaim.specs.Tidies.{IsAnyAbove, TriesRest, RestsSo, RestIsDue, RestsWhereDue}
use Rattle.log_reclaim.proofs.rests.Exchanges.{none_exchanged, none_in_both}
use Rattle.log_reclaim.proofs.MoreSteps.{scan_more}
use Rattle.log_reclaim.proofs.Reclaiming.{reclaims_number, reclaims_on}
use Rattle.log_reclaim.proofs.Untimed.{times_first}

module _ (c : Config) (v u x w : Knowledge) (k l m : Noted) (made rested later : List Step) (first : RoundScan) (found : HeadHolders) (freed : ℕ)
    (sweep : Sweeps c v u k l made true first found freed) (hears : Hears v u first.latest) (rest : RestsSo c u x l m rested first.latest)
    (after : Reclaims x w later)
    (none : clock_exchanges later ≡ []) where
  abbrev steps : List Step
  steps = made ++ rested ++ later

  of_first : (P : List Step → Type 0) → P (made ++ (rested ++ later)) → P steps
  of_first P p = subst P (sym (append_assoc made rested later)) p

  -- the load of SUPER that found the time is of the version as it was before
  loaded : (old n : Note) → DiesFrom old n → Contains made (super_load c u.number n n.dead) → Contains made (super_load c w.number old n.dead)
  loaded old n dies there =
      subst (λ (x : ℕ × ℕ). Contains made (super_load c x.0 (record n { position = x.1 }) n.dead))
      (λ i. (
        sym (reclaims_number u w (rested ++ later) (reclaims_on u x w rested later rest.reclaims after)) i,
        ap (λ (x : Note). x.position) dies.same i,
      )) there

  -- the steps of which it is known what their loads of CLOCK found are those of the scan and of what followed it
  heard : hears.made ≡ made
  heard = append_cancel_left v.trail hears.made made (sym hears.trail ∙ sweep.reclaims.trail)

  due : IsAnyAbove l first.latest true → TriesRest c rested → RestIsDue c w k steps
  due above tries =
      let n = above.1 in
      let r = sweep.notes above.0 n above.2 in
      let more = reclaims_on u x w rested later rest.reclaims after in
      let number : w.number ≡ v.number = reclaims_number u w (rested ++ later) more ∙ reclaims_number v u made sweep.reclaims in
      let late = above.3 in
      record {
        index = above.0 + freed;
        old = r.0;
        at = r.1;
        dead = n.dead;
        dated =
            ⊎_elim (λ timed. inl (r.2.once timed))
            (λ untimed.
            ⊎_elim inl
            (λ e. inr (
              omega arith,
              ⊎_elim (λ seen. inl (of_first (λ s. Contains s (super_load c w.number r.0 n.dead))
                  (Contains-append_left made (rested ++ later) (super_load c w.number r.0 n.dead) (loaded r.0 n r.2 seen.1))))
                  (λ b. inr (of_first (λ s. TimesDeath s n.dead) (times_first made (rested ++ later) n.dead b.2))) e,
            ))
            r.3)
            (cases_lt 0 r.0.dead);
        mark = first.mark;
        clock = first.clock;
        before = made;
        tried = rested;
        after = later;
        made_is = refl;
        tries = tries;
        scan = subst (λ (x : ℕ × List Step). HasScan c x.0 x.1 first.mark first.clock) (λ i. (sym number i, append-nil made i))
            (scan_more [] made [] c v.number first.mark first.clock sweep.scan);
        latest = first.latest;
        most = subst (λ (s : List Step). All (λ s. FindsUpTo first.latest s) s) heard hears.most;
        above = above.3;
      }

  pub tidy_due : RestsWhereDue c w k steps
  tidy_due =
      ⊎_elim (λ untried. inl (none_in_both (made ++ rested) later (none_in_both made rested (none_exchanged made sweep.leaves) untried) none))
      (λ tried. inr (due tried.0 tried.1)) rest.due
