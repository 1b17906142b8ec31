-- What a try to write a version back comes to, by what its parts leave.
use Rattle.std.proofs.Common.{◌≡◌, ◌≢◌, ℕ, ◌+◌, ◌-◌, ◌<◌, ◌≤◌, max, true, List, [], ◌∷◌, ◌++◌, length, refl}
use Rattle.std.proofs.Common.{sym, ap, ◌∙◌, subst, inl, inr, arith, append_assoc, Some, None, Contains}
use Rattle.std.proofs.Math.Logic.{∥∥₁_elim}
use Rattle.std.proofs.Math.Bridge.{le_prop}
use Rattle.std.proofs.lemmas.List.Elements.{All-append, Contains-append_right}
use Rattle.mv_history.specs.State.{State, Writes}
use Rattle.mv_history.specs.declared.Step.{Step}
use Rattle.mv_layout.specs.declared.Config.{Config}
use Rattle.seat_log.specs.mv_core.declared.ring.Ring.{Ring}
use Rattle.seat_log.specs.mv_core.declared.view.Knowledge.{Knowledge}
use Rattle.seat_log.specs.mv_core.declared.view.Phase.TheVariants.{Outside}
use Rattle.seat_log.specs.mv_core.declared.view.WalkStage.TheVariants.{Nowhere}
use Rattle.seat_log.specs.mv_core.Chains.{IsLater}
use Rattle.seat_log.specs.mv_core.EnterSteps.{MayLoadLow}
use Rattle.seat_log.specs.mv_core.Rings.{slot_at, index_of}
use Rattle.seat_log.specs.mv_core.ReclaimSteps.{FoundEmpty}
use Rattle.seat_log.specs.mv_core.Known.{Known}
use Rattle.seat_log.proofs.mv_core_lemmas.history.Fronts.{begins_by, begins_long}
use Rattle.seat_log.specs.reader_marks.declared.scanning.Watermark.{Watermark}
use Rattle.seat_log.specs.declared.version.Note.{Note}
use Rattle.seat_log.specs.Notes.{Noted, retired, back_noted}
use Rattle.seat_log.specs.Stands.{version_of, Stands}
use Rattle.seat_log.proofs.Retired.{committed_at}
use Rattle.log_reclaim.specs.declared.writing_back.StartedWriteBack.{StartedWriteBack}
use Rattle.log_reclaim.specs.declared.writing_back.BackEnd.{BackEnd}
use Rattle.log_reclaim.specs.declared.writing_back.BackEnd.TheVariants.{Cut, Above}
use Rattle.log_reclaim.specs.Parts.{super_load, FindsTop, FindsNewer}
use Rattle.log_reclaim.specs.Backs.{HasLooked, LeavesAt, NamesSeat}
use Rattle.log_reclaim.specs.Tries.{IsUntimed, Makes, LoadsSuper, StoresAll, TriesOne}
use Rattle.log_reclaim.proofs.Reclaiming.{makes_none, makes_on, reclaims_number, reclaims_base, reclaims_may}
use Rattle.log_reclaim.proofs.Idle.{still_of}
use Rattle.log_reclaim.proofs.Untimed.{times_then}
use Rattle.log_reclaim.proofs.looks.Visits.{IsPlain, section_makes, looked_steps, looked_trail, looked_plain, looked_seen, looked_rest}
use Rattle.log_reclaim.proofs.looks.Visits.{head_step, left_steps, left_makes, left_top, left_has_step, left_empty}

module _ (starts : State → Type 0) (allows : List ℕ → State → Writes → Type 0) (c : Config) (v : Knowledge) (l : Noted) (n : Note) (mark : Watermark)
    (known : ∥ Known starts allows v ∥₁) (may : MayLoadLow v) (base : v.base ≡ c.base) where
  -- the version is too young for the watermark
  pub tries_young : mark.time < n.time → TriesOne c v v l l n mark (record { above = None; clock = 0 })
  tries_young young = record {
    made = [];
    makes = makes_none v may (still_of starts allows v known may.outside);
    within = omega arith;
    fate = inr (refl, inl (refl, inl young));
  }

  -- the time of the version was seen
  pub was_seen : (position : ℕ) → Stands c v l → IsUntimed l position n → n.time ≤ v.base + length v.past.seen
  was_seen position k u =
      let a = committed_at c v l (position - l.freed) n k u.at u.committed in
      let time = a.2 in
      ∥∥₁_elim known le_prop (λ f. let seen = (f.commits _ _ a.0 a.1).seen in omega arith)

  -- the version found in HEAD by a step before which the log was as at the begin is newer
  finds_newer : (position : ℕ) → Stands c v l → IsUntimed l position n → (w : Knowledge) (seat : ℕ) (s : Step) → (top : FindsTop c w n.object seat s)
      → top.view.ring ≡ v.ring → FindsNewer c w n seat s
  finds_newer position k u w seat s top ring =
      let a = committed_at c v l (position - l.freed) n k u.at u.committed in record {
        top = top;
        newer = subst (λ t. IsLater t top.names.status) a.2
            (top.names.newer (index_of c n.position) (version_of n) a.0 (ap (λ (r : Ring). slot_at r (index_of c n.position)) ring ∙ a.1) refl);
      }

  -- HEAD had another link than the version's, and the section was left
  module _ (u : Knowledge) (link : ℕ) (left : LeavesAt c v u n link) (first : ℕ) (last : first ≡ c.base + length u.past.seen) where
    abbrev steps : List Step
    steps = left_steps c v left.inside n.object link left.looked u left.left

    makes : Makes v u steps
    makes = left_makes c v left.inside n.object link left.looked u left.left may

    within : first ≤ u.base + length u.past.seen
    within = let same = reclaims_base v u steps makes.reclaims in omega arith

    pub gone_may : MayLoadLow u
    gone_may = reclaims_may v u steps makes.reclaims

    pub gone_number : u.number ≡ v.number
    gone_number = reclaims_number v u steps makes.reclaims

    pub gone_empty : (position : ℕ) → Stands c v l → IsUntimed l position n → link ≡ 0 → FoundEmpty u n.object n.time
    gone_empty position k untimed none = left_empty c v left.inside n.object link left.looked u left.left none base n.time (was_seen position k untimed)

    -- it was 0: SUPER was loaded once more, and then a time is found
    pub tries_gone : (w : Knowledge) (m : Noted) → LoadsSuper c u w l m n true → TriesOne c v w l m n mark (record { above = None; clock = first })
    tries_gone w m loads =
        let found = loads.some refl in record {
          made = steps ++ super_load c u.number n loads.time ∷ [];
          makes = makes_on v u w steps (super_load c u.number n loads.time ∷ []) makes loads.makes;
          within = (let fits = within in let more = begins_long w.past.seen u.past.seen loads.makes.reclaims.seen in
              let same = reclaims_base u w (super_load c u.number n loads.time ∷ []) loads.makes.reclaims in omega arith);
          fate = inl (
            loads.time,
            found.0,
            refl,
            inl (
              found.1,
              found.2,
              subst (λ (own : ℕ). Contains (steps ++ super_load c u.number n loads.time ∷ []) (super_load c own n loads.time)) gone_number
                  (Contains-append_right steps (super_load c u.number n loads.time ∷ []) (super_load c u.number n loads.time) (0, omega arith, refl)),
            ),
          );
        }

    -- it was that of a later version of the own log
    pub tries_own : (seat : ℕ) → NamesSeat c v l n seat link → seat ≡ v.number → TriesOne c v u l l n mark (record { above = None; clock = first })
    tries_own seat names own = record {
      made = steps;
      makes = makes;
      within = within;
      fate = inr (refl, inl (refl, inr (names.own own)));
    }

    -- or that of another seat's version
    pub tries_above : (position : ℕ) → Stands c v l → IsUntimed l position n → (seat : ℕ) → NamesSeat c v l n seat link → seat ≢ v.number
        → TriesOne c v u l l n mark (record { above = Some seat; clock = first })
    tries_above position k untimed seat names other =
        let top = left_top c v left.inside n.object link left.looked u left.left seat names.some names.seat_is (λ own. other (sym names.seat_is ∙ own)) in
        record {
          made = steps;
          makes = makes;
          within = within;
          fate = inr (
            refl,
            inr (
              seat,
              refl,
              record {
                not_own = λ e. other (e ∙ gone_number);
                in_range = names.in_range;
                step = head_step c v left.inside n.object link left.looked;
                there = left_has_step c v left.inside n.object link left.looked u left.left;
                finds = finds_newer position k untimed u seat (head_step c v left.inside n.object link left.looked) top.0 top.1;
              },
            ),
          );
        }

  -- HEAD named the version, and all words were stored
  module _ (u w : Knowledge) (m : Noted) (link : ℕ) (back : StartedWriteBack) (end : BackEnd) (time first : ℕ) (looked : HasLooked c v u n.object link)
      (s : StoresAll c u w l m back end time) (last : first ≡ c.base + length u.past.seen) where
    abbrev all_steps : List Step
    all_steps = looked_steps c v u n.object link looked ++ s.made

    all_makes : Makes v w all_steps
    all_makes =
        let before = looked_rest c v u n.object link looked in
        section_makes v w all_steps may s.outside (begins_by w.past.seen u.past.seen v.past.seen s.seen (looked_seen c v u n.object link looked))
        (s.trail ∙ ap (λ (l : List Step). l ++ s.made) (looked_trail c v u n.object link looked)
        ∙ append_assoc v.trail (looked_steps c v u n.object link looked) s.made)
        (All-append IsPlain (looked_steps c v u n.object link looked) s.made (looked_plain c v u n.object link looked) s.kinds)
        (s.rest ∙ ap
        (λ (x : Knowledge). record x {
          past = record x.past { seen = w.past.seen };
          phase = Outside;
          clocks = w.clocks;
          walk = Nowhere;
          ring = w.ring;
          back = None;
          trail = w.trail;
        }) before
        ∙ (let empty : u.empty ≡ w.empty = sym (ap (λ (x : Knowledge). x.empty) s.rest) in
        λ i. record v {
          past = record v.past { seen = w.past.seen };
          phase = Outside;
          clocks = w.clocks;
          walk = Nowhere;
          empty = empty i;
          ring = w.ring;
          back = None;
          trail = w.trail;
        }))

    all_within : max first time ≤ w.base + length w.past.seen
    all_within =
        let same = reclaims_base v w all_steps all_makes.reclaims in
        let more = begins_long w.past.seen u.past.seen s.seen in
        let end_within = s.within in
        omega arith

    -- the chain was cut
    pub tries_cut : end ≡ Cut → back.position ≡ n.position → TriesOne c v w l m n mark (record { above = None; clock = max first time })
    tries_cut is at =
        let cut = s.cut is in record {
          made = all_steps;
          makes = all_makes;
          within = all_within;
          fate = inl (
            time + 1,
            (omega arith),
            refl,
            inr (
              cut.0 ∙ ap (λ p. back_noted (retired l p (time + 1))) at,
              (omega arith),
              times_then (looked_steps c v u n.object link looked) s.made (time + 1) cut.1,
            ),
          );
        }

    -- or another seat's version was found then
    pub tries_lost : (position : ℕ) → Stands c v l → IsUntimed l position n → (seat : ℕ) → end ≡ Above seat → back.object ≡ n.object
        → TriesOne c v w l m n mark (record { above = Some seat; clock = max first time })
    tries_lost position k untimed seat is object =
        let lost = s.above seat is in
        let found = lost.3 in
        let top : (t : FindsTop c w n.object seat found.0) × (t.view.ring ≡ u.ring) =
        subst (λ (o : ℕ). (t : FindsTop c w o seat found.0) × (t.view.ring ≡ u.ring)) object (found.2, found.3) in
        let before = looked_rest c v u n.object link looked in record {
          made = all_steps;
          makes = all_makes;
          within = all_within;
          fate = inr (
            lost.0,
            inr (
              seat,
              refl,
              record {
                not_own = λ e. lost.1 (e ∙ ap (λ (x : Knowledge). x.number) s.rest);
                in_range = lost.2;
                step = found.0;
                there = Contains-append_right (looked_steps c v u n.object link looked) s.made found.0 found.1;
                finds = finds_newer position k untimed w seat found.0 top.0 (top.1 ∙ ap (λ (x : Knowledge). x.ring) before);
              },
            ),
          );
        }
