-- A section that reclaiming enters and leaves: its steps, what they leave of the view and of the log, and what was found in HEAD.
use Rattle.std.proofs.Common.{◌≡◌, ◌≢◌, ℕ, ◌+◌, ◌≤◌, List, [], ◌∷◌, ◌++◌, length, take, drop, refl, sym, ap}
use Rattle.std.proofs.Common.{◌∙◌, subst, arith, append_assoc, length-append, length-take, Some, None, Contains}
use Rattle.std.proofs.lemmas.List.{take-append-drop}
use Rattle.std.proofs.lemmas.List.Elements.{All-nil, All-cons, All-append, All-weaker, Contains-push, Contains-append_left}
use Rattle.std.specs.Prelude.{All}
use Rattle.mv_history.specs.declared.Step.{Step}
use Rattle.mv_history.specs.declared.StepKind.TheVariants.{LoadHead, ClearMark}
use Rattle.mv_layout.specs.declared.Config.{Config}
use Rattle.mv_layout.specs.declared.SharedWord.TheVariants.{Mark, Head}
use Rattle.mv_layout.specs.Places.{place_of}
use Rattle.mv_layout.specs.Words.{link_seat_of}
use Rattle.seat_log.specs.mv_core.declared.view.Knowledge.{Knowledge}
use Rattle.seat_log.specs.mv_core.declared.view.EmptyHead.{EmptyHead}
use Rattle.seat_log.specs.mv_core.declared.view.Phase.TheVariants.{Outside}
use Rattle.seat_log.specs.mv_core.declared.view.WalkStage.TheVariants.{Nowhere}
use Rattle.seat_log.specs.mv_core.HistoryFacts.{BeginsWith}
use Rattle.seat_log.specs.mv_core.EnterSteps.{MayLoadLow, mark_cleared}
use Rattle.seat_log.specs.mv_core.ReclaimSteps.{FoundEmpty}
use Rattle.seat_log.specs.mv_core.WalkSteps.{empty_too, head_loaded}
use Rattle.seat_log.specs.mv_core.Views.{time_in, no_clocks}
use Rattle.seat_log.proofs.mv_core_lemmas.history.Fronts.{begins_by}
use Rattle.seat_log.specs.reader_marks.Sections.{IsEnterStep}
use Rattle.seat_log.proofs.reader_marks_lemmas.EnterKinds.{enter_kind}
use Rattle.seat_log.specs.Notes.{Noted}
use Rattle.seat_log.specs.Stands.{is_free, is_won_cut, Stands}
use Rattle.seat_log.proofs.BuildsOn.{unpassed}
use Rattle.seat_log.proofs.StepCounts.{keeps_one}
use Rattle.seat_log.proofs.Stays.{stands_same}
use Rattle.seat_log.proofs.PlainSteps.{stands_entered, stands_unmarked}
use Rattle.log_reclaim.specs.Parts.{IsReclaimKind, IsOtherKind, FindsTop}
use Rattle.log_reclaim.specs.Backs.{HasLooked}
use Rattle.log_reclaim.specs.Tries.{Makes}

-- a step that names no commit, is no other exchange on CLOCK, and begins no scan
abbrev pub IsPlain : Step → Type 0
IsPlain s = IsReclaimKind s.kind × IsOtherKind s.kind

-- plain steps that end outside a section are a part of a reclaiming call
pub section_makes : (v w : Knowledge) (made : List Step) → MayLoadLow v → w.phase ≡ Outside → BeginsWith w.past.seen v.past.seen
    → w.trail ≡ v.trail ++ made → All IsPlain made
    → w ≡ record v {
      past = record v.past { seen = w.past.seen };
      phase = Outside;
      clocks = w.clocks;
      walk = Nowhere;
      empty = w.empty;
      ring = w.ring;
      back = None;
      trail = w.trail;
    } → Makes v w made
section_makes v w made may outside seen trail kinds rest =
    let past : record v.past { seen = w.past.seen } ≡ w.past = sym (ap (λ (x : Knowledge). x.past) rest) in
    let grace : v.grace ≡ w.grace = sym (ap (λ (x : Knowledge). x.grace) rest) in record {
      reclaims = record {
        outside = outside;
        no_scan = ap (λ (x : Knowledge). x.scan) rest ∙ may.no_scan;
        seen = seen;
        mine = ap (λ (x : Knowledge). x.past.mine) rest;
        grace = omega arith;
        trail = trail;
        kinds = All-weaker IsPlain (λ s. IsReclaimKind s.kind) (λ s p. p.0) made kinds;
        rest = rest
            ∙ (λ i. record v {
              past = past i;
              phase = Outside;
              clocks = w.clocks;
              walk = Nowhere;
              empty = w.empty;
              ring = w.ring;
              back = None;
              scan = may.no_scan i;
              grace = grace i;
              trail = w.trail;
            });
      };
      rests = ap (λ (x : Knowledge). x.past.rests) rest;
      kinds = All-weaker IsPlain (λ s. IsOtherKind s.kind) (λ s p. p.1) made kinds;
    }

module _ (c : Config) (v w : Knowledge) (object link : ℕ) (h : HasLooked c v w object link) where
  abbrev e : Knowledge
  e = h.entered

  -- the load of HEAD
  abbrev pub head_step : Step
  head_step = record { kind = LoadHead; word = place_of c (Head object); found = Some link; stored = None }

  -- the steps until HEAD was loaded
  abbrev pub looked_steps : List Step
  looked_steps = h.begins.entered.steps ++ head_step ∷ []

  abbrev x : Knowledge
  x = head_loaded c h.entered h.begins.inside object link

  pub looked_trail : w.trail ≡ v.trail ++ looked_steps
  looked_trail =
      ap (λ (y : Knowledge). y.trail) h.looked ∙ ap (λ (l : List Step). l ++ head_step ∷ []) h.begins.entered.trail
      ∙ append_assoc v.trail h.begins.entered.steps (head_step ∷ [])

  pub looked_plain : All IsPlain looked_steps
  looked_plain =
      All-append IsPlain h.begins.entered.steps (head_step ∷ [])
      (All-weaker (λ (s : Step). IsEnterStep s.kind) IsPlain
      (λ s. enter_kind (λ k. IsReclaimKind k × IsOtherKind k) (tt, tt) (tt, tt) (tt, tt) (tt, tt) (tt, tt) (tt, tt) s.kind) h.begins.entered.steps
      h.begins.entered.kinds)
      (All-cons IsPlain head_step [] (tt, tt) (All-nil IsPlain))

  pub looked_seen : BeginsWith w.past.seen v.past.seen
  looked_seen =
      subst (λ (y : Knowledge). BeginsWith y.past.seen v.past.seen) (sym h.looked)
      (begins_by e.past.seen (take h.begins.at e.past.seen) v.past.seen (drop h.begins.at e.past.seen, sym (take-append-drop h.begins.at e.past.seen))
      h.begins.snapshot)

  pub looked_rest : w
      ≡ record v {
        past = record v.past { seen = w.past.seen };
        phase = w.phase;
        clocks = w.clocks;
        walk = w.walk;
        empty = w.empty;
        back = None;
        trail = w.trail;
      }
  looked_rest =
      subst
      (λ (y : Knowledge).
      y ≡ record v {
        past = record v.past { seen = y.past.seen };
        phase = y.phase;
        clocks = y.clocks;
        walk = y.walk;
        empty = y.empty;
        back = None;
        trail = y.trail;
      })
      (sym h.looked)
      (ap (λ (y : Knowledge). record y { walk = x.walk; empty = x.empty; trail = x.trail }) h.begins.rest)

  pub looked_stands : (l : Noted) → Stands c v l → Stands c w l
  looked_stands l k =
      subst (λ (y : Knowledge). Stands c y l) (sym h.looked)
      (stands_same c e x l refl refl refl refl (unpassed is_free e.trail _ refl) (unpassed is_won_cut e.trail _ refl) (keeps_one e.trail _ refl refl)
      (stands_entered c v e l h.time h.begins k))

  -- the time of the section isn't below any that was seen before
  pub looked_late : v.base ≡ c.base → v.base + length v.past.seen ≤ time_in h.begins.inside
  looked_late base =
      let b = h.begins in
      let front = b.snapshot in
      let long : length (take b.at e.past.seen) ≡ length v.past.seen + length front.0 = ap length front.1 ∙ length-append v.past.seen front.0 in
      let cut = length-take b.at e.past.seen in
      let word = b.word_is in
      let time = b.time_is in
      omega arith

  -- the section was left at once
  module _ (u : Knowledge) (left : u ≡ mark_cleared c w) where
    abbrev pub clear_step : Step
    clear_step = record { kind = ClearMark; word = place_of c (Mark w.number); found = None; stored = Some 0 }

    abbrev pub left_steps : List Step
    left_steps = looked_steps ++ clear_step ∷ []

    pub left_makes : MayLoadLow v → Makes v u left_steps
    left_makes may =
        let y : Knowledge = mark_cleared c w in
        let ring : v.ring ≡ w.ring = sym (ap (λ (z : Knowledge). z.ring) looked_rest) in
        subst (λ z. Makes v z left_steps) (sym left)
        (section_makes v y left_steps may refl looked_seen
        (ap (λ (l : List Step). l ++ clear_step ∷ []) looked_trail ∙ append_assoc v.trail looked_steps (clear_step ∷ []))
        (All-append IsPlain looked_steps (clear_step ∷ []) looked_plain (All-cons IsPlain clear_step [] (tt, tt) (All-nil IsPlain)))
        (ap (λ (z : Knowledge). record z { phase = Outside; clocks = no_clocks; walk = Nowhere; back = None; trail = y.trail }) looked_rest
        ∙ (λ i. record v {
          past = record v.past { seen = w.past.seen };
          phase = Outside;
          clocks = no_clocks;
          walk = Nowhere;
          empty = w.empty;
          ring = ring i;
          back = None;
          trail = y.trail;
        })))

    pub left_stands : (l : Noted) → Stands c v l → Stands c u l
    left_stands l k = subst (λ (y : Knowledge). Stands c y l) (sym left) (stands_unmarked c w l (looked_stands l k))

    -- HEAD named a version of another seat, which is the newest of the object; the log was then as before the section
    pub left_top : (seat : ℕ) → link ≢ 0 → link_seat_of link ≡ seat → link_seat_of link ≢ v.number
        → (top : FindsTop c u object seat head_step) × (top.view.ring ≡ v.ring)
    left_top seat some is other = (
      record {
        finds = record { kind = tt; word = refl; link = link; found = refl; some = some; seat_is = is };
        view = e;
        number = sym (ap (λ (y : Knowledge). y.number) left ∙ ap (λ (y : Knowledge). y.number) h.looked);
        after = clear_step ∷ [];
        trail = ap (λ (y : Knowledge). y.trail) left ∙ ap (λ (y : Knowledge). y.trail ++ clear_step ∷ []) h.looked
            ∙ append_assoc e.trail (head_step ∷ []) (clear_step ∷ []);
        names = h.newer some (λ own. other (own ∙ ap (λ (y : Knowledge). y.number) h.begins.rest));
      },
      ap (λ (y : Knowledge). y.ring) h.begins.rest,
    )

    pub left_has_step : Contains left_steps head_step
    left_has_step = Contains-append_left looked_steps (clear_step ∷ []) head_step (Contains-push h.begins.entered.steps head_step)

    -- HEAD was found empty in a section of a time not below one that was seen
    pub left_empty : link ≡ 0 → v.base ≡ c.base → (time : ℕ) → time ≤ v.base + length v.past.seen → FoundEmpty u object time
    left_empty none base time seen =
        let late = looked_late base in
        let empty : u.empty ≡ e.empty ++ record { object = object; time = time_in h.begins.inside } ∷ [] =
        ap (λ (y : Knowledge). y.empty) left ∙ ap (λ (y : Knowledge). y.empty) h.looked ∙ ap (λ k. empty_too e.empty object (time_in h.begins.inside) k) none in
        let one : EmptyHead = record { object = object; time = time_in h.begins.inside } in
        (one, subst (λ l. Contains l one) (sym empty) (Contains-push e.empty one), refl, omega arith)
