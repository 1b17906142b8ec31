-- Why a version has no time of death, and where one comes from, after more steps, before which others were made too.
use Rattle.std.proofs.Common.{ℕ, ◌+◌, ◌<◌, ◌≤◌, Bool, List, ◌∷◌, ◌++◌, length, sym, ap, ◌∙◌, subst, inl, inr}
use Rattle.std.proofs.Common.{⊎_elim, arith, append_assoc, Option, Some, None, Contains}
use Rattle.std.proofs.lemmas.List.Elements.{Contains-append_left, Contains-append_right}
use Rattle.mv_history.specs.declared.Step.{Step}
use Rattle.mv_layout.specs.declared.Config.{Config}
use Rattle.seat_log.specs.mv_core.declared.view.Knowledge.{Knowledge}
use Rattle.seat_log.specs.mv_core.Times.{latest, latest_at}
use Rattle.seat_log.proofs.mv_core_lemmas.history.Fronts.{latest_at-more, latest-more}
use Rattle.seat_log.specs.reader_marks.declared.scanning.Watermark.{Watermark}
use Rattle.seat_log.specs.declared.version.Note.{Note}
use Rattle.log_reclaim.specs.Parts.{Reclaims, super_load, super_step, FindsNewer, FindsAbove, TimesDeath}
use Rattle.log_reclaim.specs.Untimed.{TriedSo, StaysUntimed, DatedSo}
use Rattle.log_reclaim.proofs.Reclaiming.{reclaims_number, reclaims_base, reclaims_more}

-- steps that time a death are among more steps
pub times_first : (made more : List Step) (dead : ℕ) → TimesDeath made dead → TimesDeath (made ++ more) dead
times_first made more dead t =
    record {
      step = t.step;
      there = Contains-append_left made more t.step t.there;
      kind = t.kind;
      clock = t.clock;
      word = t.word;
      found = t.found;
      dead_is = t.dead_is;
    }

pub times_then : (made more : List Step) (dead : ℕ) → TimesDeath more dead → TimesDeath (made ++ more) dead
times_then made more dead t =
    record {
      step = t.step;
      there = Contains-append_right made more t.step t.there;
      kind = t.kind;
      clock = t.clock;
      word = t.word;
      found = t.found;
      dead_is = t.dead_is;
    }

-- a step that found a newer version in HEAD did so also when more steps were made
newer_on : (c : Config) (u w : Knowledge) (more : List Step) (r : Reclaims u w more) (n : Note) (seat : ℕ) (s : Step) → FindsNewer c u n seat s
    → FindsNewer c w n seat s
newer_on c u w more r n seat s f = record {
  top = record {
    finds = f.top.finds;
    view = f.top.view;
    number = f.top.number ∙ sym (reclaims_number u w more r);
    after = f.top.after ++ more;
    trail = r.trail ∙ ap (λ l. l ++ more) f.top.trail ∙ append_assoc f.top.view.trail (s ∷ f.top.after) more;
    names = f.top.names;
  };
  newer = f.newer;
}

-- and so are those that find a newer version in HEAD
pub above_first : (c : Config) (u w : Knowledge) (made more : List Step) (r : Reclaims u w more) (n : Note) (seat : ℕ) → FindsAbove c u made n seat
    → FindsAbove c w (made ++ more) n seat
above_first c u w made more r n seat a = record {
  not_own = λ e. a.not_own (e ∙ reclaims_number u w more r);
  in_range = a.in_range;
  before = a.before;
  after = a.after ++ more;
  made_is = ap (λ l. l ++ more) a.made_is ∙ append_assoc a.before (super_step c u.number n ∷ a.after) more
      ∙ ap (λ own. a.before ++ super_step c own n ∷ (a.after ++ more)) (sym (reclaims_number u w more r));
  step = a.step;
  later = Contains-append_left a.after more a.step a.later;
  finds = newer_on c u w more r n seat a.step a.finds;
}

pub above_then : (c : Config) (w : Knowledge) (made more : List Step) (n : Note) (seat : ℕ) → FindsAbove c w more n seat → FindsAbove c w (made ++ more) n seat
above_then c w made more n seat a = record {
  not_own = a.not_own;
  in_range = a.in_range;
  before = made ++ a.before;
  after = a.after;
  made_is = ap (λ l. made ++ l) a.made_is ∙ sym (append_assoc made a.before (super_step c w.number n ∷ a.after));
  step = a.step;
  later = a.later;
  finds = a.finds;
}

-- more steps are made after these, and more is seen
module _ (c : Config) (u w : Knowledge) (made more : List Step) (r : Reclaims u w more) where
  module _ (mark : Watermark) (clock : ℕ) (n : Note) where
    tried_on : (above : Option ℕ) → TriedSo c u made mark clock n above → TriedSo c w (made ++ more) mark clock n above
    tried_on None t =
        let base = reclaims_base u w more r in (
          t.0,
          ⊎_elim inl
              (λ late.
              let later = latest-more u.base w.past.seen u.past.seen n.object r.seen in
              inr (subst (λ (b : ℕ). n.time < latest b w.past.seen n.object) (sym base) (omega arith)))
              t.1,
        )
    tried_on (Some seat) a = above_first c u w made more r n seat a

    pub untimed_on : (back : Bool) (above : Option ℕ) → mark.low ≤ u.base + length u.past.seen → StaysUntimed c u made mark clock back n above
        → StaysUntimed c w (made ++ more) mark clock back n above
    untimed_on back above seen d = record {
      committed = d.committed;
      super = Contains-append_left made more (super_step c w.number n)
          (subst (λ (own : ℕ). Contains made (super_step c own n)) (sym (reclaims_number u w more r)) d.super);
      unwritten =
          (let old = d.unwritten in
          let same = latest_at-more u.base w.past.seen u.past.seen n.object r.seen mark.low seen in
          subst (λ (b : ℕ). latest_at b w.past.seen n.object mark.low ≤ n.time) (sym (reclaims_base u w more r)) (omega arith));
      tried = λ b. tried_on above (d.tried b);
    }

  pub dated_on : (most top : ℕ) (back : Bool) (old n : Note) → most ≤ top → DatedSo c u made most back old n
      → DatedSo c w (made ++ more) top back old n
  dated_on most top back old n le d =
      let base = reclaims_base u w more r in
      let long = reclaims_more u w more r in
      ⊎_elim inl
      (λ e. inr (
      ⊎_elim
      (λ seen.
      let early = seen.0 in
      inl (
        omega arith,
        Contains-append_left made more (super_load c w.number n n.dead)
            (subst (λ (own : ℕ). Contains made (super_load c own n n.dead)) (sym (reclaims_number u w more r)) seen.1),
      ))
      (λ b. let fits = b.1 in inr (b.0, omega arith, times_first made more n.dead b.2)) e))
      d

-- other steps were made before these
module _ (c : Config) (w : Knowledge) (made more : List Step) (mark : Watermark) (clock : ℕ) (n : Note) where
  tried_then : (above : Option ℕ) → TriedSo c w more mark clock n above → TriedSo c w (made ++ more) mark clock n above
  tried_then None t = t
  tried_then (Some seat) a = above_then c w made more n seat a

  pub untimed_then : (back : Bool) (above : Option ℕ) → StaysUntimed c w more mark clock back n above → StaysUntimed c w (made ++ more) mark clock back n above
  untimed_then back above d = record {
    committed = d.committed;
    super = Contains-append_right made more (super_step c w.number n) d.super;
    unwritten = d.unwritten;
    tried = λ b. tried_then above (d.tried b);
  }

pub dated_then : (c : Config) (w : Knowledge) (made more : List Step) (most top : ℕ) (back : Bool) (old n : Note) → most ≤ top
    → DatedSo c w more most back old n → DatedSo c w (made ++ more) top back old n
dated_then c w made more most top back old n le d =
    ⊎_elim inl
    (λ e. inr (
    ⊎_elim (λ seen. inl (seen.0, Contains-append_right made more (super_load c w.number n n.dead) seen.1))
    (λ b. let fits = b.1 in inr (b.0, omega arith, times_then made more n.dead b.2)) e))
    d
