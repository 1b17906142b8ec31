use Rattle.std.proofs.Common.{List, sym, ap, ◌∙◌, subst, arith, length, length-append, [], ◌∷◌}
use Rattle.std.proofs.lemmas.List.{nil_from_length}
use Rattle.object_lock.specs.mv_core.EnterSteps.{MayLoadLow}
use Rattle.object_lock.specs.mv_core.Passes.{view, config_of}
use Rattle.mvrlu.specs.declared.domain.Seat.{Seat}
use Rattle.mvrlu.specs.Joined.{AreJoining}
use Rattle.mvrlu.specs.Placed.{Fits}
use Rattle.mvrlu.proofs.whole.Joins.{all_front, joining_first, joining_next}
use Rattle.mvrlu.proofs.meeting.join_all.Goals as goal

-- there is a first of them
pub unreachable-requires : goal.unreachable-requires
unreachable-requires g c =
    let some = c.requires.some in let long = c.args.seats.ok.0 in let none = c.in_default.ensures.cases.0 in absurd (omega arith)

pub pass_of-pass-requires : goal.pass_of-pass-requires
pass_of-pass-requires g c = record {
  of = (all_front (λ (s : Seat g.row.P.Denot g.P.Protocol). Fits c.args.shared.now s.idle) c.pop.new.self.items c.in-Some.first
      (rw (sym c.in-Some.ensures.items) c.requires.of)).1;
}

pub loop-other-init : goal.loop-other-init
loop-other-init g c = record {
  of = c.pass_of-pass.ensures.of;
  may = c.pass_of-pass.ensures.may;
  own = (all_front (λ (s : Seat g.row.P.Denot g.P.Protocol). Fits c.args.shared.now s.idle) c.pop.new.self.items c.in-Some.first
      (rw (sym c.in-Some.ensures.items) c.requires.of)).0;
  joining = joining_first c.args.seats.items c.pop.new.self.items c.in-Some.first
      (view c.pass_of-pass.result) c.in-Some.ensures.items c.pass_of-pass.ensures.view;
  cost = (let long = ap length c.in-Some.ensures.items ∙ length-append c.pop.new.self.items (c.in-Some.first ∷ []) in omega arith);
}

pub pass_of-other-requires : goal.pass_of-other-requires
pass_of-other-requires g c = record {
  of = (all_front (λ (s : Seat g.row.P.Denot g.P.Protocol). Fits c.args.shared.now s.idle) c.pop-in-loop-other.new.self.items c.in-Some-pop.other
      (rw (sym c.in-Some-pop.ensures.items) c.loop-other.invariant.own)).1;
}

pub loop-other-smaller : goal.loop-other-smaller
loop-other-smaller g c = let fewer = c.in-Some-pop.ensures.cases in omega arith

pub loop-other-preserved : goal.loop-other-preserved
loop-other-preserved g c =
    let d = config_of c.args.shared.now in
    let before = view c.loop-other.pass in
    let other = view c.pass_of-other.result in
    record {
      of = c.join.ensures.of;
      may = subst MayLoadLow (sym c.join.ensures.view)
          (record { outside = c.loop-other.invariant.may.outside; no_scan = c.loop-other.invariant.may.no_scan });
      joining = subst (AreJoining c.args.seats.items c.pop-in-loop-other.new.self.items) (sym c.join.ensures.view)
          (joining_next d c.args.seats.items c.loop-other.seats.items c.pop-in-loop-other.new.self.items c.in-Some-pop.other before other
          c.loop-other.invariant.joining c.in-Some-pop.ensures.items c.pass_of-other.ensures.view
          (c.pass_of-other.ensures.of.3 ∙ sym c.loop-other.invariant.of.3) (c.pass_of-other.ensures.of.2 ∙ sym c.loop-other.invariant.of.2));
      cost = (let long = ap length c.in-Some-pop.ensures.items ∙ length-append c.pop-in-loop-other.new.self.items (c.in-Some-pop.other ∷ []) in
          let cost = c.loop-other.invariant.cost in let step = c.join.ensures.step in omega arith);
      own = (all_front (λ (s : Seat g.row.P.Denot g.P.Protocol). Fits c.args.shared.now s.idle) c.pop-in-loop-other.new.self.items c.in-Some-pop.other
          (rw (sym c.in-Some-pop.ensures.items) c.loop-other.invariant.own)).0;
    }

-- and none is left in the end
pub destroy_empty-requires : goal.destroy_empty-requires
destroy_empty-requires g c = c.in_default-pop.ensures.cases.1

pub returns-clause-of : goal.returns-clause-of
returns-clause-of g c = c.loop-other.invariant.of

pub returns-clause-may : goal.returns-clause-may
returns-clause-may g c = c.loop-other.invariant.may

pub returns-clause-joined : goal.returns-clause-joined
returns-clause-joined g c =
    let none = c.in_default-pop.ensures.cases.0 in
    let long = c.loop-other.seats.ok.0 in
    subst (λ (left : List (Seat g.row.P.Denot g.P.Protocol)). AreJoining c.args.seats.items left (view c.loop-other.pass))
    (nil_from_length c.loop-other.seats.items (omega arith)) c.loop-other.invariant.joining

pub returns-clause-cost : goal.returns-clause-cost
returns-clause-cost g c =
    let none = c.in_default-pop.ensures.cases.0 in let long = c.loop-other.seats.ok.0 in let cost = c.loop-other.invariant.cost in omega arith
