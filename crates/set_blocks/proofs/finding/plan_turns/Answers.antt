use Rattle.std.proofs.Common.{◌∷◌, [], ap, sym, arith, length, length-append, refl, take}
use Rattle.set_blocks.proofs.PlanTurns.{planned_none, lawful_next, planned_next, full_next}
use Rattle.set_blocks.proofs.finding.plan_turns.Goals as goal

pub loop-command-init : goal.loop-command-init
loop-command-init g c = record {
  plan = planned_none _ _ _ _ c.requires.none c.new-replies.ensures;
  view = g.met.V.View.as_itself _;
  count = omega (arith, c.requires.none);
  said = ap length c.new-replies.ensures;
}

pub plan_turn-requires-clause-lawful : goal.plan_turn-requires-clause-lawful
plan_turn-requires-clause-lawful g c =
    let i = c.loop-command in
    lawful_next _ (g.V.View.state i.overlay.view) _ _ c.command-item.result c.command-item.result _ _ _ c.requires.lawful
    (g.met.V.View.same_state _ _ i.invariant.view) c.loop-command-test.true (sym c.command-item.is) i.invariant.plan

pub returns-in_err-turn-clause-planned : goal.returns-in_err-turn-clause-planned
returns-in_err-turn-clause-planned g c =
    let i = c.loop-command in
    rw c.from_residual.ensures
    (full_next _ (g.V.View.state i.overlay.view) _ _ c.command-item.result c.command-item.result _ _ _ c.requires.lawful
    (g.met.V.View.same_state _ _ i.invariant.view) c.loop-command-test.true (sym c.command-item.is) i.invariant.plan
    (take c.plan_turn.new.overlay.count c.plan_turn.new.overlay.writes) c.in_err-turn.ensures.turn)

pub loop-command-preserved : goal.loop-command-preserved
loop-command-preserved g c =
    let i = c.loop-command in
    record {
      plan = planned_next _ (g.V.View.state i.overlay.view) _ _ c.command-item.result c.command-item.result _ _ _ c.requires.lawful
          (g.met.V.View.same_state _ _ i.invariant.view) c.loop-command-test.true (sym c.command-item.is) i.invariant.plan
          c.in_ok-turn.turn _ _ _ c.has_range.ensures c.in_ok-turn.ensures.turn c.push.ensures refl;
      view = g.met.V.View.as_long_before _ _ _ i.invariant.view c.plan_turn.ensures.view;
      count = omega (arith, i.invariant.count, c.plan_turn.ensures.count);
      said = omega (arith, ap length c.push.ensures, length-append i.replies (c.in_ok-turn.turn.reply ∷ []), i.invariant.said);
    }
