use Rattle.std.proofs.Common.{ap, ◌∙◌}
use Rattle.mv_history.specs.State.{State}
use Rattle.tree_balance.specs.Depths.{child_for}
use Rattle.tree_balance.proofs.Depths.{passed_next}
use Rattle.tree_balance.proofs.way.find_way.Goals as goal

pub loop-preserved : goal.loop-preserved
loop-preserved g c = record {
  before = g.met.V.View.as_long_before _ _ _ c.loop.invariant.before c.child_for-child.ensures.as_before;
  passed =
      passed_next _ _ _ _ _ _ _ c.loop.invariant.passed
      (c.child_for-child.ensures.child ∙ ap (λ (u : State). child_for u c.args.key c.loop.node) (g.met.V.View.same_state _ _ c.loop.invariant.before))
      c.if-child-eq0.false c.push.ensures.count;
}
