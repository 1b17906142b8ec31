use Rattle.tree_balance.proofs.Drafting.{extends_none, extends_both}
use Rattle.tree_balance.proofs.plan.WritePlan.take_all.Goals as goal

pub loop-step-init : goal.loop-step-init
loop-step-init g c = record { before = g.met.V.View.as_itself _; extends = extends_none _ _ _ _ c.requires.distinct }

pub take-requires-clause-distinct : goal.take-requires-clause-distinct
take-requires-clause-distinct g c = c.loop-step.invariant.extends.distinct

pub loop-step-preserved : goal.loop-step-preserved
loop-step-preserved g c = record {
  before = g.met.V.View.as_long_before _ _ _ c.loop-step.invariant.before c.take.ensures.as_before;
  extends = extends_both _ _ _ _ _ _ _ (g.met.V.View.same_state _ _ c.loop-step.invariant.before) c.loop-step.invariant.extends c.take.ensures.extends;
}
