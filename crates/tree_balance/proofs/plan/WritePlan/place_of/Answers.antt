use Rattle.std.proofs.Common.{refl, []}
use Rattle.tree_balance.proofs.Merging.{untouched_more}
use Rattle.tree_balance.proofs.plan.WritePlan.place_of.Goals as goal

pub loop-i-init : goal.loop-i-init
loop-i-init c = refl

pub loop-i-preserved : goal.loop-i-preserved
loop-i-preserved c = untouched_more _ _ _ (0, []) c.loop-i-test.true c.loop-i.invariant c.if-writes-i.false
