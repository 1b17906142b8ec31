use Rattle.tree_balance.proofs.plan.WritePlan.climb.Goals as goal

pub rise-requires-clause-distinct : goal.rise-requires-clause-distinct
rise-requires-clause-distinct g c = c.loop-i.invariant.extends.distinct
