use Rattle.std.proofs.Common.{◌∙◌, refl, arith}
use Rattle.tree_balance.proofs.Drafting.{room_none, first_is, first_distinct}
use Rattle.tree_balance.proofs.Planning.{add_distinct, add_planned}
use Rattle.tree_balance.proofs.balance.plan_add.Goals as goal

pub write-requires : goal.write-requires
write-requires g c = record { room = room_none c.args.plan.now.writes c.args.plan.now.count c.requires.none c.grow_writes.result (omega arith) }

pub rebalance-requires-clause-distinct : goal.rebalance-requires-clause-distinct
rebalance-requires-clause-distinct g c =
    let distinct = add_distinct _ _ _ _ _ _ _ c.requires.lawful c.requires.root_from c.requires.root_in (omega (arith, c.ranges.key.fits)) c.requires.ends
    c.requires.lacks c.requires.leaf_vacant c.requires.inner_vacant c.requires.differ _ (c.grow_writes.ensures.writes _ c.requires.ends) in
    first_distinct c.args.plan.now.writes c.args.plan.now.count c.requires.none c.grow_writes.result _ distinct c.write.ensures.writes

pub returns-clause-plan : goal.returns-clause-plan
returns-clause-plan g c =
    let distinct = add_distinct _ _ _ _ _ _ _ c.requires.lawful c.requires.root_from c.requires.root_in (omega (arith, c.ranges.key.fits)) c.requires.ends
    c.requires.lacks c.requires.leaf_vacant c.requires.inner_vacant c.requires.differ _ (c.grow_writes.ensures.writes _ c.requires.ends) in
    add_planned _ _ _ _ _ _ _ c.requires.lawful c.requires.root_from c.requires.root_in (omega (arith, c.ranges.key.fits)) c.requires.ends
    c.requires.lacks c.requires.leaf_vacant c.requires.inner_vacant c.requires.differ _ _ _ _ _ (c.grow_writes.ensures.writes _ c.requires.ends)
    (first_is c.args.plan.now.writes c.args.plan.now.count c.requires.none c.grow_writes.result _ distinct c.write.ensures.writes) refl
    c.rebalance.ensures.extends

pub returns-clause-short : goal.returns-clause-short
returns-clause-short g c le =
    let distinct = add_distinct _ _ _ _ _ _ _ c.requires.lawful c.requires.root_from c.requires.root_in (omega (arith, c.ranges.key.fits)) c.requires.ends
    c.requires.lacks c.requires.leaf_vacant c.requires.inner_vacant c.requires.differ _ (c.grow_writes.ensures.writes _ c.requires.ends) in
    c.rebalance.ensures.short le ∙ first_is c.args.plan.now.writes c.args.plan.now.count c.requires.none c.grow_writes.result _ distinct c.write.ensures.writes
    ∙ c.grow_writes.ensures.writes _ c.requires.ends
