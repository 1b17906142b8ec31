use Rattle.std.proofs.Common.{arith, [], refl}
use Rattle.tree_set.proofs.LeafWalks.{walk_there, walk_few, counted_over, counted_there, counted_rest}
use Rattle.tree_set.proofs.sizes.size_in.Goals as goal

pub count_on-count-requires-clause-walk : goal.count_on-count-requires-clause-walk
count_on-count-requires-clause-walk g c =
    (_, walk_there _ _ _ _ _ _ (g.met.V.View.same_state _ _ c.of-leaves.ensures.as_before) (c.of-leaves.ensures.walk _))

pub returns-then-is_over-clause-size : goal.returns-then-is_over-clause-size
returns-then-is_over-clause-size g c =
    counted_over _ c.requires.lawful _ _ _ _ _ (c.if-is_over.ensures.0 refl)
    (counted_there _ _ _ _ _ _ _ _ _ _ (g.met.V.View.same_state _ _ c.of-leaves.ensures.as_before) c.count_on-count.ensures.counted
    (c.of-leaves.ensures.walk _))

pub count_rest-requires-clause-walk : goal.count_rest-requires-clause-walk
count_rest-requires-clause-walk g c =
    let counted = counted_there _ _ _ _ _ _ _ _ _ _ (g.met.V.View.same_state _ _ c.of-leaves.ensures.as_before) c.count_on-count.ensures.counted
    (c.of-leaves.ensures.walk _) in (
      _,
      walk_there _ _ _ _ _ _ (g.met.V.View.same_state _ _
          (g.met.V.View.as_long_before _ _ _ c.of-leaves.ensures.as_before c.count_on-count.ensures.as_before)) counted.stopped.walk,
    )

pub returns-in-Some-clause-size : goal.returns-in-Some-clause-size
returns-in-Some-clause-size g c =
    counted_rest _ _ _ _ _ _ _ _ (g.met.V.View.same_state _ _
    (g.met.V.View.as_long_before _ _ _ c.of-leaves.ensures.as_before c.count_on-count.ensures.as_before))
    (counted_there _ _ _ _ _ _ _ _ _ _ (g.met.V.View.same_state _ _ c.of-leaves.ensures.as_before) c.count_on-count.ensures.counted
    (c.of-leaves.ensures.walk _))
    c.in-Some.ensures.counted

pub overflow_add-result : goal.overflow_add-result
overflow_add-result g c =
    let most = walk_few _ c.requires.lawful _ _ _ _ (c.of-leaves.ensures.walk []) in
    let sum = counted_rest _ _ _ _ _ _ _ _
    (g.met.V.View.same_state _ _ (g.met.V.View.as_long_before _ _ _ c.of-leaves.ensures.as_before c.count_on-count.ensures.as_before))
    (counted_there _ _ _ _ _ _ _ _ _ _ (g.met.V.View.same_state _ _ c.of-leaves.ensures.as_before) c.count_on-count.ensures.counted
    (c.of-leaves.ensures.walk _))
    c.in-Some.ensures.counted in omega arith

pub count_on-count-requires-clause-lawful : goal.count_on-count-requires-clause-lawful
count_on-count-requires-clause-lawful g c = rw (g.met.V.View.same_state _ _ c.of-leaves.ensures.as_before) c.requires.lawful

pub count_rest-requires-clause-lawful : goal.count_rest-requires-clause-lawful
count_rest-requires-clause-lawful g c =
    rw (g.met.V.View.same_state _ _ (g.met.V.View.as_long_before _ _ _ c.of-leaves.ensures.as_before c.count_on-count.ensures.as_before))
    c.requires.lawful

pub returns-then-is_over-clause-as_before : goal.returns-then-is_over-clause-as_before
returns-then-is_over-clause-as_before g c = g.met.V.View.as_long_before _ _ _ c.of-leaves.ensures.as_before c.count_on-count.ensures.as_before

pub returns-in-Some-clause-as_before : goal.returns-in-Some-clause-as_before
returns-in-Some-clause-as_before g c =
    g.met.V.View.as_long_before _ _ _ (g.met.V.View.as_long_before _ _ _ c.of-leaves.ensures.as_before c.count_on-count.ensures.as_before)
    c.count_rest.ensures.as_before

pub count_nodes-requires-clause-lawful : goal.count_nodes-requires-clause-lawful
count_nodes-requires-clause-lawful g c =
    rw (g.met.V.View.same_state _ _
    (g.met.V.View.as_long_before _ _ _ (g.met.V.View.as_long_before _ _ _ c.of-leaves.ensures.as_before c.count_on-count.ensures.as_before)
    c.count_rest.ensures.as_before))
    c.requires.lawful

pub returns-in-None-clause-size : goal.returns-in-None-clause-size
returns-in-None-clause-size g c =
    rw (g.met.V.View.same_state _ _
    (g.met.V.View.as_long_before _ _ _ (g.met.V.View.as_long_before _ _ _ c.of-leaves.ensures.as_before c.count_on-count.ensures.as_before)
    c.count_rest.ensures.as_before)) at c.count_nodes.ensures.count

pub returns-in-None-clause-as_before : goal.returns-in-None-clause-as_before
returns-in-None-clause-as_before g c =
    g.met.V.View.as_long_before _ _ _
    (g.met.V.View.as_long_before _ _ _ (g.met.V.View.as_long_before _ _ _ c.of-leaves.ensures.as_before c.count_on-count.ensures.as_before)
    c.count_rest.ensures.as_before)
    c.count_nodes.ensures.as_before
