use Rattle.std.proofs.Common.{arith}
use Rattle.tree_set.proofs.LeafWalks.{walk_few, walk_there, under_way_more, under_way_end}
use Rattle.tree_set.proofs.sizes.count_on.Goals as goal

pub overflow_add-count : goal.overflow_add-count
overflow_add-count g c =
    let start = c.requires.walk.1 in let most = walk_few _ c.requires.lawful _ _ _ _ start in let sum = (c.loop-count.invariant.walk _ start).sum in omega arith

pub loop-count-smaller : goal.loop-count-smaller
loop-count-smaller g c =
    let start = c.requires.walk.1 in let most = walk_few _ c.requires.lawful _ _ _ _ start in let sum = (c.loop-count.invariant.walk _ start).sum in omega arith

pub next-requires-clause-walk : goal.next-requires-clause-walk
next-requires-clause-walk g c =
    let u = c.loop-count.invariant.walk _ c.requires.walk.1 in
    (u.rest, walk_there _ _ _ _ _ _ (g.met.V.View.same_state _ _ c.loop-count.invariant.before) u.walk)

pub loop-count-preserved : goal.loop-count-preserved
loop-count-preserved g c = record {
  before = g.met.V.View.as_long_before _ _ _ c.loop-count.invariant.before c.next.ensures.as_before;
  walk = λ m w. under_way_more _ _ _ _ _ _ _ _ _ _ _ _ (g.met.V.View.same_state _ _ c.loop-count.invariant.before) (c.loop-count.invariant.walk m w)
      c.in-Some.ensures.next;
}

pub returns-clause-counted : goal.returns-clause-counted
returns-clause-counted g c m w =
    under_way_end _ _ _ _ _ _ _ _ _ _ (g.met.V.View.same_state _ _ c.loop-count.invariant.before) (c.loop-count.invariant.walk m w) c.in_default.ensures.next

pub next-requires-clause-lawful : goal.next-requires-clause-lawful
next-requires-clause-lawful g c = rw (g.met.V.View.same_state _ _ c.loop-count.invariant.before) c.requires.lawful

pub returns-clause-as_before : goal.returns-clause-as_before
returns-clause-as_before g c = g.met.V.View.as_long_before _ _ _ c.loop-count.invariant.before c.next.ensures.as_before
