use Rattle.std.proofs.Common.{arith}
use Rattle.tree_set.proofs.NodeCounts.{counts_start, counts_next, counts_fit, counts_all}
use Rattle.tree_set.proofs.sizes.count_nodes.Goals as goal

pub loop-object-init : goal.loop-object-init
loop-object-init g c = record { before = g.met.V.View.as_itself _; counted = counts_start (g.V.View.state c.args.view.now) c.args.root }

pub overflow_add-count : goal.overflow_add-count
overflow_add-count g c =
    let same = g.met.V.View.same_state _ _ c.loop-object.invariant.before in
    let few = counts_fit _ _ _ _ c.requires.lawful
    (counts_next _ _ _ _ _ _ _ (omega (arith, c.loop-object-test.true, c.loop-object.auto.object, c.objects-object-end.ensures)) c.read.ensures.words same
    c.one_if_leaf-count.ensures c.loop-object.invariant.counted) in omega arith

pub loop-object-preserved : goal.loop-object-preserved
loop-object-preserved g c =
    let same = g.met.V.View.same_state _ _ c.loop-object.invariant.before in
    record {
      before = g.met.V.View.as_long_before _ _ _ c.loop-object.invariant.before c.read.ensures.as_before;
      counted = counts_next _ _ _ _ _ _ _ (omega (arith, c.loop-object-test.true, c.objects-object-end.ensures)) c.read.ensures.words same
          c.one_if_leaf-count.ensures c.loop-object.invariant.counted;
    }

pub returns-clause-count : goal.returns-clause-count
returns-clause-count g c =
    counts_all _ _ _ _ c.requires.lawful c.requires.root_from c.requires.root_in (omega (arith, c.loop-object-test.false, c.objects-object-end.ensures))
    c.loop-object.invariant.counted

pub returns-clause-as_before : goal.returns-clause-as_before
returns-clause-as_before g c = c.loop-object.invariant.before
