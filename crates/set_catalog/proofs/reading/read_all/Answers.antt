use Rattle.std.proofs.Common.{arith}
use Rattle.set_catalog.proofs.HeadReads.{heads_none, heads_are, heads_all}
use Rattle.set_catalog.proofs.reading.read_all.Goals as goal

pub loop-head-init : goal.loop-head-init
loop-head-init g c = record {
  before = g.met.V.View.as_itself _;
  read = heads_none _ _ c.in_ok-all.ensures;
}

pub read_list-requires-clause-lawful : goal.read_list-requires-clause-lawful
read_list-requires-clause-lawful g c = rw (g.met.V.View.same_state _ _ c.loop-head.invariant.before) c.requires.lawful

pub read_list-requires-clause-before : goal.read_list-requires-clause-before
read_list-requires-clause-before g c = rw (g.met.V.View.same_state _ _ c.loop-head.invariant.before) c.loop-head.invariant.read

pub loop-head-preserved : goal.loop-head-preserved
loop-head-preserved g c = record {
  before = g.met.V.View.as_long_before _ _ _ c.loop-head.invariant.before c.read_list.ensures.as_before;
  read = rw (g.met.V.View.same_state _ _ c.loop-head.invariant.before) at c.in_ok-read_list.ensures.read;
}

pub read_trees-requires-clause-lawful : goal.read_trees-requires-clause-lawful
read_trees-requires-clause-lawful g c = rw (g.met.V.View.same_state _ _ c.loop-head.invariant.before) c.requires.lawful

pub read_trees-requires-clause-before : goal.read_trees-requires-clause-before
read_trees-requires-clause-before g c =
    let end = c.loop-head.auto.head-end in let out = c.loop-head-test.false in
    rw (g.met.V.View.same_state _ _ c.loop-head.invariant.before) (heads_are _ _ _ _ (omega arith) c.loop-head.invariant.read)

pub returns-clause-catalogue : goal.returns-clause-catalogue
returns-clause-catalogue g c =
    heads_all _ _ c.requires.lawful (rw (g.met.V.View.same_state _ _ c.loop-head.invariant.before) at c.in_ok-read_trees.ensures.read)

pub returns-clause-as_before : goal.returns-clause-as_before
returns-clause-as_before g c = g.met.V.View.as_long_before _ _ _ c.loop-head.invariant.before c.read_trees.ensures.as_before

pub returns-in_err-read_trees-clause-as_before : goal.returns-in_err-read_trees-clause-as_before
returns-in_err-read_trees-clause-as_before g c = g.met.V.View.as_long_before _ _ _ c.loop-head.invariant.before c.read_trees.ensures.as_before
