use Rattle.std.proofs.Common.{arith}
use Rattle.list_set.proofs.Counting.{count_first, count_fits, count_room, count_in_range, count_falls, count_step, count_done}
use Rattle.list_set.proofs.lists.size_linked.Goals as goal

pub loop-node-init : goal.loop-node-init
loop-node-init g c = record {
  before = c.read_pair-node.ensures.as_before;
  count = count_first _ _ c.requires.linked _ c.read_pair-node.ensures.second;
}

pub overflow_cast-node : goal.overflow_cast-node
overflow_cast-node g c =
    record {
      fits = count_fits _ _ _ _ _ 0 c.requires.linked (g.met.V.View.same_state _ _ c.loop-node.invariant.before) c.loop-node.invariant.count
          c.loop-node-test.true c.requires.few;
    }

pub read_pair-next-requires-clause-object : goal.read_pair-next-requires-clause-object
read_pair-next-requires-clause-object g c =
    count_in_range _ _ _ _ _ 0 c.requires.linked (g.met.V.View.same_state _ _ c.loop-node.invariant.before) c.loop-node.invariant.count c.loop-node-test.true

pub loop-node-smaller : goal.loop-node-smaller
loop-node-smaller g c =
    count_falls _ _ _ _ _ _ c.requires.linked (g.met.V.View.same_state _ _ c.loop-node.invariant.before) c.loop-node.invariant.count c.loop-node-test.true
    c.read_pair-next.ensures.second

pub loop-node-preserved : goal.loop-node-preserved
loop-node-preserved g c = record {
  before = g.met.V.View.as_long_before _ _ _ c.loop-node.invariant.before c.read_pair-next.ensures.as_before;
  count = count_step _ _ _ _ _ _ c.requires.linked (g.met.V.View.same_state _ _ c.loop-node.invariant.before) c.loop-node.invariant.count
      c.loop-node-test.true c.read_pair-next.ensures.second;
}

pub returns-clause-size : goal.returns-clause-size
returns-clause-size g c = count_done _ _ c.requires.linked _ _ c.loop-node.invariant.count c.loop-node-test.false

pub overflow_add-count : goal.overflow_add-count
overflow_add-count g c =
    record {
      fits = (let r = count_room _ _ _ _ _ 0 c.requires.linked (g.met.V.View.same_state _ _ c.loop-node.invariant.before) c.loop-node.invariant.count
          c.loop-node-test.true c.requires.few in omega arith);
    }
