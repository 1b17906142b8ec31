use Rattle.std.proofs.Common.{arith}
use Rattle.list_set.proofs.Walking.{window_start, next_in_range, next_falls, window_step, key_window_found, key_window_end}
use Rattle.list_set.proofs.key_window.walk_from.Goals as goal

pub loop-link-init : goal.loop-link-init
loop-link-init g c = record {
  before = g.met.V.View.as_itself _;
  window = window_start _ _ _ _ _ c.requires.behind;
}

pub overflow_cast-node : goal.overflow_cast-node
overflow_cast-node g c =
    let lt = next_in_range _ _ _ _ _ _ c.requires.linked c.loop-link.invariant.window c.loop-link-test.true in
    record { fits = omega (arith, lt, c.requires.few) }

pub read_pair-node_key-requires-clause-object : goal.read_pair-node_key-requires-clause-object
read_pair-node_key-requires-clause-object g c =
    rw c.loop-link.invariant.window.same (next_in_range _ _ _ _ _ _ c.requires.linked c.loop-link.invariant.window c.loop-link-test.true)

pub returns-then-node_key-key-clause-stops : goal.returns-then-node_key-key-clause-stops
returns-then-node_key-key-clause-stops g c =
    key_window_found _ _ _ _ _ _ c.requires.linked c.loop-link.invariant.window c.loop-link-test.true _ c.read_pair-node_key.ensures.first
    c.if-node_key-key.true

pub returns-then-node_key-key-clause-as_before : goal.returns-then-node_key-key-clause-as_before
returns-then-node_key-key-clause-as_before g c =
    g.met.V.View.as_long_before _ _ _ c.loop-link.invariant.before c.read_pair-node_key.ensures.as_before

pub loop-link-smaller : goal.loop-link-smaller
loop-link-smaller g c =
    next_falls _ _ _ _ _ _ c.requires.linked c.loop-link.invariant.window c.loop-link-test.true _ _
    (g.met.V.View.same_state _ _ c.read_pair-node_key.ensures.as_before) c.read_pair-node_key.ensures.second

pub loop-link-preserved : goal.loop-link-preserved
loop-link-preserved g c = record {
  before = g.met.V.View.as_long_before _ _ _ c.loop-link.invariant.before c.read_pair-node_key.ensures.as_before;
  window = window_step _ _ _ _ _ _ c.requires.linked c.loop-link.invariant.window c.loop-link-test.true _ _
      (g.met.V.View.same_state _ _ c.read_pair-node_key.ensures.as_before) c.read_pair-node_key.ensures.second _ c.read_pair-node_key.ensures.first
      c.if-node_key-key.false;
}

pub returns-clause-stops : goal.returns-clause-stops
returns-clause-stops g c = key_window_end _ _ _ _ _ _ c.requires.linked c.loop-link.invariant.window c.loop-link-test.false
