use Rattle.std.proofs.Common.{arith}
use Rattle.list_set.proofs.Walking.{behind_node}
use Rattle.list_set.proofs.fingers.link_behind.Goals as goal

pub read_pair-owner-requires-clause-object : goal.read_pair-owner-requires-clause-object
read_pair-owner-requires-clause-object g c = omega (arith, c.objects.ensures, c.if-node-objects.false)

pub read_pair-node_key-requires-clause-object : goal.read_pair-node_key-requires-clause-object
read_pair-node_key-requires-clause-object g c =
    rw (g.met.V.View.same_state _ _ c.read_pair-owner.ensures.as_before) (omega (arith, c.objects.ensures, c.if-node-objects.false))

pub returns-then-owner-head-clause-as_before : goal.returns-then-owner-head-clause-as_before
returns-then-owner-head-clause-as_before g c =
    g.met.V.View.as_long_before _ _ _ c.read_pair-owner.ensures.as_before c.read_pair-node_key.ensures.as_before

pub returns-clause-behind : goal.returns-clause-behind
returns-clause-behind g c =
    behind_node _ _ _ _ _ _ _ _ (g.met.V.View.same_state _ _ c.read_pair-owner.ensures.as_before) c.if-node-lt-FIRST_NODE.false
    c.read_pair-owner.ensures.first c.if-owner-head.false c.read_pair-node_key.ensures.first c.if-node_key-key.false c.read_pair-node_key.ensures.second

pub returns-clause-as_before : goal.returns-clause-as_before
returns-clause-as_before g c = g.met.V.View.as_long_before _ _ _ c.read_pair-owner.ensures.as_before c.read_pair-node_key.ensures.as_before
