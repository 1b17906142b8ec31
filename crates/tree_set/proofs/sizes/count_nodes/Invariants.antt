use Rattle.tree_set.proofs.NodeCounts.{CountsBefore}
use Rattle.tree_set.proofs.sizes.count_nodes.Given as goal

-- the leaves among the nodes before this object were counted
abbrev pub invariant-loop-object : goal.invariant-loop-object
invariant-loop-object g l = record {
  before : g.V.View.as_before l.fn.view l.view;
  counted : CountsBefore (g.V.View.state l.fn.view) l.root l.object l.count;
}
