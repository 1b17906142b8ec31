use Rattle.std.proofs.Common.{◌≡◌}
use Rattle.mv_history.specs.Meaning.{words_at}
use Rattle.tree_set.specs.Nodes.{IsNodeAt, branch_words}
use Rattle.tree_set.specs.Walks.{IsDescending, walk_left}
use Rattle.tree_set.proofs.search.descend.Given as goal

abbrev pub invariant-loop-node : goal.invariant-loop-node
invariant-loop-node g l = record {
  before : g.V.View.as_before l.fn.view l.view;
  node : IsNodeAt (g.V.View.state l.fn.view) l.leaf l.node;
  descending : IsDescending (g.V.View.state l.fn.view) l.root l.key l.grand l.parent l.leaf l.right;
  parent : branch_words l.root l.parent l.parent_node ≡ words_at (g.V.View.state l.fn.view) l.parent;
  grand : branch_words l.root l.grand l.grand_node ≡ words_at (g.V.View.state l.fn.view) l.grand;
}

abbrev pub decreases-loop-node : goal.decreases-loop-node
decreases-loop-node g l = walk_left (g.V.View.state l.fn.view) l.leaf
