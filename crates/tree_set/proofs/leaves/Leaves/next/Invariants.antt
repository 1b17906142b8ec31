use Rattle.std.proofs.Common.{◌≡◌, ◌≢◌}
use Rattle.mv_history.specs.Meaning.{words_at}
use Rattle.set_model.specs.Catalogue.{Map}
use Rattle.tree_set.specs.Leaves.{IsWalk}
use Rattle.tree_set.specs.Walks.{walk_left}
use Rattle.tree_set.proofs.leaves.Leaves.next.Given as goal

abbrev pub invariant-loop-words : goal.invariant-loop-words
invariant-loop-words g l = record {
  before : g.V.View.as_before l.fn.view l.view;
  some : l.self.node ≢ 0;
  words : l.words ≡ words_at (g.V.View.state l.fn.view) l.self.node;
  there : (m : Map) × IsWalk (g.V.View.state l.fn.view) l.pending l.self.node l.self.held m;
  walk : (m : Map) → IsWalk (g.V.View.state l.fn.view) l.fn.pending l.fn.self.node l.fn.self.held m →
      IsWalk (g.V.View.state l.fn.view) l.pending l.self.node l.self.held m;
}

abbrev pub decreases-loop-words : goal.decreases-loop-words
decreases-loop-words g l = walk_left (g.V.View.state l.fn.view) l.self.node
