use Rattle.std.proofs.Common.{◌*◌, ◌≤◌, length}
use Rattle.set_model.specs.Catalogue.{Map}
use Rattle.tree_balance.specs.tree_set.Leaves.{Passes, leaves_left}
use Rattle.set_catalog.proofs.HeadReads.{HasPart}
use Rattle.set_catalog.proofs.reading.read_tree.Given as goal

-- the leaves before those that are left were read
abbrev pub invariant-loop-leaf : goal.invariant-loop-leaf
invariant-loop-leaf g l = record {
  before : g.V.View.as_before l.fn.view l.view;
  places : length (g.V.View.state l.fn.view) ≤ 2 * length l.pending;
  left : (m : Map) × Passes (g.V.View.state l.fn.view) l.pending l.leaves m × HasPart (g.V.View.state l.fn.view) l.root m l.all;
}

abbrev pub decreases-loop-leaf : goal.decreases-loop-leaf
decreases-loop-leaf g l = leaves_left (g.V.View.state l.fn.view) l.pending l.leaves.node l.leaves.held
