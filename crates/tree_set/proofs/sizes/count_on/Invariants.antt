use Rattle.std.proofs.Common.{suc, ◌-◌}
use Rattle.set_model.specs.Catalogue.{Map}
use Rattle.tree_set.specs.Leaves.{IsWalk}
use Rattle.tree_set.proofs.LeafWalks.{IsUnderWay}
use Rattle.tree_set.proofs.sizes.count_on.Given as goal
use Rattle.set_model.specs.Objects.{most_objects}

-- the walk passed so many of the entries that it had to pass
abbrev pub invariant-loop-count : goal.invariant-loop-count
invariant-loop-count g l = record {
  before : g.V.View.as_before l.fn.view l.view;
  walk : (m : Map) → IsWalk (g.V.View.state l.fn.view) l.fn.pending l.fn.leaves.node l.fn.leaves.held m →
      IsUnderWay (g.V.View.state l.fn.view) l.pending l.leaves.node l.leaves.held m l.count;
}

abbrev pub decreases-loop-count : goal.decreases-loop-count
decreases-loop-count g l = suc most_objects - l.count
