use Rattle.std.proofs.Common.{◌*◌, ◌≤◌, length}
use Rattle.set_catalog.specs.Readings.{HasHeads}
use Rattle.set_catalog.proofs.reading.read_trees.Given as goal

-- the trees before this root were read
abbrev pub invariant-loop-root : goal.invariant-loop-root
invariant-loop-root g l = record {
  before : g.V.View.as_before l.fn.view l.view;
  places : length (g.V.View.state l.fn.view) ≤ 2 * length l.pending;
  read : HasHeads (g.V.View.state l.fn.view) l.root l.all;
}
