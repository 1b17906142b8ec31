use Rattle.std.proofs.Common.{◌≡◌, ◌≤◌}
use Rattle.grow_hash.proofs.Terms.{length, take, walk_left, IsCount, IsRead}
use Rattle.grow_hash.proofs.bucket.read_bucket.Given as goal

abbrev pub invariant-loop-node : goal.invariant-loop-node
invariant-loop-node g l = record {
  before : g.V.View.as_before l.fn.view l.view;
  count : IsCount (g.V.View.state l.fn.view) l.head l.node l.keys;
  whole : length l.nodes ≡ 61;
  read : l.keys ≤ 61 → IsRead (g.V.View.state l.fn.view) l.head (take l.keys l.nodes) l.node;
}

abbrev pub decreases-loop-node : goal.decreases-loop-node
decreases-loop-node g l = walk_left (g.V.View.state l.fn.view) l.node
