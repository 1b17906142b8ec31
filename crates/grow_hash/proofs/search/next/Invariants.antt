use Rattle.grow_hash.proofs.Terms.{buckets, ◌≤◌}
use Rattle.grow_hash.proofs.NextKeys.{LeastOf}
use Rattle.grow_hash.proofs.search.next.Given as goal

abbrev pub invariant-loop-bucket : goal.invariant-loop-bucket
invariant-loop-bucket g l = record {
  before : g.V.View.as_before l.fn.view l.view;
  least : LeastOf g.row.LEVELS (g.V.View.state l.fn.view) l.key l.bucket l.least;
  within : l.bucket ≤ buckets (g.V.View.state l.fn.view);
}
