use Rattle.grow_hash.proofs.Terms.{buckets, ◌≤◌}
use Rattle.grow_hash.proofs.Sizes.{CountsFirst}
use Rattle.grow_hash.proofs.search.size.Given as goal

abbrev pub invariant-loop-bucket : goal.invariant-loop-bucket
invariant-loop-bucket g l = record {
  before : g.V.View.as_before l.fn.view l.view;
  count : CountsFirst (g.V.View.state l.fn.view) l.bucket l.count;
  within : l.bucket ≤ buckets (g.V.View.state l.fn.view);
}
