use Rattle.grow_hash.proofs.Terms.{ℕ, IsFree, ◌<◌, ◌≤◌}
use Rattle.grow_hash.proofs.search.vacant_between.Given as goal

abbrev pub invariant-loop-object : goal.invariant-loop-object
invariant-loop-object g l = record {
  before : g.V.View.as_before l.fn.view l.view;
  none : (o : ℕ) → l.from ≤ o → o < l.object → IsFree g.row.LEVELS (g.V.View.state l.fn.view) o → ⊥;
}
