use Rattle.std.proofs.Common.{◌≡◌, ℕ, ◌<◌, ◌≤◌}
use Rattle.set_catalog.specs.Picks.{IsVacant}
use Rattle.set_catalog.proofs.picks.vacant_between.Given as goal

abbrev pub invariant-loop-object : goal.invariant-loop-object
invariant-loop-object g l = record {
  before : g.V.View.as_before l.fn.view l.view;
  none : (o : ℕ) → l.from ≤ o → o < l.object → IsVacant (g.V.View.state l.fn.view) o → o ≡ l.but;
}
