use Rattle.std.proofs.Common.{◌≡◌, ◌≤◌}
use Rattle.hash_set.specs.Buckets.{least_in}
use Rattle.hash_set.proofs.tables.next_near.Given as goal

abbrev pub invariant-loop-i : goal.invariant-loop-i
invariant-loop-i g l = record {
  before : g.V.View.as_before l.fn.view l.view;
  least : l.least ≡ least_in (g.V.View.state l.fn.view) l.set l.key l.i;
  within : l.i ≤ 16;
}
