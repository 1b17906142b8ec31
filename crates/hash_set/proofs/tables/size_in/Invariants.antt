use Rattle.std.proofs.Common.{◌≡◌, ◌≤◌}
use Rattle.hash_set.specs.Buckets.{count_in}
use Rattle.hash_set.proofs.tables.size_in.Given as goal

abbrev pub invariant-loop-i : goal.invariant-loop-i
invariant-loop-i g l = record {
  before : g.V.View.as_before l.fn.view l.view;
  count : l.count ≡ count_in (g.V.View.state l.fn.view) l.set l.i;
  within : l.i ≤ 16;
}
