use Rattle.tree_balance.specs.Depths.{IsPassed}
use Rattle.tree_balance.proofs.way.find_way.Given as goal

abbrev pub invariant-loop : goal.invariant-loop
invariant-loop g l = record {
  before : g.V.View.as_before l.fn.view l.view;
  passed : IsPassed (g.V.View.state l.fn.view) l.root l.key l.node l.way.count;
}
