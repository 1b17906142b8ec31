use Rattle.tree_balance.specs.Drafts.{writes_in, Extends}
use Rattle.tree_balance.proofs.plan.WritePlan.take_all.Given as goal

abbrev pub invariant-loop-step : goal.invariant-loop-step
invariant-loop-step g l = record {
  before : g.V.View.as_before l.fn.view l.view;
  extends : Extends (g.V.View.state l.fn.view) l.root l.limit (writes_in l.fn.self) (writes_in l.self);
}
