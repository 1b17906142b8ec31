use Rattle.std.proofs.Common.{[], Bool, ◌+◌, cond, sym, ap}
use Rattle.mv_history.proofs.Writing.{touches_at}
use Rattle.tree_balance.proofs.plan.WritePlan.unheld.Goals as goal

pub returns-in-Some : goal.returns-in-Some
returns-in-Some c = let t = touches_at _ _ _ (0, []) c.in-Some.ensures.0 c.in-Some.ensures.1 in sym (ap (λ (b : Bool). cond b 0 1 + 0) t)
