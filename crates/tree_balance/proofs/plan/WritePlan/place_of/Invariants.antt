use Rattle.std.proofs.Common.{◌≡◌, take, false}
use Rattle.mv_history.specs.State.{touches}
use Rattle.tree_balance.proofs.plan.WritePlan.place_of.Given as goal

abbrev pub invariant-loop-i : goal.invariant-loop-i
invariant-loop-i l = touches (take l.i l.writes) l.object ≡ false
