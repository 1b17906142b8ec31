use Rattle.std.proofs.Common.{◌≡◌, false, take}
use Rattle.mv_history.specs.State.{touches}
use Rattle.plain_store.proofs.section.find.Given as goal

abbrev pub invariant-loop-i : goal.invariant-loop-i
invariant-loop-i l = touches (take l.i l.own) l.object ≡ false
