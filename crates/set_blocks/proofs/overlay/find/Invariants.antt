use Rattle.set_blocks.proofs.Terms.{false, take, touches, ◌≡◌}
use Rattle.set_blocks.proofs.overlay.find.Given as goal

abbrev pub invariant-loop-i : goal.invariant-loop-i
invariant-loop-i l = touches (take l.i l.writes) l.object ≡ false
