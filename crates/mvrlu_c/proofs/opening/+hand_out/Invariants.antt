use Rattle.std.specs.Prelude.{length}
use Rattle.mvrlu_c.proofs.opening.+hand_out.Given as goal

abbrev pub decreases-hand_out : goal.decreases-hand_out
decreases-hand_out g l = length l.handles.now
