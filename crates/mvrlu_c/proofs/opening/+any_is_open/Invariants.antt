use Rattle.std.specs.Prelude.{length}
use Rattle.mvrlu_c.proofs.opening.+any_is_open.Given as goal

abbrev pub decreases-any_is_open : goal.decreases-any_is_open
decreases-any_is_open g l = length l.handles.now
