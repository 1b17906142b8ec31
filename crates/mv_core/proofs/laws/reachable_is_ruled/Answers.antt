use Rattle.mv_core.proofs.moves.Moving.{reached_hold}
use Rattle.mv_core.proofs.laws.reachable_is_ruled.Goals as goal

pub returns : goal.returns
returns g c = reached_hold _ _
