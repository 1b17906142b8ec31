use Rattle.mv_core.proofs.moves.Moving.{opening_holds}
use Rattle.mv_core.proofs.laws.opening_is_ruled.Goals as goal

pub returns : goal.returns
returns g c = opening_holds _ _
