use Rattle.mv_core.proofs.points.PointsHold.{history_law}
use Rattle.mv_core.proofs.laws.history_is_one.Goals as goal

pub returns : goal.returns
returns g c = history_law _ _
