use Rattle.mv_core.proofs.points.PointsHold.{positions_bounded_law}
use Rattle.mv_core.proofs.laws.positions_are_bounded.Goals as goal

pub returns : goal.returns
returns g c = positions_bounded_law _ _
