use Rattle.mv_core.proofs.points.PointsHold.{write_sets_law}
use Rattle.mv_core.proofs.laws.write_sets_are_whole.Goals as goal

pub returns : goal.returns
returns g c = write_sets_law _ _
