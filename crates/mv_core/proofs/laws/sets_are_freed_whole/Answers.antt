use Rattle.mv_core.proofs.points.PointsHold.{frees_law}
use Rattle.mv_core.proofs.laws.sets_are_freed_whole.Goals as goal

pub returns : goal.returns
returns g c = frees_law _ _
