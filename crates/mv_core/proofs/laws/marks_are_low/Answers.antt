use Rattle.mv_core.proofs.points.PointsHold.{marks_law}
use Rattle.mv_core.proofs.laws.marks_are_low.Goals as goal

pub returns : goal.returns
returns g c = marks_law _ _
