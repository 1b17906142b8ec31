use Rattle.mv_core.proofs.points.HelpedStamps.{helped_law}
use Rattle.mv_core.proofs.helping.helped_are_stamped.Goals as goal

pub returns : goal.returns
returns g c = helped_law _ _
