use Rattle.mv_core.specs.Views.{parts_of}
use Rattle.mv_core.proofs.points.PointsHold.{earlier_are_stamped}
use Rattle.mv_core.proofs.laws.earlier_commits_are_stamped.Goals as goal

pub returns : goal.returns
returns g c = λ key s r. earlier_are_stamped _ _ key.config key.start.value.items r.memory r.history (parts_of r.seats) r.facts
