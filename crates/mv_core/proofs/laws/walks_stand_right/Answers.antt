use Rattle.mv_core.proofs.points.Placing.{walks_stand_right}
use Rattle.mv_core.proofs.laws.walks_stand_right.Goals as goal

pub returns : goal.returns
returns g c = λ key s r. walks_stand_right r.seats r.facts
