use Rattle.mv_core.proofs.points.Placing.{backs_hold}
use Rattle.mv_core.proofs.laws.write_backs_are_last.Goals as goal

pub returns : goal.returns
returns g c = λ key s r. backs_hold r.seats r.facts
