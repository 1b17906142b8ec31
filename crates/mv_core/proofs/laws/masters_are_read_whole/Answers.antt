use Rattle.mv_core.proofs.points.Placing.{masters_are_read}
use Rattle.mv_core.proofs.laws.masters_are_read_whole.Goals as goal

pub returns : goal.returns
returns g c = λ key s r. masters_are_read r.seats r.facts
