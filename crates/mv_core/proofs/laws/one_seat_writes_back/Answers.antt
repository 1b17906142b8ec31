use Rattle.mv_core.proofs.points.PointsHold.{one_writes_back}
use Rattle.mv_core.proofs.laws.one_seat_writes_back.Goals as goal

pub returns : goal.returns
returns g c = λ key s r. one_writes_back _ _ key.config key.start.value.items r.memory r.history r.seats r.facts
