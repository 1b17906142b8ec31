use Rattle.mv_core.proofs.points.Chaining.{chains_hold}
use Rattle.mv_core.proofs.laws.chains_are_latest_writes.Goals as goal

pub returns : goal.returns
returns g c = λ key s r. chains_hold r.seats r.facts
