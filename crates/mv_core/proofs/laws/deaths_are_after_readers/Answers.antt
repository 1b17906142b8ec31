use Rattle.mv_core.proofs.points.Reaching.{reached_before_death}
use Rattle.mv_core.proofs.laws.deaths_are_after_readers.Goals as goal

pub returns : goal.returns
returns g c = λ key s r. reached_before_death r.seats r.facts
