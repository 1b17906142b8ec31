use Rattle.mv_core.proofs.points.Reaching.{reached_are_kept}
use Rattle.mv_core.proofs.laws.reached_slots_are_kept.Goals as goal

pub returns : goal.returns
returns g c = λ key s r. reached_are_kept r.seats r.facts
