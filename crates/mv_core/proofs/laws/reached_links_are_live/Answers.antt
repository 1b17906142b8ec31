use Rattle.mv_core.proofs.points.Reaching.{reached_are_live}
use Rattle.mv_core.proofs.laws.reached_links_are_live.Goals as goal

pub returns : goal.returns
returns g c = λ key s r. reached_are_live r.seats r.facts
