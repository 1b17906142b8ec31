use Rattle.mv_core.proofs.Homes.{homes_apart}
use Rattle.mv_core.proofs.opening.homes_are_apart.Goals as goal

pub returns : goal.returns
returns c = homes_apart
