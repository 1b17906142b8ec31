use Rattle.grow_hash.proofs.GrowFits.{plan_fit}
use Rattle.grow_hash.proofs.laws.grow_plans_are_fit.Goals as goal

pub returns : goal.returns
returns c = plan_fit
