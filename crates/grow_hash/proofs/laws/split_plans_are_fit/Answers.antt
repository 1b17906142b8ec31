use Rattle.grow_hash.proofs.split.Fits.{split_fit, plan_grown, plan_leaves}
use Rattle.grow_hash.proofs.laws.split_plans_are_fit.Goals as goal

pub returns : goal.returns
returns c = record { fit = split_fit; lawful = plan_grown; leaves = plan_leaves }
