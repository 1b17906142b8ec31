use Rattle.tree_balance.proofs.Fitting.{adds_are_fit}
use Rattle.tree_balance.proofs.laws.adds_with_steps_are_fit.Goals as goal

pub returns : goal.returns
returns c = adds_are_fit
