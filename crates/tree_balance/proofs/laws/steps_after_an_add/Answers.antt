use Rattle.tree_balance.proofs.Keeping.{steps_after}
use Rattle.tree_balance.proofs.laws.steps_after_an_add.Goals as goal

pub returns : goal.returns
returns c = steps_after
