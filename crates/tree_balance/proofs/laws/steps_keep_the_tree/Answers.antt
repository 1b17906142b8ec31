use Rattle.tree_balance.proofs.Keeping.{steps_keep}
use Rattle.tree_balance.proofs.laws.steps_keep_the_tree.Goals as goal

pub returns : goal.returns
returns c = steps_keep
