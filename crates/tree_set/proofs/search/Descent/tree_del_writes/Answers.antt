use Rattle.std.proofs.Common.{refl}
use Rattle.tree_set.proofs.Planning.{cut_here}
use Rattle.tree_set.proofs.search.Descent.tree_del_writes.Goals as goal

pub returns-clause-writes : goal.returns-clause-writes
returns-clause-writes c s root k h =
    cut_here s _ _ _ _ _ _ _ h.words.grand h.words.parent c.other_child-sibling.ensures
    c.redirected-grand_words.ensures

pub returns-clause-objects : goal.returns-clause-objects
returns-clause-objects c = refl
