use Rattle.std.proofs.Common.{refl}
use Rattle.tree_set.proofs.Found.{found_words, grow_made}
use Rattle.tree_set.proofs.search.Descent.grow_writes.Goals as goal

pub returns-clause-writes : goal.returns-clause-writes
returns-clause-writes c s h =
    grow_made s _ _ _ _ _ _ _ _ _ _ _ (found_words s s _ _ _ _ _ _ _ refl h.ends) h.words.parent
    c.redirected-parent_words.ensures c.over-inner_words.ensures

pub returns-clause-objects : goal.returns-clause-objects
returns-clause-objects c = refl
