use Rattle.std.proofs.Common.{refl}
use Rattle.tree_set.proofs.Found.{found_words, put_made}
use Rattle.tree_set.proofs.search.Descent.put_writes.Goals as goal

pub returns-clause-writes : goal.returns-clause-writes
returns-clause-writes c s root k h =
    put_made s _ _ _ (found_words s s _ _ _ _ _ _ _ refl h.ends)

pub returns-clause-objects : goal.returns-clause-objects
returns-clause-objects c = refl
