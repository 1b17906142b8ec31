use Rattle.std.proofs.Common.{refl}
use Rattle.tree_set.proofs.Planning.{bare_here}
use Rattle.tree_set.proofs.search.Descent.bare_writes.Goals as goal

pub returns-clause-writes : goal.returns-clause-writes
returns-clause-writes c s k h =
    bare_here s _ _ _ _ _ _ _ h.ends

pub returns-clause-objects : goal.returns-clause-objects
returns-clause-objects c = refl
