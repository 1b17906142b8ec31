use Rattle.tree_set.proofs.Found.{tree_add_made}
use Rattle.tree_set.proofs.writes.tree_add_writes.Goals as goal

pub returns-clause-writes : goal.returns-clause-writes
returns-clause-writes c s l e =
    tree_add_made s _ _ _ _ l c.requires.root_from c.requires.root_in e
