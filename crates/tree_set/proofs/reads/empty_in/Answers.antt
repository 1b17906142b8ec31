use Rattle.tree_set.proofs.Descents.{link_empty}
use Rattle.tree_set.proofs.reads.empty_in.Goals as goal

pub returns-clause-empty : goal.returns-clause-empty
returns-clause-empty g c =
    link_empty _ _ _ c.requires.lawful c.requires.root_from c.requires.root_in c.read.ensures.words
