use Rattle.std.proofs.Common.{arith, []}
use Rattle.tree_set.proofs.LeafWalks.{walk_start, walk_fits}
use Rattle.tree_set.proofs.leaves.Leaves.of.Goals as goal

pub overflow_cast-node : goal.overflow_cast-node
overflow_cast-node g c =
    let lt = walk_fits _ c.requires.lawful [] _ 0 _ (walk_start _ _ _ [] c.requires.lawful c.requires.root_from c.requires.root_in c.read.ensures.words) in
    omega arith

pub returns-clause-walk : goal.returns-clause-walk
returns-clause-walk g c table = walk_start _ _ _ table c.requires.lawful c.requires.root_from c.requires.root_in c.read.ensures.words
