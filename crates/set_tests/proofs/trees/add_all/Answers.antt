use Rattle.std.proofs.Common.{refl, arith}
use Rattle.tree_set.proofs.Filling.{add_room, filled_more}
use Rattle.set_tests.proofs.trees.add_all.Goals as goal

pub add_in-requires-clause-room : goal.add_in-requires-clause-room
add_in-requires-clause-room g c writes add =
    add_room _ _ _ _ _ _ _ writes c.loop-i.invariant (let a = c.loop-i-test.true in let b = c.requires.few in omega arith) add

pub loop-i-preserved : goal.loop-i-preserved
loop-i-preserved g c =
    filled_more _ _ _ _ _ _ _ _ _ c.requires.root_in c.loop-i.invariant refl (omega arith) refl (c.in-Yes.ensures.yes refl)
