use Rattle.std.proofs.Common.{refl, arith}
use Rattle.tree_set.proofs.Filling.{del_room, filled_less, filled_same}
use Rattle.set_tests.proofs.trees.take_out.Goals as goal

pub del_in-requires-2-clause-room : goal.del_in-requires-2-clause-room
del_in-requires-2-clause-room g c leaf inner writes del =
    let f = filled_less _ _ _ _ _ _ _ c.requires.root_in c.requires.filled (c.in-Took.ensures.took _ _ refl) in
    del_room _ _ _ _ leaf inner writes f (omega arith) del

pub returns-then-node-leaf : goal.returns-then-node-leaf
returns-then-node-leaf g c _ =
    let f = filled_less _ _ _ _ _ _ _ c.requires.root_in c.requires.filled (c.in-Took.ensures.took _ _ refl) in
    filled_same _ _ _ _ (g.met.S.Section.lawful _).at (g.met.S.Section.others_stay _ _ (c.in-Absent.ensures.unchanged refl)) f
