use Rattle.std.proofs.Common.{refl, arith}
use Rattle.tree_set.proofs.Filling.{add_room, filled_same}
use Rattle.set_tests.proofs.trees.add_again.Goals as goal

pub add_in-requires-clause-leaf_vacant : goal.add_in-requires-clause-leaf_vacant
add_in-requires-clause-leaf_vacant g c = c.requires.filled.vacant 190 (omega arith)

pub add_in-requires-clause-inner_vacant : goal.add_in-requires-clause-inner_vacant
add_in-requires-clause-inner_vacant g c _ =
    let f = c.requires.filled in
    (omega arith, omega (arith, f.objects), f.vacant 191 (omega arith), omega arith)

pub add_in-requires-clause-room : goal.add_in-requires-clause-room
add_in-requires-clause-room g c writes add = add_room _ _ _ _ _ _ _ writes c.requires.filled (omega arith) add

pub returns : goal.returns
returns g c _ = filled_same _ _ _ _ (g.met.S.Section.lawful _).at (g.met.S.Section.others_stay _ _ (c.in-No.ensures.unchanged refl)) c.requires.filled
