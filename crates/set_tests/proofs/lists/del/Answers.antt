use Rattle.std.proofs.Common.{refl}
use Rattle.list_set.proofs.Filling.{filled_less}
use Rattle.set_tests.proofs.lists.del.Goals as goal

pub returns-in-List-clause-took : goal.returns-in-List-clause-took
returns-in-List-clause-took g c node inner e =
    (filled_less _ _ _ _ _ _ _ _ _ _ c.requires.filled (g.met.S.Section.reads _) refl (g.met.S.Section.reads _) (g.met.S.Section.reads _)
    (c.del_in.ensures.took node inner e).1).0

pub returns-in-Table-clause-took : goal.returns-in-Table-clause-took
returns-in-Table-clause-took g c node inner e =
    (filled_less _ _ _ _ _ _ _ _ _ _ c.requires.filled (g.met.S.Section.reads _) refl (g.met.S.Section.reads _) (g.met.S.Section.reads _)
    (c.del_in-in-Table.ensures.took node inner e).1).0
