use Rattle.std.proofs.Common.{refl, arith}
use Rattle.list_set.proofs.Filling.{filled_more}
use Rattle.set_tests.proofs.lists.add.Goals as goal

pub returns-in-List-clause-yes : goal.returns-in-List-clause-yes
returns-in-List-clause-yes g c e = filled_more _ _ _ _ _ _ _ _ (omega arith) c.requires.filled refl refl (c.add_in.ensures.yes e)

pub returns-in-Table-clause-yes : goal.returns-in-Table-clause-yes
returns-in-Table-clause-yes g c e = filled_more _ _ _ _ _ _ _ _ (omega arith) c.requires.filled refl refl (c.add_in-in-Table.ensures.yes e)
