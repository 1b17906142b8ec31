use Rattle.tree_set.proofs.Filling.{filled_view}
use Rattle.set_tests.proofs.trees.clear.Goals as goal

pub returns : goal.returns
returns g c e = (filled_view _ _ _ _ (c.take_out-2.ensures e) (g.met.S.Section.reads _)).0
