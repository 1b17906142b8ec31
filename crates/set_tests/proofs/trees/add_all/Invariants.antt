use Rattle.tree_set.specs.Filling.{IsFilled}
use Rattle.set_tests.proofs.trees.add_all.Given as goal

abbrev pub invariant-loop-i : goal.invariant-loop-i
invariant-loop-i g l = IsFilled (g.S.Section.section l.section) l.root l.i
