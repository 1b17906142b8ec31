use Rattle.list_set.specs.Filling.{IsFilled}
use Rattle.set_tests.proofs.lists.add_all.Given as goal

abbrev pub invariant-loop-i : goal.invariant-loop-i
invariant-loop-i g l = IsFilled (g.S.Section.section l.section) l.i
