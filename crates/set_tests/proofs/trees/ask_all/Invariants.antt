use Rattle.set_model.specs.Lawful.{IsLawful}
use Rattle.set_tests.proofs.trees.ask_all.Given as goal

abbrev pub invariant-loop-row : goal.invariant-loop-row
invariant-loop-row g l = IsLawful (g.V.View.state l.view)
