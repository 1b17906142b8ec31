use Rattle.mv_history.specs.Calls.{Continues}
use Rattle.grow_tests.proofs.steps.split_all.Given as goal

abbrev pub invariant-loop-number : goal.invariant-loop-number
invariant-loop-number g l = Continues (g.S.Store.seat_of l.fn.store) (g.S.Store.seat_of l.store)
