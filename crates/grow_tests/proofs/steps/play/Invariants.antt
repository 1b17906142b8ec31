use Rattle.mv_history.specs.Calls.{Continues}
use Rattle.grow_tests.proofs.steps.play.Given as goal

abbrev pub invariant-loop-step : goal.invariant-loop-step
invariant-loop-step g l = Continues (g.S.Store.seat_of l.fn.store) (g.S.Store.seat_of l.store)
