use Rattle.std.proofs.Common.{◌≤◌}
use Rattle.mv_history.specs.Calls.{Continues}
use Rattle.work_tests.proofs.counter.CounterTaskCounting.run.Given as goal

abbrev pub invariant-loop : goal.invariant-loop
invariant-loop g l = record {
  continues : Continues (g.S.Store.seat_of l.fn.store) (g.S.Store.seat_of l.doing.store);
  may : 1 ≤ (g.S.Store.seat_of l.doing.store).write_max;
}
