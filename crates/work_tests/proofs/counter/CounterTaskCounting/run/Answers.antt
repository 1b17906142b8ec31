use Rattle.std.proofs.Common.{arith}
use Rattle.mv_history.proofs.Steps.{Continues-Continues}
use Rattle.work_runner.proofs.Works.{linked_continues}
use Rattle.work_tests.specs.Counting.{count_meaning}
use Rattle.work_tests.proofs.counter.CounterTaskCounting.run.Goals as goal

pub run_item-place-requires-clause-ready : goal.run_item-place-requires-clause-ready
run_item-place-requires-clause-ready g c = record { most = λ w a. c.loop.invariant.may; known = tt }

pub loop-preserved : goal.loop-preserved
loop-preserved g c =
    let on = linked_continues _ count_meaning _ _ _ _ c.run_item-place.ensures.link in
    record { continues = Continues-Continues c.loop.invariant.continues on; may = omega (arith, c.loop.invariant.may, on.write_max) }
