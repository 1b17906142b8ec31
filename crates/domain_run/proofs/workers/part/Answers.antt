use Rattle.std.proofs.Common.{◌∙◌, ap, length, map, arith}
use Rattle.domain_loan.proofs.Moves.{first_of, put}
use Rattle.domain_run.proofs.workers.part.Goals as goal

pub loop-workers-preserved : goal.loop-workers-preserved
loop-workers-preserved g c =
    let l = c.loop-workers in
    let worker = c.remove-store in
    let first = first_of l.workers.items worker.new.self.items worker.result (omega (arith, worker.ensures.len, l.workers.ok.0)) worker.ensures.value
    worker.ensures.items in
    let stores = c.push_reserved in
    let tasks = c.push_reserved-in-loop-workers in
    record {
      stores = rw stores.ensures.items (put l.stores.items _ _ _ (ap (map (λ w. w.store)) first) ∙ l.invariant.stores);
      tasks = rw tasks.ensures.items (put l.tasks.items _ _ _ (ap (map (λ w. w.task)) first) ∙ l.invariant.tasks);
      first = omega (arith, stores.ensures.len, l.stores.ok.0, stores.new.self.ok.0, ap length first, l.invariant.first, stores.ensures.capacity);
      second = omega (arith, tasks.ensures.len, l.tasks.ok.0, tasks.new.self.ok.0, ap length first, l.invariant.second, tasks.ensures.capacity);
    }
