use Rattle.std.proofs.Common.{◌∙◌, ap, length, arith}
use Rattle.domain_loan.proofs.Moves.{first_of, moved}
use Rattle.domain_run.proofs.workers.pair_up.Goals as goal

-- there is a task for each store
pub remove-requires-in-loop-workers : goal.remove-requires-in-loop-workers
remove-requires-in-loop-workers g c =
    let l = c.loop-workers in
    omega (arith, c.remove.ensures.len, l.stores.ok.0, l.tasks.ok.0, l.invariant.as_many)

pub loop-workers-preserved : goal.loop-workers-preserved
loop-workers-preserved g c =
    let l = c.loop-workers in
    let store = c.remove in
    let task = c.remove-in-loop-workers in
    let first = first_of l.stores.items store.new.self.items store.result (omega (arith, store.ensures.len, l.stores.ok.0)) store.ensures.value
    store.ensures.items in
    let also = first_of l.tasks.items task.new.self.items task.result (omega (arith, task.ensures.len, l.tasks.ok.0)) task.ensures.value
    task.ensures.items in
    let last = c.push_reserved.ensures.items in
    record {
      stores = rw last (moved (λ w. w.store) l.workers.items _ _ _ first ∙ l.invariant.stores);
      tasks = rw last (moved (λ w. w.task) l.workers.items _ _ _ also ∙ l.invariant.tasks);
      as_many = omega (arith, ap length first, ap length also, l.invariant.as_many);
      room = omega (
        arith,
        c.push_reserved.ensures.len,
        l.workers.ok.0,
        c.push_reserved.new.self.ok.0,
        ap length first,
        l.invariant.room,
        c.push_reserved.ensures.capacity,
      );
      first = store.ensures.capacity ∙ l.invariant.first;
      second = task.ensures.capacity ∙ l.invariant.second;
    }
