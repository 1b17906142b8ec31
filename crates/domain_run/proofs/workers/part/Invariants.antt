use Rattle.std.proofs.Common.{◌≡◌, ◌≤◌, ◌+◌, ◌++◌, length, map, vec_len, vec_capacity}
use Rattle.domain_run.proofs.workers.part.Given as goal

abbrev pub invariant-loop-workers : goal.invariant-loop-workers
invariant-loop-workers g l = record {
  stores : l.stores.items ++ map (λ w. w.store) l.workers.items ≡ map (λ w. w.store) l.initial.workers.items;
  tasks : l.tasks.items ++ map (λ w. w.task) l.workers.items ≡ map (λ w. w.task) l.initial.workers.items;
  first : length l.stores.items + length l.workers.items ≤ vec_capacity l.stores;
  second : length l.tasks.items + length l.workers.items ≤ vec_capacity l.tasks;
}

abbrev pub decreases-loop-workers : goal.decreases-loop-workers
decreases-loop-workers g l = vec_len l.workers
