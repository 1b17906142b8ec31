use Rattle.std.proofs.Common.{◌≡◌, ◌≤◌, ◌+◌, ◌++◌, length, map, vec_len, vec_capacity}
use Rattle.domain_run.proofs.workers.pair_up.Given as goal

abbrev pub invariant-loop-workers : goal.invariant-loop-workers
invariant-loop-workers g l = record {
  stores : map (λ w. w.store) l.workers.items ++ l.stores.items ≡ l.initial.stores.items;
  tasks : map (λ w. w.task) l.workers.items ++ l.tasks.items ≡ l.initial.tasks.items;
  as_many : length l.tasks.items ≡ length l.stores.items;
  room : length l.workers.items + length l.stores.items ≤ vec_capacity l.workers;
  first : vec_capacity l.stores ≡ vec_capacity l.initial.stores;
  second : vec_capacity l.tasks ≡ vec_capacity l.initial.tasks;
}

abbrev pub decreases-loop-workers : goal.decreases-loop-workers
decreases-loop-workers g l = vec_len l.stores
