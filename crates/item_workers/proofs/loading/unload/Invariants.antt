use Rattle.item_workers.proofs.Terms.{◌≡◌, ◌≤◌, ◌+◌, ◌++◌, map, length, vec_len, vec_capacity, stands_at, source_of, answers_of}
use Rattle.item_workers.proofs.loading.unload.Given as goal

abbrev pub invariant-loop-workers : goal.invariant-loop-workers
invariant-loop-workers g l = record {
  seats : map g.W.Runner.seat_in l.stores.items ++ map (stands_at g.W.Runner.kept_of g.W.Runner.seat_of) l.workers.items
      ≡ map (stands_at g.W.Runner.kept_of g.W.Runner.seat_of) l.initial.workers.items;
  sources : l.sources.items ++ map source_of l.workers.items ≡ map source_of l.initial.workers.items;
  answers : l.answers.items ++ map answers_of l.workers.items ≡ map answers_of l.initial.workers.items;
  places : length l.stores.items + length l.workers.items ≤ vec_capacity l.stores;
  left : length l.sources.items + length l.workers.items ≤ vec_capacity l.sources;
  room : length l.answers.items + length l.workers.items ≤ vec_capacity l.answers;
}

abbrev pub decreases-loop-workers : goal.decreases-loop-workers
decreases-loop-workers g l = vec_len l.workers
