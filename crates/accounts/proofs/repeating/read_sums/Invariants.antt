use Rattle.std.specs.Vec.{vec_capacity}
use Rattle.accounts.proofs.Terms.{length, All, Continues, total, ReadsEach, ◌≡◌, ◌≤◌}
use Rattle.accounts.proofs.repeating.read_sums.Given as goal

abbrev pub invariant-loop-nth : goal.invariant-loop-nth
invariant-loop-nth g l = record {
  continues : Continues (g.S.Store.seat_of l.fn.store) (g.S.Store.seat_of l.store);
  mine : (g.S.Store.seat_of l.store).mine ≡ (g.S.Store.seat_of l.fn.store).mine;
  many : length l.read.items ≡ l._nth;
  room : l.sums ≤ vec_capacity l.read;
  each : ReadsEach g.S.Store.took (g.S.Store.seat_of l.fn.store) (g.S.Store.seat_of l.store) l.read.items;
  same : All (λ sum. sum.total ≡ total (g.S.Store.seat_of l.fn.store).start) l.read.items;
}
