use Rattle.std.proofs.Common.{◌≡◌, ◌+◌, length}
use Rattle.mv_history.specs.Calls.{Continues}
use Rattle.mv_client.proofs.updating.update_times.Given as goal

abbrev pub invariant-loop-nth : goal.invariant-loop-nth
invariant-loop-nth g l = record {
  continues : Continues (g.S.Store.seat_of l.fn.store) (g.S.Store.seat_of l.store);
  mine : length (g.S.Store.seat_of l.store).mine ≡ length (g.S.Store.seat_of l.fn.store).mine + l.done;
  each : l.done ≡ l._nth;
}
