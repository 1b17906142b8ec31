use Rattle.std.proofs.Common.{◌≡◌}
use Rattle.mv_history.specs.Calls.{Continues}
use Rattle.mv_client.proofs.updating.until.Given as goal

abbrev pub invariant-loop : goal.invariant-loop
invariant-loop g l = record {
  continues : Continues (g.S.Store.seat_of l.fn.store) (g.S.Store.seat_of l.store);
  mine : (g.S.Store.seat_of l.store).mine ≡ (g.S.Store.seat_of l.fn.store).mine;
}
