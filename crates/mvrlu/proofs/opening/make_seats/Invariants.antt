use Rattle.std.proofs.Common.{◌≡◌, ◌+◌, ◌≤◌}
use Rattle.std.specs.Vec.{vec_len, vec_capacity}
use Rattle.object_lock.specs.mv_core.Passes.{config_of}
use Rattle.mvrlu.specs.Readiness.{AreReady, AreSeats}
use Rattle.mvrlu.proofs.opening.make_seats.Given as goal

abbrev pub invariant-loop-last : goal.invariant-loop-last
invariant-loop-last g l = record {
  count : vec_len l.ready + vec_len l.seats ≡ (config_of l.shared).seats;
  ready : AreReady l.shared l.ready.items;
  seats : AreSeats l.shared l.seats.items;
  room : vec_len l.ready + vec_len l.seats ≤ vec_capacity l.seats;
}

abbrev pub decreases-loop-last : goal.decreases-loop-last
decreases-loop-last g l = vec_len l.ready
