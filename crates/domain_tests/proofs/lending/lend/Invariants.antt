use Rattle.std.proofs.Common.{◌≡◌, ◌+◌, ◌≤◌}
use Rattle.std.specs.Vec.{vec_len, vec_capacity}
use Rattle.mvrlu.specs.Meant.{numbers_of, seat_of}
use Rattle.mvrlu.specs.Orders.{AreRising, AreFalling}
use Rattle.domain_tests.specs.Clients.{seat_in}
use Rattle.domain_tests.proofs.lending.lend.Given as goal

abbrev pub invariant-loop-seat : goal.invariant-loop-seat
invariant-loop-seat l = record {
  many : vec_len l.seats + vec_len l.clients ≡ (numbers_of l.domain).seats;
  rising : AreRising seat_of l.domain l.seats.items;
  falling : AreFalling seat_in l.domain (numbers_of l.domain).seats l.clients.items;
  room : vec_len l.seats + vec_len l.clients ≤ vec_capacity l.clients;
  kept : vec_capacity l.seats ≡ vec_capacity l.fn.seats;
  kept_left : vec_capacity l.clients ≡ vec_capacity l.fn.clients;
}

abbrev pub decreases-loop-seat : goal.decreases-loop-seat
decreases-loop-seat l = vec_len l.seats
