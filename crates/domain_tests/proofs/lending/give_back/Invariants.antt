use Rattle.std.proofs.Common.{◌≡◌, ◌+◌, ◌≤◌}
use Rattle.std.specs.Vec.{vec_len, vec_capacity}
use Rattle.mvrlu.specs.Meant.{numbers_of, seat_of}
use Rattle.mvrlu.specs.Orders.{AreRising, AreFalling}
use Rattle.domain_tests.specs.Clients.{seat_in}
use Rattle.domain_tests.proofs.lending.give_back.Given as goal

abbrev pub invariant-loop-client : goal.invariant-loop-client
invariant-loop-client l = record {
  many : vec_len l.clients + vec_len l.seats ≡ (numbers_of l.domain).seats;
  falling : AreFalling seat_in l.domain (numbers_of l.domain).seats l.clients.items;
  rising : AreRising seat_of l.domain l.seats.items;
  room : vec_len l.clients + vec_len l.seats ≤ vec_capacity l.seats;
  kept : vec_capacity l.clients ≡ vec_capacity l.fn.clients;
}

abbrev pub decreases-loop-client : goal.decreases-loop-client
decreases-loop-client l = vec_len l.clients
