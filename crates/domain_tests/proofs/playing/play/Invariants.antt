use Rattle.std.proofs.Common.{◌≡◌}
use Rattle.std.specs.Vec.{vec_len, vec_capacity}
use Rattle.mvrlu.specs.Meant.{numbers_of}
use Rattle.mvrlu.specs.Orders.{AreFalling}
use Rattle.domain_tests.specs.Clients.{seat_in}
use Rattle.domain_tests.proofs.playing.play.Given as goal

abbrev pub invariant-loop-at : goal.invariant-loop-at
invariant-loop-at l = record {
  falling : AreFalling seat_in l.domain (numbers_of l.domain).seats l.clients.items;
  many : vec_len l.clients ≡ vec_len l.fn.clients;
  room : vec_capacity l.clients ≡ vec_capacity l.fn.clients;
}
