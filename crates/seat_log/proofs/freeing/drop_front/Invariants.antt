use Rattle.std.proofs.Common.{◌≡◌, drop}
use Rattle.std.specs.VecDeque.{deque_capacity}
use Rattle.seat_log.proofs.freeing.drop_front.Given as goal

abbrev pub invariant-loop : goal.invariant-loop
invariant-loop l = (l.live.items ≡ drop l.counter l.fn.live.items) × (deque_capacity l.live ≡ deque_capacity l.fn.live)
