use Rattle.std.proofs.Common.{◌≡◌}
use Rattle.std.specs.VecDeque.{deque_capacity}
use Rattle.seat_log.proofs.Places.{GoesFrom}
use Rattle.seat_log.proofs.notes.set_times.Given as goal

abbrev pub invariant-loop-i : goal.invariant-loop-i
invariant-loop-i l =
    GoesFrom (λ n. record n { time = l.fn.time }) l.fn.from l.fn.live.items l.i l.live.items × (deque_capacity l.live ≡ deque_capacity l.fn.live)
