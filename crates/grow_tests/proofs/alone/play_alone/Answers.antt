use Rattle.std.proofs.Common.{ap, arith}
use Rattle.mv_layout.specs.declared.Config.{Config}
use Rattle.mvrlu.proofs.Orders.{opened_rising, rising_all}
use Rattle.grow_tests.proofs.alone.play_alone.Goals as goal

-- the seats of a new domain are in order
pub play_seat-seats-requires-clause-rising : goal.play_seat-seats-requires-clause-rising
play_seat-seats-requires-clause-rising g c = opened_rising c.in_ok-domain.domain c.in_ok-domain.seats.items _ _ c.in_ok-domain.ensures

-- and all of them came back
pub meet-closing-requires : goal.meet-closing-requires
meet-closing-requires g c =
    let numbers = ap (λ (n : Config). n.seats) c.in_ok-domain.ensures.numbers in
    let seats = c.numbers.ensures.one in
    let one = c.play_seat-seats.ensures.one in
    let long = c.play_seat-seats.result.0.ok.0 in
    record { all = rising_all c.in_ok-domain.domain c.play_seat-seats.result.0.items (omega arith) c.play_seat-seats.ensures.rising }
