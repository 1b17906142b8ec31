use Rattle.std.proofs.Common.{arith}
use Rattle.mvrlu.proofs.AllSeats.{opened_all}
use Rattle.mvrlu.proofs.Orders.{opened_rising, rising_all}
use Rattle.domain_tests.proofs.playing.played.Goals as goal

pub meet-requires : goal.meet-requires
meet-requires c = record {
  all = opened_all c.in_ok-domain.domain c.in_ok-domain.seats.items c.args.schedule.now.domain _ c.in_ok-domain.ensures.opened.1;
}

pub play_all-seats-requires-clause-rising : goal.play_all-seats-requires-clause-rising
play_all-seats-requires-clause-rising c =
    opened_rising c.in_ok-domain.domain c.in_ok-domain.seats.items c.args.schedule.now.domain _ c.in_ok-domain.ensures.opened.1

pub meet-closing-requires : goal.meet-closing-requires
meet-closing-requires c =
    let many = c.play_all-seats.ensures.many in
    let long = c.play_all-seats.result.0.ok.0 in
    record { all = rising_all c.in_ok-domain.domain c.play_all-seats.result.0.items (omega arith) c.play_all-seats.ensures.rising }
