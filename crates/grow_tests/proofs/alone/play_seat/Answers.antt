use Rattle.std.proofs.Common.{◌≤◌, length, sym, subst}
use Rattle.mv_history.specs.Meaning as history
use Rattle.mvrlu.specs.Meant.{seat_of, handled}
use Rattle.mvrlu.specs.Orders.{IsSameSeat, AreRising}
use Rattle.mvrlu.proofs.Orders.{rising_front, rising_last, rising_next, numbered_on, same_on}
use Rattle.grow_tests.proofs.alone.play_seat.Goals as goal

pub handle-requires : goal.handle-requires
handle-requires g c =
    let is = rising_last seat_of c.args.domain.now c.pop.new.self.items c.args.seats.items c.in-Some.seat c.in-Some.ensures.items c.requires.rising in
    (is.home, is.start)

pub play-handle-requires : goal.play-handle-requires
play-handle-requires g c =
    let is = rising_last seat_of c.args.domain.now c.pop.new.self.items c.args.seats.items c.in-Some.seat c.in-Some.ensures.items c.requires.rising in
    record {
      most = subst (λ (s : history.Seat). 64 ≤ s.write_max) (sym c.handle.ensures.meant) (subst (λ n. 64 ≤ n) (sym is.write_max) c.requires.most);
    }

pub returns-clause-rising : goal.returns-clause-rising
returns-clause-rising g c =
    let d = c.args.domain.now in
    let rest = c.pop.new.self.items in
    let split = c.in-Some.ensures.items in
    let is = rising_last seat_of d rest c.args.seats.items c.in-Some.seat split c.requires.rising in
    let same : IsSameSeat (seat_of c.in-Some.seat) (seat_of c.into_seat.result) =
    subst (λ (s : history.Seat). IsSameSeat s (seat_of c.into_seat.result)) c.handle.ensures.meant
    (subst (λ (t : history.Seat). IsSameSeat (handled c.handle.result) t) (sym c.into_seat.ensures.meant) (same_on _ _ c.play-handle.ensures)) in
    subst (AreRising seat_of d) (sym c.push_reserved.ensures.items)
    (rising_next seat_of d rest c.into_seat.result (rising_front seat_of d rest c.args.seats.items c.in-Some.seat split c.requires.rising)
    (numbered_on d (length rest) (seat_of c.in-Some.seat) (seat_of c.into_seat.result) is same))
