use Rattle.std.proofs.Common.{length, sym, subst, arith}
use Rattle.mvrlu.specs.Meant.{numbers_of, seat_of}
use Rattle.mvrlu.specs.Orders.{IsNumbered, AreFalling}
use Rattle.mvrlu.proofs.Orders.{rising_front, rising_last, falling_next}
use Rattle.domain_tests.specs.Clients.{seat_in}
use Rattle.domain_tests.proofs.lending.lend.Goals as goal

pub handle-requires : goal.handle-requires
handle-requires c =
    let is = rising_last seat_of c.args.domain.now c.pop.new.self.items c.loop-seat.seats.items c.in-Some.seat c.in-Some.ensures.items
    c.loop-seat.invariant.rising in (is.home, is.start)

pub loop-seat-preserved : goal.loop-seat-preserved
loop-seat-preserved c =
    let d = c.args.domain.now in
    let i = c.loop-seat.invariant in
    let rest = c.pop.new.self.items in
    let clients = c.loop-seat.clients.items in
    let many = i.many in
    let room = i.room in
    let kept = i.kept in
    let kept_left = i.kept_left in
    let popped = c.in-Some.ensures.cases in
    let same_room = c.in-Some.ensures.capacity in
    let pushed = c.push_reserved.ensures.len in
    let capacity = c.push_reserved.ensures.capacity in
    let one = c.loop-seat.clients.ok.0 in
    let two = c.pop.new.self.ok.0 in
    let is = rising_last seat_of d rest c.loop-seat.seats.items c.in-Some.seat c.in-Some.ensures.items i.rising in
    record {
      many = omega arith;
      rising = rising_front seat_of d rest c.loop-seat.seats.items c.in-Some.seat c.in-Some.ensures.items i.rising;
      falling = subst (AreFalling seat_in d (numbers_of d).seats) (sym c.push_reserved.ensures.items)
          (falling_next seat_in d (numbers_of d).seats (length rest) clients _ i.falling (omega arith)
          (subst (IsNumbered d (length rest)) (sym c.handle.ensures.meant) is));
      room = omega arith;
      kept = omega arith;
      kept_left = omega arith;
    }
