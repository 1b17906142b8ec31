use Rattle.std.proofs.Common.{length, sym, subst, arith}
use Rattle.mvrlu.specs.Meant.{numbers_of, seat_of}
use Rattle.mvrlu.specs.Orders.{AreRising}
use Rattle.mvrlu.proofs.Orders.{rising_next, falling_front, falling_last, numbered_on}
use Rattle.domain_tests.specs.Clients.{seat_in}
use Rattle.domain_tests.proofs.lending.give_back.Goals as goal

pub loop-client-preserved : goal.loop-client-preserved
loop-client-preserved c =
    let l = c.loop-client in
    let i = l.invariant in
    let d = c.args.domain.now in
    let n = (numbers_of d).seats in
    let rest = c.pop.new.self.items in
    let client = c.in-Some.client in
    let seat = c.seat_back.result in
    let split = c.in-Some.ensures.items in
    let popped = c.in-Some.ensures.cases in
    let same_room = c.in-Some.ensures.capacity in
    let pushed = c.push_reserved.ensures.len in
    let capacity = c.push_reserved.ensures.capacity in
    let many = i.many in
    let room = i.room in
    let kept = i.kept in
    let one = l.seats.ok.0 in
    let two = c.pop.new.self.ok.0 in
    let numbered = falling_last seat_in d n (length l.seats.items) rest l.clients.items client split i.falling (omega arith) in
    record {
      many = omega arith;
      falling = falling_front seat_in d n rest l.clients.items client split i.falling;
      rising = subst (AreRising seat_of d) (sym c.push_reserved.ensures.items)
          (rising_next seat_of d l.seats.items seat i.rising
          (numbered_on d (length l.seats.items) (seat_in client) (seat_of seat) numbered c.seat_back.ensures));
      room = omega arith;
      kept = omega arith;
    }
