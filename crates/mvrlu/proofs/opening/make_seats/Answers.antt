use Rattle.std.proofs.Common.{ℕ, length, sym, subst, arith}
use Rattle.mvrlu.specs.Opened.{IsNewSeatOf}
use Rattle.mvrlu.specs.Readiness.{IsReady, AreSeats}
use Rattle.mvrlu.proofs.Started.{ready_front, ready_last, seats_next}
use Rattle.mvrlu.proofs.opening.make_seats.Goals as goal

pub make_seat-requires : goal.make_seat-requires
make_seat-requires g c =
    let s = c.args.shared.now in
    let count = c.loop-last.invariant.count in
    let popped = c.in-Some.ensures.cases in
    let one = c.loop-last.seats.ok.0 in
    let two = c.pop.new.self.ok.0 in
    let is = ready_last s c.pop.new.self.items c.loop-last.ready.items c.in-Some.last c.in-Some.ensures.items c.loop-last.invariant.ready
    (length c.loop-last.seats.items) (omega arith) in
    record { ready = subst (λ (m : ℕ). IsReady s m c.in-Some.last) (sym is.0.1) is }

pub loop-last-preserved : goal.loop-last-preserved
loop-last-preserved g c =
    let s = c.args.shared.now in
    let count = c.loop-last.invariant.count in
    let room = c.loop-last.invariant.room in
    let popped = c.in-Some.ensures.cases in
    let pushed = c.push_reserved.ensures.len in
    let capacity = c.push_reserved.ensures.capacity in
    let one = c.loop-last.seats.ok.0 in
    let two = c.pop.new.self.ok.0 in
    let is = ready_last s c.pop.new.self.items c.loop-last.ready.items c.in-Some.last c.in-Some.ensures.items c.loop-last.invariant.ready
    (length c.loop-last.seats.items) (omega arith) in
    record {
      count = omega arith;
      ready = ready_front s c.pop.new.self.items c.loop-last.ready.items c.in-Some.last c.in-Some.ensures.items c.loop-last.invariant.ready;
      seats = subst (AreSeats s) (sym c.push_reserved.ensures.items)
          (seats_next s c.loop-last.seats.items c.make_seat.result c.loop-last.invariant.seats (subst (λ
          (m : ℕ). IsNewSeatOf s m c.make_seat.result) is.0.1 c.make_seat.ensures.new));
      room = omega arith;
    }
