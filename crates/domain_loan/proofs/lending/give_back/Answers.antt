use Rattle.domain_loan.proofs.Terms.{◌∙◌, ap, length, arith, seat_of, handled}
use Rattle.domain_loan.proofs.Moves.{first_of, moved, meant_first}
use Rattle.domain_loan.proofs.lending.give_back.Goals as goal

-- the first handle's seat is the last of the row
pub loop-seats-preserved : goal.loop-seats-preserved
loop-seats-preserved g c =
    let l = c.loop-seats in
    let first = first_of l.handles.items c.remove.new.self.items c.remove.result (omega (arith, c.remove.ensures.len, l.handles.ok.0)) c.remove.ensures.value
    c.remove.ensures.items in
    let last = c.push_reserved.ensures.items in
    record {
      seats = rw last
          (moved seat_of l.seats.items _ _ c.into_seat.result
          (meant_first seat_of handled l.handles.items c.remove.new.self.items c.remove.result c.into_seat.result first c.into_seat.ensures.meant)
          ∙ l.invariant.seats);
      room = omega (
        arith,
        c.push_reserved.ensures.len,
        l.seats.ok.0,
        c.push_reserved.new.self.ok.0,
        ap length first,
        l.invariant.room,
        c.push_reserved.ensures.capacity,
      );
    }
