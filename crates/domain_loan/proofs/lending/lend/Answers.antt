use Rattle.domain_loan.proofs.Terms.{◌∙◌, ap, length, arith, All-rest, seat_of, handled, IsSeatOf}
use Rattle.domain_loan.proofs.Moves.{first_of, holds_first, moved, meant_first}
use Rattle.domain_loan.proofs.lending.lend.Goals as goal

-- the first seat is of the domain
pub handle-requires : goal.handle-requires
handle-requires g c =
    let l = c.loop-handles in
    let first = first_of l.seats.items c.remove.new.self.items c.remove.result (omega (arith, c.remove.ensures.len, l.seats.ok.0)) c.remove.ensures.value
    c.remove.ensures.items in
    holds_first (λ s. IsSeatOf c.args.domain.now s) c.remove.result c.remove.new.self.items l.seats.items first l.invariant.own

-- its handle is the last of the row
pub loop-handles-preserved : goal.loop-handles-preserved
loop-handles-preserved g c =
    let l = c.loop-handles in
    let first = first_of l.seats.items c.remove.new.self.items c.remove.result (omega (arith, c.remove.ensures.len, l.seats.ok.0)) c.remove.ensures.value
    c.remove.ensures.items in
    let last = c.push_reserved.ensures.items in
    record {
      own = All-rest (λ s. IsSeatOf c.args.domain.now s) c.remove.result c.remove.new.self.items l.seats.items first l.invariant.own;
      handles = rw last
          (moved handled l.handles.items _ _ c.handle.result
          (meant_first handled seat_of l.seats.items c.remove.new.self.items c.remove.result c.handle.result first c.handle.ensures.meant)
          ∙ l.invariant.handles);
      room = omega (
        arith,
        c.push_reserved.ensures.len,
        l.handles.ok.0,
        c.push_reserved.new.self.ok.0,
        ap length first,
        l.invariant.room,
        c.push_reserved.ensures.capacity,
      );
      capacity = c.remove.ensures.capacity ∙ l.invariant.capacity;
    }
