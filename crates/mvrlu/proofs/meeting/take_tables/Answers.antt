use Rattle.std.proofs.Common.{◌∷◌, [], ap, length, arith, length-append}
use Rattle.mvrlu.specs.Meant.{seat_of}
use Rattle.mvrlu.proofs.whole.Taken.{tables_more}
use Rattle.mvrlu.proofs.meeting.take_tables.Goals as goal

-- one more table is taken
pub loop-seat-preserved : goal.loop-seat-preserved
loop-seat-preserved g c =
    let l = c.loop-seat in
    let last = c.push_reserved.ensures.items in
    record {
      taken = rw last
          (tables_more seat_of c.args.seats.now l.seat-index c.seat-item.result l.tables.items c.table.result c.loop-seat-test.true c.seat-item.is
          l.invariant.taken c.table.ensures.table);
      count = omega (arith, ap length last, length-append l.tables.items (c.table.result ∷ []), l.invariant.count);
      room = omega (arith, l.invariant.room, c.push_reserved.ensures.capacity);
    }
