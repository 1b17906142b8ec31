use Rattle.script_workers.proofs.Terms.{List, length, Vec, sym, ap, subst, arith, length-flat_map-take, Global, Place, Reply, Answer, row_in, block_row, AllFit}
use Rattle.script_workers.proofs.rows.make_block_lines.Goals as goal

-- there is room for the lines of one more row
pub put_blocks-requires : goal.put_blocks-requires
put_blocks-requires c =
    let l = c.loop-row in
    let row = c.row-item.result in record {
      few = rw c.deref.ensures.value (subst AllFit (sym c.row-item.is) (c.requires.few l.row-index row c.loop-row-test.true));
      room = omega (
        arith,
        length-flat_map-take block_row c.args.rows.now l.row-index row c.loop-row-test.true,
        ap (λ (v : Vec (Answer (Place × List Reply)) Global). length (block_row v)) c.row-item.is,
        ap length l.invariant.0,
        l.invariant.1,
        ap (λ ds. length (row_in ds)) c.deref.ensures.value,
        c.requires.room,
      );
    }
