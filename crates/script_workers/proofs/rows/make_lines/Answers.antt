use Rattle.script_workers.proofs.Terms.{length, Vec, ap, arith, length-map, length-flat_map-take, Global, Place, Reply, Answer, line_of, row_of}
use Rattle.script_workers.proofs.rows.make_lines.Goals as goal

-- there is room for the lines of one more row
pub put_row-requires : goal.put_row-requires
put_row-requires c =
    let l = c.loop-row in
    let row = c.row-item.result in
    omega (
      arith,
      length-flat_map-take row_of c.args.rows.now l.row-index row c.loop-row-test.true,
      ap (λ (v : Vec (Answer (Place × Reply)) Global). length (row_of v)) c.row-item.is,
      length-map row.items line_of,
      ap length l.invariant.0,
      l.invariant.1,
      ap length c.deref.ensures.value,
      c.requires.room,
    )
