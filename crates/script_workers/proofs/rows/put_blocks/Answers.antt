use Rattle.script_workers.proofs.Runs.{lines_count}
use Rattle.script_workers.proofs.Terms.{List, length, take, sym, ap, subst, arith, length-append, length-flat_map-take, Place, Reply, Answer, lines_in, row_in}
use Rattle.script_workers.proofs.Terms.{FitsNumbers}
use Rattle.script_workers.proofs.rows.put_blocks.Goals as goal

-- there is room for the lines of one more answer
pub put_block-requires : goal.put_block-requires
put_block-requires c =
    let l = c.loop-answer in
    let row = c.args.row.now in
    let d = c.answer-item.result in record {
      room = omega (
        arith,
        length-flat_map-take lines_in row l.answer-index d c.loop-answer-test.true,
        ap (λ (e : Answer (Place × List Reply)). length (lines_in e)) c.answer-item.is,
        lines_count d.seat d.number d.done.0 d.done.1,
        ap length l.invariant.0,
        length-append c.args.lines.now.items (row_in (take l.answer-index row)),
        l.invariant.1,
        c.requires.room,
      );
      few = subst FitsNumbers (sym c.answer-item.is) (c.requires.few l.answer-index d c.loop-answer-test.true);
    }
