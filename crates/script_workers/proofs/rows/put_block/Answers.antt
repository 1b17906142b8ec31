use Rattle.script_workers.proofs.Runs.{lines_next}
use Rattle.script_workers.proofs.Terms.{◌+◌, ◌++◌, ◌∷◌, [], ◌∙◌, take, sym, ap, arith, append_assoc, Line, lines_at}
use Rattle.script_workers.proofs.rows.put_block.Goals as goal

pub push_reserved-requires : goal.push_reserved-requires
push_reserved-requires c =
    omega (arith, c.loop-index.invariant.count, c.loop-index.invariant.capacity, c.requires.room, c.loop-index-test.true, c.len-index-end.ensures.is)

pub loop-index-preserved : goal.loop-index-preserved
loop-index-preserved c =
    let l = c.loop-index in
    let a = c.args in
    let line : Line = record { seat = a.seat; number = a.first + l.index; place = a.place; reply = c.get.result } in
    let next = lines_next a.seat a.first l.index a.place a.replies.now c.get.result
    (omega (arith, c.loop-index-test.true, c.len-index-end.ensures.is)) c.get.ensures in
    record {
      items = c.push_reserved.ensures.items
          ∙ ap (λ ls. ls ++ line ∷ []) l.invariant.items
          ∙ append_assoc a.lines.now.items (lines_at a.seat a.first a.place (take l.index a.replies.now)) (line ∷ [])
          ∙ ap (λ ls. a.lines.now.items ++ ls) (sym next);
      count = omega (arith, c.push_reserved.ensures.len, l.invariant.count);
      capacity = c.push_reserved.ensures.capacity ∙ l.invariant.capacity;
    }
