use Rattle.script_workers.proofs.Terms.{◌≡◌, ◌+◌, ◌++◌, length, take, vec_capacity, lines_at}
use Rattle.script_workers.proofs.rows.put_block.Given as goal

abbrev pub invariant-loop-index : goal.invariant-loop-index
invariant-loop-index l = record {
  items : l.lines.items ≡ l.initial.lines.items ++ lines_at l.seat l.first l.place (take l.index l.replies);
  count : length l.lines.items ≡ length l.initial.lines.items + l.index;
  capacity : vec_capacity l.lines ≡ vec_capacity l.initial.lines;
}
