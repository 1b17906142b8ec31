use Rattle.script_workers.proofs.Terms.{◌≡◌, ◌++◌, take, vec_capacity, row_in}
use Rattle.script_workers.proofs.rows.put_blocks.Given as goal

abbrev pub invariant-loop-answer : goal.invariant-loop-answer
invariant-loop-answer l =
    (l.lines.items ≡ l.initial.lines.items ++ row_in (take l.answer-index l.row)) × (vec_capacity l.lines ≡ vec_capacity l.initial.lines)
