use Rattle.script_workers.proofs.Terms.{◌≡◌, ◌++◌, map, take, vec_capacity, line_of}
use Rattle.script_workers.proofs.rows.put_row.Given as goal

abbrev pub invariant-loop-answer : goal.invariant-loop-answer
invariant-loop-answer l =
    (l.lines.items ≡ l.initial.lines.items ++ map line_of (take l.answer-index l.row)) × (vec_capacity l.lines ≡ vec_capacity l.initial.lines)
