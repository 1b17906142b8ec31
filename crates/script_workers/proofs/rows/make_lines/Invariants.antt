use Rattle.script_workers.proofs.Terms.{◌≡◌, take, vec_capacity, flat_map, row_of}
use Rattle.script_workers.proofs.rows.make_lines.Given as goal

abbrev pub invariant-loop-row : goal.invariant-loop-row
invariant-loop-row l = (l.lines.items ≡ flat_map row_of (take l.row-index l.rows)) × (vec_capacity l.lines ≡ vec_capacity l.initial.lines)
