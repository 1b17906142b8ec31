use Rattle.script_workers.proofs.Terms.{◌≡◌, take, vec_capacity, flat_map, block_row}
use Rattle.script_workers.proofs.rows.make_block_lines.Given as goal

abbrev pub invariant-loop-row : goal.invariant-loop-row
invariant-loop-row l = (l.lines.items ≡ flat_map block_row (take l.row-index l.rows)) × (vec_capacity l.lines ≡ vec_capacity l.initial.lines)
