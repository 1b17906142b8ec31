use Rattle.std.proofs.Common.{◌≡◌, ◌+◌, ◌≤◌, ◌++◌, length, map, vec_len, vec_capacity}
use Rattle.mvrlu_c.specs.Held.{boxed}
use Rattle.mvrlu_c.proofs.opening.in_blocks.Given as goal

-- those that have a block, and those that have none yet, are the seats in their order
abbrev pub invariant-loop-alloc : goal.invariant-loop-alloc
invariant-loop-alloc g l = record {
  seats : map boxed l.blocks.items ++ l.seats.items ≡ l.initial.seats.items;
  room : length l.blocks.items + length l.seats.items ≤ vec_capacity l.blocks;
}

abbrev pub decreases-loop-alloc : goal.decreases-loop-alloc
decreases-loop-alloc g l = vec_len l.seats
