use Rattle.command_pool.proofs.Terms.{◌≡◌, ◌≤◌, ◌+◌, ◌++◌, length, All, vec_len, flat_map, all_parts, IsLent, taken_of, view, IsPassOf}
use Rattle.command_pool.proofs.lending.take_back.Given as goal

abbrev pub invariant-loop-turns : goal.invariant-loop-turns
invariant-loop-turns l = record {
  pass : IsPassOf l.queue l.pass;
  parts : ((view l.pass).parts + length l.turns.items ≡ all_parts) × (1 ≤ (view l.pass).parts);
  lent : All (IsLent l.queue) l.turns.items;
  taken : (view l.pass).taken ++ flat_map taken_of l.turns.items ≡ flat_map taken_of l.initial.turns.items;
}

abbrev pub decreases-loop-turns : goal.decreases-loop-turns
decreases-loop-turns l = vec_len l.turns
