use Rattle.command_pool.proofs.Terms.{◌≡◌, ◌≤◌, ◌-◌, [], length, All, vec_capacity, hand, all_parts, IsBegun, view, IsPassOf}
use Rattle.command_pool.proofs.lending.share_out.Given as goal

abbrev pub invariant-loop : goal.invariant-loop
invariant-loop l = record {
  pass : IsPassOf l.queue l.pass;
  left : view l.pass ≡ hand (all_parts - l.counter) (view l.initial.pass).put [];
  begun : All (IsBegun l.queue l.commands) l.turns.items;
  count : length l.turns.items ≡ l.counter;
  room : l.seats ≤ vec_capacity l.turns;
}
