use Rattle.command_pool.proofs.Terms.{◌≡◌, [], hand, all_parts, view, IsPassOf}
use Rattle.command_pool.proofs.queue.fill.Given as goal

abbrev pub invariant-loop-count : goal.invariant-loop-count
invariant-loop-count g l = IsPassOf l.queue l.pass × (view l.pass ≡ hand all_parts l.count [])
