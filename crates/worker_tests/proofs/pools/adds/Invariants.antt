use Rattle.std.proofs.Common.{◌≡◌, ◌≤◌, length, vec_capacity}
use Rattle.worker_tests.proofs.pools.adds.Given as goal

abbrev pub invariant-loop-key : goal.invariant-loop-key
invariant-loop-key l = (length l.commands.items ≡ l.key) × (l.count ≤ vec_capacity l.commands)
