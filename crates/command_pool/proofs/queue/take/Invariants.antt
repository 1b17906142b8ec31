use Rattle.command_pool.proofs.Terms.{◌≡◌, view, IsPassOf, IsSamePass}
use Rattle.command_pool.proofs.queue.take.Given as goal

abbrev pub invariant-loop : goal.invariant-loop
invariant-loop g l = record {
  pass : IsPassOf l.queue l.pass;
  same : IsSamePass l.fn.pass l.pass;
  view_is : view l.pass ≡ view l.fn.pass;
}
