use Rattle.command_pool.proofs.Terms.{arith, ap, view, Hand}
use Rattle.command_pool.proofs.Sharing.{takes}
use Rattle.command_pool.proofs.queue.take.Goals as goal

pub try_pop_as-requires-clause-rule : goal.try_pop_as-requires-clause-rule
try_pop_as-requires-clause-rule g c =
    takes _ (view c.loop.pass) (omega (arith, ap (λ (v : Hand). v.parts) c.loop.invariant.view_is, c.requires.part.0))
