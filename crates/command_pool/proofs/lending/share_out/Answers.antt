use Rattle.command_pool.proofs.Terms.{arith, ap, Hand}
use Rattle.command_pool.proofs.Sharing.{forks}
use Rattle.command_pool.proofs.lending.share_out.Goals as goal

-- more than one part is left
pub another-part-requires-clause-rule : goal.another-part-requires-clause-rule
another-part-requires-clause-rule c =
    forks _ _ (omega (arith, ap (λ (v : Hand). v.parts) c.loop.invariant.left, c.requires.few, c.loop-test.true))
