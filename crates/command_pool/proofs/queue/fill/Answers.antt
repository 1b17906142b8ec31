use Rattle.command_pool.proofs.Terms.{ap, arith, Hand}
use Rattle.command_pool.proofs.Sharing.{puts, held}
use Rattle.command_pool.proofs.queue.fill.Goals as goal

-- the pass has all parts, and has put in the numbers so far
pub push_as-requires-clause-rule : goal.push_as-requires-clause-rule
push_as-requires-clause-rule g c =
    let now = c.loop-count.invariant.1 in
    let all = ap (λ (v : Hand). v.parts) now in
    (puts _ _ _ _ all (omega (arith, ap (λ (v : Hand). v.put) now)), held _ _ all)
