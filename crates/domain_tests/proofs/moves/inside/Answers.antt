use Rattle.mvrlu.proofs.Orders.{same_on}
use Rattle.domain_tests.proofs.moves.inside.Goals as goal

pub returns-in-Abort : goal.returns-in-Abort
returns-in-Abort c = same_on _ _ c.abort.ensures.leaves.continues
