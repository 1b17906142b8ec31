use Rattle.mvrlu.proofs.Orders.{same_on}
use Rattle.domain_tests.proofs.moves.leave.Goals as goal

pub returns : goal.returns
returns c = same_on _ _ c.leave.ensures.leaves.continues
