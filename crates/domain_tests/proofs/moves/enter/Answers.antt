use Rattle.mvrlu.proofs.Orders.{same_on}
use Rattle.domain_tests.proofs.moves.enter.Goals as goal

pub returns : goal.returns
returns c = same_on _ _ c.enter-session.ensures.enters.seat.continues
