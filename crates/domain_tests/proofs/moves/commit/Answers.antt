use Rattle.mvrlu.proofs.Orders.{same_on}
use Rattle.domain_tests.proofs.moves.commit.Goals as goal

pub returns-in-Done : goal.returns-in-Done
returns-in-Done c = same_on _ _ c.in-Done.ensures.done.0.continues

pub returns-in-Again : goal.returns-in-Again
returns-in-Again c = same_on _ _ c.in-Again.ensures.again.1.seat.continues

pub returns-in-End : goal.returns-in-End
returns-in-End c = same_on _ _ c.in-End.ensures.end.0.seat.continues
