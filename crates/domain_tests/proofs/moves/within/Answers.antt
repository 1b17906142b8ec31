use Rattle.mvrlu.proofs.Orders.{same_on}
use Rattle.domain_tests.proofs.moves.within.Goals as goal

pub returns-in-Read : goal.returns-in-Read
returns-in-Read c = same_on _ _ c.read.ensures.as_before.1.continues

pub returns-in-Lock : goal.returns-in-Lock
returns-in-Lock c = same_on _ _ c.try_lock.ensures.goes_on.continues

pub returns-in-Write : goal.returns-in-Write
returns-in-Write c = same_on _ _ c.write.ensures.goes_on.continues
