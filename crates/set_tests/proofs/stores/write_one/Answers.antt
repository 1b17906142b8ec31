use Rattle.mv_history.proofs.Steps.{GoesOn-GoesOn}
use Rattle.set_tests.proofs.stores.write_one.Goals as goal

pub returns : goal.returns
returns g c = GoesOn-GoesOn c.try_lock.ensures.goes_on c.write.ensures.goes_on
