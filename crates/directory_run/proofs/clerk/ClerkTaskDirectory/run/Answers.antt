use Rattle.mv_history.proofs.Steps.{Continues-Continues}
use Rattle.directory_run.proofs.clerk.ClerkTaskDirectory.run.Goals as goal

pub returns-clause-continues : goal.returns-clause-continues
returns-clause-continues g c = Continues-Continues c.make_moves-store.ensures.continues c.look_up-store.ensures.continues
