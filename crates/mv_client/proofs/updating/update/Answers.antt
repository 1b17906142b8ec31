use Rattle.mv_client.proofs.Filled.{updated_continues, updated_commits, updated_worn, updated_exchanges}
use Rattle.mv_client.proofs.updating.update.Goals as goal

pub returns-clause-continues : goal.returns-clause-continues
returns-clause-continues g c = updated_continues _ _ _ _ _ _ c.attempt.ensures

pub returns-clause-commits : goal.returns-clause-commits
returns-clause-commits g c = updated_commits _ _ _ _ _ _ c.attempt.ensures

pub returns-clause-worn : goal.returns-clause-worn
returns-clause-worn g c e = updated_worn _ _ _ _ _ _ (g.met.S.Store.lawful _).time e c.attempt.ensures

pub returns-clause-exchanges : goal.returns-clause-exchanges
returns-clause-exchanges g c = updated_exchanges _ _ _ _ _ _ c.attempt.ensures
