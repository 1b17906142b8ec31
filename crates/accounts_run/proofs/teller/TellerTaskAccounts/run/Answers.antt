use Rattle.mv_history.proofs.Steps.{Continues-Continues}
use Rattle.accounts_run.proofs.teller.TellerTaskAccounts.run.Goals as goal

pub returns-clause-continues : goal.returns-clause-continues
returns-clause-continues g c = Continues-Continues c.make_transfers-store.ensures.continues c.read_sums-store.ensures.continues
