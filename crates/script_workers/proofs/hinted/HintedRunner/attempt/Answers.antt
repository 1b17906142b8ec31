use Rattle.script_workers.proofs.Runs.{under_done, under_again}
use Rattle.script_workers.proofs.hinted.HintedRunner.attempt.Goals as goal

pub returns-in-Done : goal.returns-in-Done
returns-in-Done g c =
    let new = c.attempt-hinted.result.0.store in
    record { tried = λ s u. under_done _ s _ _ _ _ _ u (g.met.S.Store.lawful new) (rw c.in-Done.is at c.attempt-hinted.ensures.attempted) }

pub returns-in-Again : goal.returns-in-Again
returns-in-Again g c =
    record { tried = λ s u. under_again _ s _ _ _ _ u (rw c.in-Again.is at c.attempt-hinted.ensures.attempted) }
