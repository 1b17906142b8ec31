use Rattle.mvrlu.proofs.session.SessionSection.leave.Goals as goal

-- the handle is of the seat that left its section
pub returns-clause-leaves : goal.returns-clause-leaves
returns-clause-leaves g c = c.leave_at-idle.ensures.leaves

pub returns-clause-one_step : goal.returns-clause-one_step
returns-clause-one_step g c _ = c.leave_at-idle.ensures.bound

pub returns-clause-aborts : goal.returns-clause-aborts
returns-clause-aborts g c = c.leave_at-idle.ensures.aborts

pub returns-clause-bound : goal.returns-clause-bound
returns-clause-bound g c = c.leave_at-idle.ensures.bound
