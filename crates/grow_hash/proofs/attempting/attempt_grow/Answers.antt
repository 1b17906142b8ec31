use Rattle.grow_hash.proofs.attempting.attempt_grow.Goals as goal

pub returns-clause-attempted : goal.returns-clause-attempted
returns-clause-attempted g c = rw c.step_of-step.ensures c.attempt_work-store.ensures.attempted

pub returns-clause-steps : goal.returns-clause-steps
returns-clause-steps g c = rw c.step_of-step.ensures c.attempt_work-store.ensures.steps
