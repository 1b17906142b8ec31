use Rattle.set_blocks.proofs.attempting.attempt_block.Goals as goal

pub returns-in-Done-clause-attempted : goal.returns-in-Done-clause-attempted
returns-in-Done-clause-attempted g c = rw c.in-Done.is at c.attempt_work-store.ensures.attempted

pub returns-in-Again-clause-attempted : goal.returns-in-Again-clause-attempted
returns-in-Again-clause-attempted g c = rw c.in-Again.is at c.attempt_work-store.ensures.attempted

pub returns-in-Done-clause-steps : goal.returns-in-Done-clause-steps
returns-in-Done-clause-steps g c = rw c.in-Done.is at c.attempt_work-store.ensures.steps

pub returns-in-Again-clause-steps : goal.returns-in-Again-clause-steps
returns-in-Again-clause-steps g c = rw c.in-Again.is at c.attempt_work-store.ensures.steps
