use Rattle.mvrlu.proofs.session.SessionSection.try_commit.Goals as goal

-- a lost exchange isn't the end of time
pub returns-in-Again-clause-end : goal.returns-in-Again-clause-end
returns-in-Again-clause-end g c = tt

-- and the end of time says nothing of a rival
pub returns-in-End-clause-again : goal.returns-in-End-clause-again
returns-in-End-clause-again g c = tt

pub returns-in-End-clause-alone : goal.returns-in-End-clause-alone
returns-in-End-clause-alone g c = tt

pub returns-in-End-clause-one_lost : goal.returns-in-End-clause-one_lost
returns-in-End-clause-one_lost g c = tt

-- the answer is that of the section's parts
pub returns-in-Done-clause-done : goal.returns-in-Done-clause-done
returns-in-Done-clause-done g c = c.in-Done.ensures.done

pub returns-in-Done-clause-at_most_one : goal.returns-in-Done-clause-at_most_one
returns-in-Done-clause-at_most_one g c = c.in-Done.ensures.at_most_one

pub returns-in-Done-clause-one_won : goal.returns-in-Done-clause-one_won
returns-in-Done-clause-one_won g c _ = c.in-Done.ensures.one_won

pub returns-in-Done-clause-aborts : goal.returns-in-Done-clause-aborts
returns-in-Done-clause-aborts g c = c.in-Done.ensures.aborts

pub returns-in-Done-clause-bound : goal.returns-in-Done-clause-bound
returns-in-Done-clause-bound g c = c.in-Done.ensures.bound

pub returns-in-Again-clause-at_most_one : goal.returns-in-Again-clause-at_most_one
returns-in-Again-clause-at_most_one g c = c.in-Again.ensures.at_most_one

pub returns-in-Again-clause-aborts : goal.returns-in-Again-clause-aborts
returns-in-Again-clause-aborts g c = c.in-Again.ensures.aborts

pub returns-in-Again-clause-bound : goal.returns-in-Again-clause-bound
returns-in-Again-clause-bound g c = c.in-Again.ensures.bound

pub returns-in-End-clause-at_most_one : goal.returns-in-End-clause-at_most_one
returns-in-End-clause-at_most_one g c = c.in-End.ensures.at_most_one

pub returns-in-End-clause-aborts : goal.returns-in-End-clause-aborts
returns-in-End-clause-aborts g c = c.in-End.ensures.aborts

pub returns-in-End-clause-bound : goal.returns-in-End-clause-bound
returns-in-End-clause-bound g c = c.in-End.ensures.bound
