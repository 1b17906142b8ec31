use Rattle.mvrlu.proofs.handle.Handle.table.Goals as goal

-- the counts are those of the log
pub returns-clause-table : goal.returns-clause-table
returns-clause-table g c = c.table.ensures.table

pub returns-clause-aborts : goal.returns-clause-aborts
returns-clause-aborts g c = c.table.ensures.aborts
