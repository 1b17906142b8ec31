use Rattle.mv_core.proofs.moves.OneHistory as moves
use Rattle.mv_core.proofs.laws.one_history.Goals as goal

pub returns-clause-one : goal.returns-clause-one
returns-clause-one g c = moves.one_history _ _

pub returns-clause-entry : goal.returns-clause-entry
returns-clause-entry g c = moves.one_entry _
