use Rattle.std.proofs.Common.{rules}
use Rattle.mv_core.proofs.shared.Shared.close.Goals as goal

pub returns-clause-state : goal.returns-clause-state
returns-clause-state g c = search rules
