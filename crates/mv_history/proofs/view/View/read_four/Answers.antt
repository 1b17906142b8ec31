use Rattle.std.proofs.Common.{rules}
use Rattle.mv_history.proofs.view.View.read_four.Goals as goal

pub returns-clause-words : goal.returns-clause-words
returns-clause-words g c = search rules
