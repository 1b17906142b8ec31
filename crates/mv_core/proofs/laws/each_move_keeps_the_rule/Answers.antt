use Rattle.mv_core.proofs.moves.Moving.{moves_keep}
use Rattle.mv_core.proofs.laws.each_move_keeps_the_rule.Goals as goal

pub returns : goal.returns
returns g c = moves_keep _ _
