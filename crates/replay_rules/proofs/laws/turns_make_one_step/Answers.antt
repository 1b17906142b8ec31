use Rattle.replay_rules.proofs.OneStep.{turn_is}
use Rattle.replay_rules.proofs.laws.turns_make_one_step.Goals as goal

pub returns : goal.returns
returns c = turn_is
