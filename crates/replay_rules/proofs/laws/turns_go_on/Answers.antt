use Rattle.replay_rules.proofs.NextSteps.{turns_go_on}
use Rattle.replay_rules.proofs.laws.turns_go_on.Goals as goal

pub returns : goal.returns
returns c = turns_go_on
