use Rattle.replay_rules.proofs.runs.Turns.{runs_ruled}
use Rattle.replay_rules.proofs.laws.runs_are_ruled.Goals as goal

pub returns : goal.returns
returns c = runs_ruled
