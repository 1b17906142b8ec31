use Rattle.step_replay.proofs.MachineLaws.{replays_ruled}
use Rattle.step_replay.proofs.laws.replays_are_ruled.Goals as goal

pub returns : goal.returns
returns c = replays_ruled
