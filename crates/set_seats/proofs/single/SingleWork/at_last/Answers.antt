use Rattle.set_seats.proofs.SingleBlock.{worn_one}
use Rattle.set_seats.proofs.single.SingleWork.at_last.Goals as goal

pub returns : goal.returns
returns c = λ s tag ws changes p. worn_one c.args.self.now.command s changes
