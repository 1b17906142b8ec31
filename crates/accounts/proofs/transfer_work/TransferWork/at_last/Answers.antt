use Rattle.accounts.proofs.Terms.{refl}
use Rattle.accounts.proofs.transfer_work.TransferWork.at_last.Goals as goal

pub returns : goal.returns
returns c = λ s tag ws changes p. (changes, refl)
