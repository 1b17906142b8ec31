use Rattle.grow_hash.proofs.Terms.{refl}
use Rattle.grow_hash.proofs.split_work.SplitWorkWork.at_last.Goals as goal

pub returns : goal.returns
returns g c = λ s tag ws changes p. (changes, refl)
