use Rattle.std.proofs.Common.{refl}
use Rattle.directory.proofs.moving.MoveWork.at_last.Goals as goal

pub returns : goal.returns
returns c = λ s tag ws changes p. (changes, refl)
