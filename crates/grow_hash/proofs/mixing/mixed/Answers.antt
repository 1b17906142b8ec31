use Rattle.grow_hash.proofs.Terms.{refl}
use Rattle.grow_hash.specs.Mixing.{mixed}
use Rattle.grow_hash.proofs.mixing.mixed.Goals as goal

pub returns : goal.returns
unfolding mixed
returns c = refl
