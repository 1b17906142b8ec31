use Rattle.grow_hash.proofs.MixedKeys.{mixed_low, mixed_apart}
use Rattle.grow_hash.proofs.laws.mixed_keys_differ.Goals as goal

pub returns : goal.returns
returns c = record { within = mixed_low; apart = mixed_apart }
