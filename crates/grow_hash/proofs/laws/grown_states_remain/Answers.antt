use Rattle.grow_hash.proofs.Splitting.{grown_after, buckets_after}
use Rattle.grow_hash.proofs.laws.grown_states_remain.Goals as goal

pub returns : goal.returns
returns c = record { lawful = grown_after; buckets = buckets_after }
