use Rattle.std.proofs.Common.{◌∙◌, arith}
use Rattle.hash_set.proofs.SetMaps.{at_value, head_low}
use Rattle.hash_set.proofs.tables.get_near.Goals as goal

pub returns-clause-value : goal.returns-clause-value
returns-clause-value g c =
    c.get_near.ensures.value ∙ at_value _ _ _ _ c.requires.lawful c.requires.set_in (omega (arith, c.ranges.key.fits)) c.bucket_of-head.ensures

pub get_near-requires-clause-head_in : goal.get_near-requires-clause-head_in
get_near-requires-clause-head_in g c = rw c.bucket_of-head.ensures (head_low _ _ c.requires.set_in)
