use Rattle.std.proofs.Common.{◌∙◌, arith}
use Rattle.hash_set.proofs.SetMaps.{at_has, head_low}
use Rattle.hash_set.proofs.tables.has_near.Goals as goal

pub returns-clause-has : goal.returns-clause-has
returns-clause-has g c = c.has_near.ensures.has ∙ at_has _ _ _ _ c.requires.lawful c.requires.set_in (omega (arith, c.ranges.key.fits)) c.bucket_of-head.ensures

pub has_near-requires-clause-head_in : goal.has_near-requires-clause-head_in
has_near-requires-clause-head_in g c = rw c.bucket_of-head.ensures (head_low _ _ c.requires.set_in)
