use Rattle.std.proofs.Common.{sym, ◌∙◌, arith}
use Rattle.hash_set.proofs.SetMaps.{at_has, at_key_fits, head_low, adds_catalogue}
use Rattle.hash_set.proofs.tables.add_in.Goals as goal

pub returns-clause-no : goal.returns-clause-no
returns-clause-no g c =
    let e = at_has _ _ _ _ c.requires.lawful c.requires.set_in (omega (arith, c.ranges.key.fits)) c.bucket_of-head.ensures in
    (λ r. sym e ∙ c.add_in.ensures.no.0 r, λ h. c.add_in.ensures.no.1 (e ∙ h))

pub add_in-requires-clause-head_in : goal.add_in-requires-clause-head_in
add_in-requires-clause-head_in g c = rw c.bucket_of-head.ensures (head_low _ _ c.requires.set_in)

pub add_in-requires-clause-fits : goal.add_in-requires-clause-fits
add_in-requires-clause-fits g c = at_key_fits _ _ _ _ c.requires.lawful c.requires.set_in (omega (arith, c.ranges.key.fits)) c.bucket_of-head.ensures

pub add_in-requires-clause-room : goal.add_in-requires-clause-room
add_in-requires-clause-room g c = rw c.bucket_of-head.ensures c.requires.room

pub returns-clause-unchanged : goal.returns-clause-unchanged
returns-clause-unchanged g c = c.add_in.ensures.unchanged

pub returns-clause-yes : goal.returns-clause-yes
returns-clause-yes g c = rw c.bucket_of-head.ensures at c.add_in.ensures.yes

pub returns-clause-catalogue : goal.returns-clause-catalogue
returns-clause-catalogue g c r = adds_catalogue _ _ _ _ _ _ _ c.requires.set_in c.bucket_of-head.ensures (c.add_in.ensures.yes r)

pub returns-clause-again : goal.returns-clause-again
returns-clause-again g c = rw c.bucket_of-head.ensures at c.add_in.ensures.again
