use Rattle.std.proofs.Common.{sym, ◌∙◌, arith}
use Rattle.hash_set.proofs.SetMaps.{at_has, at_value, head_low, puts_catalogue}
use Rattle.hash_set.proofs.tables.put_in.Goals as goal

pub put_in-requires-clause-present : goal.put_in-requires-clause-present
put_in-requires-clause-present g c =
    at_has _ _ _ _ c.requires.lawful c.requires.set_in (omega (arith, c.ranges.key.fits)) c.bucket_of-head.ensures ∙ c.requires.present

pub returns-clause-no : goal.returns-clause-no
returns-clause-no g c =
    let e = at_value _ _ _ _ c.requires.lawful c.requires.set_in (omega (arith, c.ranges.key.fits)) c.bucket_of-head.ensures in
    (λ r. sym e ∙ c.put_in.ensures.no.0 r, λ h. c.put_in.ensures.no.1 (e ∙ h))

pub put_in-requires-clause-head_in : goal.put_in-requires-clause-head_in
put_in-requires-clause-head_in g c = rw c.bucket_of-head.ensures (head_low _ _ c.requires.set_in)

pub put_in-requires-clause-room : goal.put_in-requires-clause-room
put_in-requires-clause-room g c = rw c.bucket_of-head.ensures c.requires.room

pub returns-clause-unchanged : goal.returns-clause-unchanged
returns-clause-unchanged g c = c.put_in.ensures.unchanged

pub returns-clause-yes : goal.returns-clause-yes
returns-clause-yes g c = rw c.bucket_of-head.ensures at c.put_in.ensures.yes

pub returns-clause-catalogue : goal.returns-clause-catalogue
returns-clause-catalogue g c r = puts_catalogue _ _ _ _ _ _ c.requires.set_in c.bucket_of-head.ensures (c.put_in.ensures.yes r)

pub returns-clause-again : goal.returns-clause-again
returns-clause-again g c = rw c.bucket_of-head.ensures at c.put_in.ensures.again
