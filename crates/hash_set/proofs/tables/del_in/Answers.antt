use Rattle.std.proofs.Common.{sym, ◌∙◌, arith}
use Rattle.hash_set.proofs.SetMaps.{at_has, head_low, takes_at, takes_catalogue}
use Rattle.hash_set.proofs.tables.del_in.Goals as goal

pub returns-clause-absent : goal.returns-clause-absent
returns-clause-absent g c =
    let e = at_has _ _ _ _ c.requires.lawful c.requires.set_in (omega (arith, c.ranges.key.fits)) c.bucket_of-head.ensures in
    (λ r. sym e ∙ c.del_in.ensures.absent.0 r, λ h. c.del_in.ensures.absent.1 (e ∙ h))

pub returns-clause-took : goal.returns-clause-took
returns-clause-took g c node inner r =
    let t = c.del_in.ensures.took node inner r in (t.0, takes_at _ _ _ _ _ _ c.bucket_of-head.ensures t.1)

pub returns-clause-catalogue : goal.returns-clause-catalogue
returns-clause-catalogue g c node inner r =
    takes_catalogue _ _ _ _ _ _ c.requires.set_in c.bucket_of-head.ensures (c.del_in.ensures.took node inner r).1

pub del_in-requires-clause-head_in : goal.del_in-requires-clause-head_in
del_in-requires-clause-head_in g c = rw c.bucket_of-head.ensures (head_low _ _ c.requires.set_in)

pub del_in-requires-clause-room : goal.del_in-requires-clause-room
del_in-requires-clause-room g c = rw c.bucket_of-head.ensures c.requires.room

pub returns-clause-unchanged : goal.returns-clause-unchanged
returns-clause-unchanged g c = c.del_in.ensures.unchanged

pub returns-clause-again : goal.returns-clause-again
returns-clause-again g c = rw c.bucket_of-head.ensures at c.del_in.ensures.again
