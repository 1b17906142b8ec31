use Rattle.grow_hash.proofs.Terms.{arith}
use Rattle.grow_hash.proofs.attempts.Found.{add_no, add_full, add_open, none_same, free_same}
use Rattle.grow_hash.proofs.deciding.find_add.Goals as goal

pub returns-then-has-clause-found : goal.returns-then-has-clause-found
returns-then-has-clause-found g c =
    add_no g.row.LEVELS _ c.args.key c.requires.lawful c.find-search.result.window c.find-search.ensures.window _ c.has.ensures c.if-has.true

pub returns-in-None-clause-found : goal.returns-in-None-clause-found
returns-in-None-clause-found g c =
    add_full g.row.LEVELS _ c.args.key c.requires.lawful c.find-search.result.window c.find-search.ensures.window _ c.has.ensures c.if-has.false
    (none_same g.row.LEVELS _ _ (g.met.V.View.same_state _ _ c.find-search.ensures.as_before) c.in-None.ensures.found)

pub returns-in-Some-clause-found : goal.returns-in-Some-clause-found
returns-in-Some-clause-found g c =
    add_open g.row.LEVELS _ c.args.key c.requires.lawful c.find-search.result.window c.find-search.ensures.window _ c.has.ensures c.if-has.false _
    (free_same g.row.LEVELS _ _ _ (g.met.V.View.same_state _ _ c.find-search.ensures.as_before) c.in-Some.ensures.found) (omega (arith, c.ranges.key.fits)) _ _
    c.find-search.ensures.head c.add_writes.ensures.writes
