use Rattle.grow_hash.proofs.Terms.{arith}
use Rattle.grow_hash.proofs.attempts.Found.{del_no, del_open}
use Rattle.grow_hash.proofs.deciding.find_del.Goals as goal

pub returns-then-has-clause-found : goal.returns-then-has-clause-found
returns-then-has-clause-found g c =
    del_open g.row.LEVELS _ c.args.key c.requires.lawful c.find-search.result.window c.find-search.ensures.window _ c.has.ensures c.if-has.true
    (omega (arith, c.ranges.key.fits)) _ c.del_writes.ensures.writes

pub returns-else-has-clause-found : goal.returns-else-has-clause-found
returns-else-has-clause-found g c =
    del_no g.row.LEVELS _ c.args.key c.requires.lawful c.find-search.result.window c.find-search.ensures.window _ c.has.ensures c.if-has.false
