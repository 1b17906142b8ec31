use Rattle.std.proofs.Common.{sym, ◌∙◌, arith}
use Rattle.set_catalog.proofs.Decided.{del_no, del_open}
use Rattle.set_catalog.proofs.finding.find_del.Goals as goal

pub returns-then-not-has-clause-found : goal.returns-then-not-has-clause-found
returns-then-not-has-clause-found g c =
    del_no _ c.args.name c.args.key c.requires.lawful c.search_near-end.ensures.name_in (omega (arith, c.ranges.key.fits))
    (sym (c.has.ensures _ _ c.requires.lawful c.search_near-end.ensures.name_in (omega (arith, c.ranges.key.fits)) c.search_near-end.ensures.ends)
    ∙ c.if-not-has.true)

pub returns-clause-found : goal.returns-clause-found
returns-clause-found g c =
    let there = (sym (c.has.ensures _ _ c.requires.lawful c.search_near-end.ensures.name_in (omega (arith, c.ranges.key.fits)) c.search_near-end.ensures.ends)
    ∙ c.if-not-has.false) in
    del_open _ c.args.name c.args.key c.requires.lawful c.search_near-end.ensures.name_in
    (omega (arith, c.ranges.key.fits)) _ c.args.plan.now c.del.new.plan _ c.search_near-end.ensures.ends there
    c.requires.none
    (c.del.ensures.writes c.args.key _ c.args.name c.requires.lawful c.search_near-end.ensures.name_in
    (omega (arith, c.ranges.key.fits)) c.search_near-end.ensures.ends there)
    c.del.ensures.node c.del.ensures.inner
