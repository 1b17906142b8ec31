use Rattle.std.proofs.Common.{arith}
use Rattle.set_catalog.proofs.Decided.{new_short, new_open, enough_there, adds_same}
use Rattle.set_catalog.proofs.finding.find_new.Goals as goal

pub returns-in-None-clause-found : goal.returns-in-None-clause-found
returns-in-None-clause-found g c command n =
    new_short _ c.args.name c.args.key c.args.value c.requires.lawful c.requires.name_in (omega (arith, c.ranges.key.fits))
    (omega (arith, c.ranges.value.fits)) c.requires.absent command n c.args.most _
    (c.takes.ensures.takes c.args.key _ c.args.name c.requires.lawful c.requires.name_in (omega (arith, c.ranges.key.fits)) c.requires.ends)
    c.in-None.ensures.none

pub plan_new-requires-clause-enough : goal.plan_new-requires-clause-enough
plan_new-requires-clause-enough g c =
    enough_there _ _ c.args.name _ _ _ (g.met.V.View.same_state _ _ c.vacant_for.ensures.as_before)
    (c.takes.ensures.takes c.args.key _ c.args.name c.requires.lawful c.requires.name_in (omega (arith, c.ranges.key.fits)) c.requires.ends)
    c.in-Some.ensures.enough

pub returns-in-Some-clause-found : goal.returns-in-Some-clause-found
returns-in-Some-clause-found g c command n =
    new_open _ c.args.name c.args.key c.args.value c.requires.lawful c.requires.name_in (omega (arith, c.ranges.key.fits))
    (omega (arith, c.ranges.value.fits)) c.requires.absent command n c.args.most _ _ _ c.plan_new.new.plan c.nothing.result
    (c.takes.ensures.takes c.args.key _ c.args.name c.requires.lawful c.requires.name_in (omega (arith, c.ranges.key.fits)) c.requires.ends)
    c.in-Some.ensures.none
    (adds_same _ _ _ _ _ _ _ _ _ (g.met.V.View.same_state _ _ c.vacant_for.ensures.as_before) c.plan_new.ensures.plan)
    (c.nothing.ensures.node, c.nothing.ensures.inner)
