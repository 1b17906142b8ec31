use Rattle.std.proofs.Common.{sym, arith, subst}
use Rattle.set_catalog.specs.Ends.{EndsAt}
use Rattle.set_catalog.specs.declared.ends.End.{End}
use Rattle.set_catalog.proofs.Turned.{planned_none, descent_lacks, descent_second, planned_turned, short_same, way_same, vacant_same}
use Rattle.set_catalog.proofs.ends.End.plan_new.Goals as goal

pub returns-then-most-eq0-clause-plan : goal.returns-then-most-eq0-clause-plan
returns-then-most-eq0-clause-plan g c =
    planned_none _ c.args.name c.args.key c.requires.lawful c.requires.name_in (omega (arith, c.ranges.key.fits)) c.requires.absent c.args.value
    c.args.picked.first c.args.picked.second c.requires.enough c.args.most c.args.self.now c.args.plan.now c.add.new.plan c.requires.ends
    c.requires.none
    (c.add.ensures.writes _ c.args.name c.requires.lawful c.requires.name_in (omega (arith, c.ranges.key.fits)) c.requires.ends)

pub plan_add-requires-clause-ends : goal.plan_add-requires-clause-ends
plan_add-requires-clause-ends g c =
    let e = subst (λ (u : End). EndsAt (g.V.View.state c.args.view.now) c.args.name c.args.key u) c.in-InTree.is c.requires.ends in
    rw (g.met.V.View.same_state _ _ c.find_way-way.ensures.as_before) e.2

pub plan_add-requires-clause-lacks : goal.plan_add-requires-clause-lacks
plan_add-requires-clause-lacks g c =
    let e = subst (λ (u : End). EndsAt (g.V.View.state c.args.view.now) c.args.name c.args.key u) c.in-InTree.is c.requires.ends in
    descent_lacks _ c.args.name c.args.key c.requires.lawful c.requires.name_in (omega (arith, c.ranges.key.fits)) c.requires.absent c.args.value
    c.args.picked.first c.args.picked.second c.requires.enough _ _ e

pub plan_add-requires-clause-inner_vacant : goal.plan_add-requires-clause-inner_vacant
plan_add-requires-clause-inner_vacant g c =
    let e = subst (λ (u : End). EndsAt (g.V.View.state c.args.view.now) c.args.name c.args.key u) c.in-InTree.is c.requires.ends in
    vacant_same _ _ c.args.picked.second (g.met.V.View.same_state _ _ c.find_way-way.ensures.as_before)
    (descent_second _ c.args.name c.args.key c.requires.lawful c.requires.name_in (omega (arith, c.ranges.key.fits)) c.requires.absent c.args.value
    c.args.picked.first c.args.picked.second c.requires.enough _ _ e).0

pub plan_add-requires-clause-differ : goal.plan_add-requires-clause-differ
plan_add-requires-clause-differ g c =
    let e = subst (λ (u : End). EndsAt (g.V.View.state c.args.view.now) c.args.name c.args.key u) c.in-InTree.is c.requires.ends in
    λ q. (descent_second _ c.args.name c.args.key c.requires.lawful c.requires.name_in (omega (arith, c.ranges.key.fits)) c.requires.absent c.args.value
    c.args.picked.first c.args.picked.second c.requires.enough _ _ e).1 (sym q)

pub returns-in-InTree-clause-plan : goal.returns-in-InTree-clause-plan
returns-in-InTree-clause-plan g c =
    let e = subst (λ (u : End). EndsAt (g.V.View.state c.args.view.now) c.args.name c.args.key u) c.in-InTree.is c.requires.ends in
    planned_turned _ c.args.name c.args.key c.requires.lawful c.requires.name_in (omega (arith, c.ranges.key.fits)) c.requires.absent c.args.value
    c.args.picked.first c.args.picked.second c.requires.enough _ _ e c.args.most _ _ c.if-most-eq0.false
    c.find_way-way.ensures.remembers
    (short_same _ _ _ _ _ _ _ _ _ _ _ (g.met.V.View.same_state _ _ c.find_way-way.ensures.as_before) c.plan_add.ensures.short)
    (way_same _ _ _ _ _ _ _ _ _ _ _ (g.met.V.View.same_state _ _ c.find_way-way.ensures.as_before) c.plan_add.ensures.plan)

pub returns-in-InTree-clause-as_before : goal.returns-in-InTree-clause-as_before
returns-in-InTree-clause-as_before g c = g.met.V.View.as_long_before _ _ _ c.find_way-way.ensures.as_before c.plan_add.ensures.as_before

pub returns-in_default-clause-plan : goal.returns-in_default-clause-plan
returns-in_default-clause-plan g c =
    planned_none _ c.args.name c.args.key c.requires.lawful c.requires.name_in (omega (arith, c.ranges.key.fits)) c.requires.absent c.args.value
    c.args.picked.first c.args.picked.second c.requires.enough c.args.most c.args.self.now c.args.plan.now c.add-in_default.new.plan c.requires.ends
    c.requires.none
    (c.add-in_default.ensures.writes _ c.args.name c.requires.lawful c.requires.name_in (omega (arith, c.ranges.key.fits)) c.requires.ends)
