use Rattle.std.proofs.Common.{sym, refl, inr, arith}
use Rattle.set_model.specs.Catalogue.{map_of}
use Rattle.set_model.specs.CatalogueOf.{catalogue_of}
use Rattle.set_model.specs.declared.commands.Command.TheVariants.{Put}
use Rattle.set_model.proofs.MapLemmas.{has_key-none, has_key-some}
use Rattle.set_catalog.proofs.Decided.{put_no, put_open, new_found, absent_same, wants_some}
use Rattle.set_catalog.proofs.finding.find_put.Goals as goal

pub returns-in-None-clause-found : goal.returns-in-None-clause-found
returns-in-None-clause-found g c =
    new_found c.args.most _ _ c.args.name c.args.key c.args.value _ (g.met.V.View.same_state _ _ c.search_near-end.ensures.as_before)
    c.find_new.ensures.found (Put c.args.name c.args.key c.args.value) (inr refl)

pub returns-in-None-clause-untouched : goal.returns-in-None-clause-untouched
returns-in-None-clause-untouched g c z =
    let missed = has_key-none c.args.key (map_of c.args.name (catalogue_of (g.V.View.state c.args.view.now)))
    (sym (c.in-None.ensures _ _ c.requires.lawful c.search_near-end.ensures.name_in (omega (arith, c.ranges.key.fits)) c.search_near-end.ensures.ends)) in
    absurd (wants_some c.args.name c.args.key c.args.value (g.V.View.state c.args.view.now) missed z)

pub returns-in-Some-clause-found : goal.returns-in-Some-clause-found
returns-in-Some-clause-found g c =
    put_no _ c.args.name c.args.key c.requires.lawful c.search_near-end.ensures.name_in (omega (arith, c.ranges.key.fits)) c.args.value c.in-Some.old
    (omega (arith, c.ranges.value.fits)) (c.in-Some.ensures _ _ c.requires.lawful c.search_near-end.ensures.name_in
    (omega (arith, c.ranges.key.fits)) c.search_near-end.ensures.ends) c.args.most c.if-old-value.true

pub returns-in-Some-2-clause-found : goal.returns-in-Some-2-clause-found
returns-in-Some-2-clause-found g c =
    let has = (c.in-Some.ensures _ _ c.requires.lawful c.search_near-end.ensures.name_in (omega (arith, c.ranges.key.fits)) c.search_near-end.ensures.ends) in
    let there = has_key-some c.args.key c.in-Some.old (map_of c.args.name (catalogue_of (g.V.View.state c.args.view.now))) (sym has) in
    put_open _ c.args.name c.args.key c.requires.lawful c.search_near-end.ensures.name_in
    (omega (arith, c.ranges.key.fits)) c.args.value c.in-Some.old
    (omega (arith, c.ranges.value.fits)) has c.args.most c.search_near-end.result c.args.plan.now c.put.new.plan c.nothing.result
    c.search_near-end.ensures.ends c.if-old-value.false c.requires.none
    (c.put.ensures.writes c.args.key _ c.args.name c.requires.lawful c.search_near-end.ensures.name_in
    (omega (arith, c.ranges.key.fits)) c.search_near-end.ensures.ends there)
    (c.nothing.ensures.node, c.nothing.ensures.inner)

pub find_new-requires-clause-lawful : goal.find_new-requires-clause-lawful
find_new-requires-clause-lawful g c = rw (g.met.V.View.same_state _ _ c.search_near-end.ensures.as_before) c.requires.lawful

pub find_new-requires-clause-few : goal.find_new-requires-clause-few
find_new-requires-clause-few g c = rw (g.met.V.View.same_state _ _ c.search_near-end.ensures.as_before) c.requires.few

pub returns-in-None-clause-few : goal.returns-in-None-clause-few
returns-in-None-clause-few g c = rw (g.met.V.View.same_state _ _ c.search_near-end.ensures.as_before) at c.find_new.ensures.few

pub find_new-requires-clause-ends : goal.find_new-requires-clause-ends
find_new-requires-clause-ends g c = rw (g.met.V.View.same_state _ _ c.search_near-end.ensures.as_before) c.search_near-end.ensures.ends

pub find_new-requires-clause-absent : goal.find_new-requires-clause-absent
find_new-requires-clause-absent g c =
    absent_same _ _ c.args.name c.args.key (g.met.V.View.same_state _ _ c.search_near-end.ensures.as_before)
    (has_key-none c.args.key (map_of c.args.name (catalogue_of (g.V.View.state c.args.view.now)))
    (sym (c.in-None.ensures _ _ c.requires.lawful c.search_near-end.ensures.name_in (omega (arith, c.ranges.key.fits)) c.search_near-end.ensures.ends)))
