use Rattle.std.proofs.Common.{sym, ◌∙◌, arith}
use Rattle.set_model.specs.Catalogue.{map_of}
use Rattle.set_model.specs.CatalogueOf.{catalogue_of}
use Rattle.set_model.proofs.MapLemmas.{has_key-some}
use Rattle.set_catalog.proofs.Decided.{move_none, move_no, move_wants, move_short, move_has_room, move_open, ends_same, short_same, there_same, enough_same}
use Rattle.set_catalog.proofs.finding.find_move.Goals as goal

pub returns-in_default-clause-found : goal.returns-in_default-clause-found
returns-in_default-clause-found g c =
    move_none (g.V.View.state c.args.view.now) c.args.source c.args.target c.args.key
    (c.in_default.ensures _ _ c.requires.lawful c.search_near-from.ensures.name_in (omega (arith, c.ranges.key.fits)) c.search_near-from.ensures.ends)

pub returns-then-has-clause-found : goal.returns-then-has-clause-found
returns-then-has-clause-found g c =
    let same = g.met.V.View.same_state _ _ c.search_near-from.ensures.as_before in
    let to = ends_same _ _ c.args.target c.args.key c.search_near-to.result same c.search_near-to.ensures.ends in
    let has = c.in-Some.ensures _ _ c.requires.lawful c.search_near-from.ensures.name_in (omega (arith, c.ranges.key.fits)) c.search_near-from.ensures.ends in
    move_no (g.V.View.state c.args.view.now) c.args.source c.args.target c.args.key
    c.requires.lawful c.search_near-from.ensures.name_in c.search_near-to.ensures.name_in (omega (arith, c.ranges.key.fits)) c.in-Some.value has
    (sym (c.has.ensures _ _ c.requires.lawful c.search_near-to.ensures.name_in (omega (arith, c.ranges.key.fits)) to) ∙ c.if-has.true)

pub returns-in_default-vacant_for-clause-found : goal.returns-in_default-vacant_for-clause-found
returns-in_default-vacant_for-clause-found g c =
    let same = g.met.V.View.same_state _ _ c.search_near-from.ensures.as_before in
    let to = ends_same _ _ c.args.target c.args.key c.search_near-to.result same c.search_near-to.ensures.ends in
    let missed = sym (c.has.ensures _ _ c.requires.lawful c.search_near-to.ensures.name_in (omega (arith, c.ranges.key.fits)) to) ∙ c.if-has.false in
    let has = c.in-Some.ensures _ _ c.requires.lawful c.search_near-from.ensures.name_in (omega (arith, c.ranges.key.fits)) c.search_near-from.ensures.ends in
    move_short (g.V.View.state c.args.view.now) c.args.source c.args.target c.args.key
    c.requires.lawful c.search_near-from.ensures.name_in c.search_near-to.ensures.name_in (omega (arith, c.ranges.key.fits)) c.in-Some.value has missed
    c.search_near-from.result c.search_near-from.ensures.ends
    _ _ _ (c.takes.ensures.takes c.args.key _ c.args.target c.requires.lawful c.search_near-to.ensures.name_in (omega (arith, c.ranges.key.fits)) to)
    c.del-gone.ensures.inner c.still_wanted.ensures
    (short_same _ _ _ (g.met.V.View.same_state _ _ (g.met.V.View.as_long_before _ _ _ c.search_near-from.ensures.as_before c.search_near-to.ensures.as_before))
    c.in_default-vacant_for.ensures.none)

pub returns-in_default-vacant_for-clause-untouched : goal.returns-in_default-vacant_for-clause-untouched
returns-in_default-vacant_for-clause-untouched g c z =
    let same = g.met.V.View.same_state _ _ c.search_near-from.ensures.as_before in
    let to = ends_same _ _ c.args.target c.args.key c.search_near-to.result same c.search_near-to.ensures.ends in
    let missed = sym (c.has.ensures _ _ c.requires.lawful c.search_near-to.ensures.name_in (omega (arith, c.ranges.key.fits)) to) ∙ c.if-has.false in
    let has = c.in-Some.ensures _ _ c.requires.lawful c.search_near-from.ensures.name_in (omega (arith, c.ranges.key.fits)) c.search_near-from.ensures.ends in
    c.in_default-vacant_for.ensures.untouched (move_wants (g.V.View.state c.args.view.now) c.args.source c.args.target c.args.key
    c.requires.lawful c.search_near-from.ensures.name_in c.search_near-to.ensures.name_in (omega (arith, c.ranges.key.fits)) c.in-Some.value has missed
    c.search_near-from.result c.search_near-from.ensures.ends
    _ _ _ (c.takes.ensures.takes c.args.key _ c.args.target c.requires.lawful c.search_near-to.ensures.name_in (omega (arith, c.ranges.key.fits)) to)
    c.del-gone.ensures.inner c.still_wanted.ensures ∙ z)

pub add-requires-clause-room : goal.add-requires-clause-room
add-requires-clause-room g c =
    let same = g.met.V.View.same_state _ _ c.search_near-from.ensures.as_before in
    let to = ends_same _ _ c.args.target c.args.key c.search_near-to.result same c.search_near-to.ensures.ends in
    let missed = sym (c.has.ensures _ _ c.requires.lawful c.search_near-to.ensures.name_in (omega (arith, c.ranges.key.fits)) to) ∙ c.if-has.false in
    let has = c.in-Some.ensures _ _ c.requires.lawful c.search_near-from.ensures.name_in (omega (arith, c.ranges.key.fits)) c.search_near-from.ensures.ends in
    let there = has_key-some c.args.key c.in-Some.value (map_of c.args.source (catalogue_of (g.V.View.state c.args.view.now))) (sym has) in
    let dels = c.del-gone.ensures.writes c.args.key _ c.args.source c.requires.lawful c.search_near-from.ensures.name_in
    (omega (arith, c.ranges.key.fits)) c.search_near-from.ensures.ends there in
    let room = move_has_room (g.V.View.state c.args.view.now) c.args.source c.args.target c.args.key
    c.requires.lawful c.search_near-from.ensures.name_in c.search_near-to.ensures.name_in (omega (arith, c.ranges.key.fits)) c.in-Some.value has missed
    c.search_near-from.result c.search_near-from.ensures.ends
    c.args.plan.now c.del-gone.new.plan c.in-Some-vacant_for.picked.first _ _ _ c.search_near-to.result c.requires.none dels
    c.del-gone.ensures.inner (c.before-picked.ensures.first ∙ c.del-gone.ensures.node) c.before-picked.ensures.second in omega (arith, room)

pub returns-clause-found : goal.returns-clause-found
returns-clause-found g c =
    let same = g.met.V.View.same_state _ _ c.search_near-from.ensures.as_before in
    let to = ends_same _ _ c.args.target c.args.key c.search_near-to.result same c.search_near-to.ensures.ends in
    let missed = sym (c.has.ensures _ _ c.requires.lawful c.search_near-to.ensures.name_in (omega (arith, c.ranges.key.fits)) to) ∙ c.if-has.false in
    let has = c.in-Some.ensures _ _ c.requires.lawful c.search_near-from.ensures.name_in (omega (arith, c.ranges.key.fits)) c.search_near-from.ensures.ends in
    let there = has_key-some c.args.key c.in-Some.value (map_of c.args.source (catalogue_of (g.V.View.state c.args.view.now))) (sym has) in
    let dels = c.del-gone.ensures.writes c.args.key _ c.args.source c.requires.lawful c.search_near-from.ensures.name_in
    (omega (arith, c.ranges.key.fits)) c.search_near-from.ensures.ends there in
    move_open (g.V.View.state c.args.view.now) c.args.source c.args.target c.args.key
    c.requires.lawful c.search_near-from.ensures.name_in c.search_near-to.ensures.name_in (omega (arith, c.ranges.key.fits)) c.in-Some.value has missed
    c.search_near-from.result c.search_near-from.ensures.ends
    c.args.plan.now c.del-gone.new.plan c.add.new.plan c.nothing.result _ _ _ c.in-Some-vacant_for.picked.first
    c.in-Some-vacant_for.picked.second _ _ c.search_near-to.result to
    (c.takes.ensures.takes c.args.key _ c.args.target c.requires.lawful c.search_near-to.ensures.name_in (omega
    (arith, c.ranges.key.fits)) to) c.del-gone.ensures.inner c.still_wanted.ensures (there_same _ _ _ (g.met.V.View.same_state _ _
    (g.met.V.View.as_long_before _ _ _ c.search_near-from.ensures.as_before c.search_near-to.ensures.as_before)) c.in-Some-vacant_for.ensures.none)
    (enough_same _ _ _ _ _ (g.met.V.View.same_state _ _
    (g.met.V.View.as_long_before _ _ _ c.search_near-from.ensures.as_before c.search_near-to.ensures.as_before)) c.in-Some-vacant_for.ensures.enough)
    (c.before-picked.ensures.first ∙ c.del-gone.ensures.node) c.before-picked.ensures.second c.requires.none dels
    (c.add.ensures.writes _ c.args.target c.requires.lawful c.search_near-to.ensures.name_in (omega (arith, c.ranges.key.fits)) to)
    (c.nothing.ensures.node, c.nothing.ensures.inner)

pub returns-clause-untouched : goal.returns-clause-untouched
returns-clause-untouched g c z =
    let same = g.met.V.View.same_state _ _ c.search_near-from.ensures.as_before in
    let to = ends_same _ _ c.args.target c.args.key c.search_near-to.result same c.search_near-to.ensures.ends in
    let missed = sym (c.has.ensures _ _ c.requires.lawful c.search_near-to.ensures.name_in (omega (arith, c.ranges.key.fits)) to) ∙ c.if-has.false in
    let has = c.in-Some.ensures _ _ c.requires.lawful c.search_near-from.ensures.name_in (omega (arith, c.ranges.key.fits)) c.search_near-from.ensures.ends in
    c.in-Some-vacant_for.ensures.untouched (move_wants (g.V.View.state c.args.view.now) c.args.source c.args.target c.args.key
    c.requires.lawful c.search_near-from.ensures.name_in c.search_near-to.ensures.name_in (omega (arith, c.ranges.key.fits)) c.in-Some.value has missed
    c.search_near-from.result c.search_near-from.ensures.ends
    _ _ _ (c.takes.ensures.takes c.args.key _ c.args.target c.requires.lawful c.search_near-to.ensures.name_in (omega (arith, c.ranges.key.fits)) to)
    c.del-gone.ensures.inner c.still_wanted.ensures ∙ z)

pub search_near-to-requires : goal.search_near-to-requires
search_near-to-requires g c = record { lawful = rw (g.met.V.View.same_state _ _ c.search_near-from.ensures.as_before) c.requires.lawful }

pub vacant_for-requires-clause-lawful : goal.vacant_for-requires-clause-lawful
vacant_for-requires-clause-lawful g c =
    let both = g.met.V.View.as_long_before _ _ _ c.search_near-from.ensures.as_before c.search_near-to.ensures.as_before in
    rw (g.met.V.View.same_state _ _ both) c.requires.lawful

pub vacant_for-requires-clause-few : goal.vacant_for-requires-clause-few
vacant_for-requires-clause-few g c =
    rw (g.met.V.View.same_state _ _ (g.met.V.View.as_long_before _ _ _ c.search_near-from.ensures.as_before c.search_near-to.ensures.as_before)) c.requires.few

pub returns-in_default-vacant_for-clause-few : goal.returns-in_default-vacant_for-clause-few
returns-in_default-vacant_for-clause-few g c =
    rw (g.met.V.View.same_state _ _ (g.met.V.View.as_long_before _ _ _ c.search_near-from.ensures.as_before c.search_near-to.ensures.as_before)) at
    c.in_default-vacant_for.ensures.few

pub returns-clause-few : goal.returns-clause-few
returns-clause-few g c =
    rw (g.met.V.View.same_state _ _ (g.met.V.View.as_long_before _ _ _ c.search_near-from.ensures.as_before c.search_near-to.ensures.as_before)) at
    c.in-Some-vacant_for.ensures.few
