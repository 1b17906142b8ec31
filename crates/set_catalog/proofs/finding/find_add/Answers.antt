use Rattle.std.proofs.Common.{sym, refl, inl, ◌∙◌, arith}
use Rattle.set_model.specs.declared.commands.Command.TheVariants.{Add}
use Rattle.set_catalog.proofs.Decided.{add_no, new_found, absent_same, takes_some}
use Rattle.set_catalog.proofs.finding.find_add.Goals as goal

pub returns-then-has-clause-found : goal.returns-then-has-clause-found
returns-then-has-clause-found g c =
    add_no _ c.args.name c.args.key c.requires.lawful c.search_near-end.ensures.name_in (omega (arith, c.ranges.key.fits)) c.args.most
    (sym (c.has.ensures _ _ c.requires.lawful c.search_near-end.ensures.name_in (omega (arith, c.ranges.key.fits)) c.search_near-end.ensures.ends)
    ∙ c.if-has.true)

pub returns-clause-found : goal.returns-clause-found
returns-clause-found g c =
    new_found c.args.most _ _ c.args.name c.args.key _ _ (g.met.V.View.same_state _ _ c.search_near-end.ensures.as_before) c.find_new.ensures.found
    (Add c.args.name c.args.key) (inl (refl, refl))

pub returns-clause-untouched : goal.returns-clause-untouched
returns-clause-untouched g c z = absurd (takes_some c.args.name (g.V.View.state c.args.view.now) z)

pub find_new-requires-clause-lawful : goal.find_new-requires-clause-lawful
find_new-requires-clause-lawful g c = rw (g.met.V.View.same_state _ _ c.search_near-end.ensures.as_before) c.requires.lawful

pub find_new-requires-clause-few : goal.find_new-requires-clause-few
find_new-requires-clause-few g c = rw (g.met.V.View.same_state _ _ c.search_near-end.ensures.as_before) c.requires.few

pub returns-clause-few : goal.returns-clause-few
returns-clause-few g c = rw (g.met.V.View.same_state _ _ c.search_near-end.ensures.as_before) at c.find_new.ensures.few

pub find_new-requires-clause-ends : goal.find_new-requires-clause-ends
find_new-requires-clause-ends g c = rw (g.met.V.View.same_state _ _ c.search_near-end.ensures.as_before) c.search_near-end.ensures.ends

pub find_new-requires-clause-absent : goal.find_new-requires-clause-absent
find_new-requires-clause-absent g c =
    absent_same _ _ c.args.name c.args.key (g.met.V.View.same_state _ _ c.search_near-end.ensures.as_before)
    (sym (c.has.ensures _ _ c.requires.lawful c.search_near-end.ensures.name_in (omega (arith, c.ranges.key.fits)) c.search_near-end.ensures.ends)
    ∙ c.if-has.false)
