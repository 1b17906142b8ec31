use Rattle.std.proofs.Common.{sym, ap, ◌∙◌, subst}
use Rattle.set_model.specs.Catalogue.{has_key}
use Rattle.set_catalog.specs.Ends.{EndsAt}
use Rattle.set_catalog.specs.declared.ends.End.{End}
use Rattle.set_catalog.proofs.EndFacts.{listed_has, empty_map, grown_has}
use Rattle.set_catalog.proofs.ends.End.has.Goals as goal

pub returns-in-InList : goal.returns-in-InList
returns-in-InList c s name l lt fit e =
    let x = subst (λ (u : End). EndsAt s name c.args.key u) c.in-InList.is e in
    c.has.ensures ∙ x.2.has ∙ listed_has s name c.args.key _ l lt x.1 x.0 fit

pub returns-in-Empty : goal.returns-in-Empty
returns-in-Empty c s name l lt fit e =
    let x = subst (λ (u : End). EndsAt s name c.args.key u) c.in-Empty.is e in
    sym (ap (has_key c.args.key) (empty_map s name c.args.key _ l lt x.1 x.0 x.2))

pub returns-in-InTree : goal.returns-in-InTree
returns-in-InTree c s name l lt fit e =
    let x = subst (λ (u : End). EndsAt s name c.args.key u) c.in-InTree.is e in
    c.has-in-InTree.ensures ∙ sym (grown_has s name c.args.key _ l lt x.1 _ x.0 x.2)
