use Rattle.std.proofs.Common.{sym, ap, ◌∙◌, subst, true≢false}
use Rattle.set_model.specs.Catalogue.{has_key, map_of}
use Rattle.set_model.specs.CatalogueOf.{catalogue_of}
use Rattle.set_catalog.specs.Ends.{EndsAt}
use Rattle.set_catalog.specs.declared.ends.End.{End}
use Rattle.set_catalog.proofs.EndFacts.{listed_has, listed_value, empty_map, grown_has, grown_value, value_missing, value_shown}
use Rattle.set_catalog.proofs.ends.End.value.Goals as goal

pub returns-then-not-has : goal.returns-then-not-has
returns-then-not-has c s name l lt fit e = value_missing c.args.key (map_of name (catalogue_of s)) (sym (c.has.ensures s name l lt fit e) ∙ c.if-not-has.true)

pub returns-in-InList : goal.returns-in-InList
returns-in-InList c s name l lt fit e =
    let x = subst (λ (u : End). EndsAt s name c.args.key u) c.in-InList.is e in
    let there = sym (c.has.ensures s name l lt fit e) ∙ c.if-not-has.false in
    value_shown _ _ _ (x.2.has ∙ listed_has s name c.args.key _ l lt x.1 x.0 fit ∙ there) (x.2.value ∙ listed_value s name c.args.key _ l lt x.1 x.0 fit)

pub returns-in-Empty : goal.returns-in-Empty
returns-in-Empty c s name l lt fit e =
    let x = subst (λ (u : End). EndsAt s name c.args.key u) c.in-Empty.is e in
    let there = sym (c.has.ensures s name l lt fit e) ∙ c.if-not-has.false in
    absurd (true≢false (sym there ∙ ap (has_key c.args.key) (empty_map s name c.args.key _ l lt x.1 x.0 x.2)))

pub returns-in-InTree : goal.returns-in-InTree
returns-in-InTree c s name l lt fit e =
    let x = subst (λ (u : End). EndsAt s name c.args.key u) c.in-InTree.is e in
    let there = sym (c.has.ensures s name l lt fit e) ∙ c.if-not-has.false in
    value_shown _ _ _ (sym (grown_has s name c.args.key _ l lt x.1 _ x.0 x.2) ∙ there) (sym (grown_value s name c.args.key _ l lt x.1 _ x.0 x.2))
