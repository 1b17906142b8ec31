use Rattle.std.proofs.Common.{◌∙◌, subst}
use Rattle.set_catalog.specs.Ends.{EndsAt, dels_at}
use Rattle.set_catalog.specs.declared.ends.End.{End}
use Rattle.set_catalog.proofs.EndFacts.{planned_as, listed_some, dels_bare, dels_cut}
use Rattle.set_catalog.proofs.ends.End.del.Goals as goal

pub returns-in-InList-clause-writes : goal.returns-in-InList-clause-writes
returns-in-InList-clause-writes c key s name l lt fit e present =
    let x = subst (λ (u : End). EndsAt s name key u) c.in-InList.is e in
    planned_as _ _ _ (λ (u : End). dels_at s u) _ _ c.in-InList.is c.write.ensures.writes
    (c.del_writes.ensures.writes s _ key x.2 (listed_some s name key _ l lt x.1 _ x.0 fit x.2 present))

pub returns-then-descent-root-clause-writes : goal.returns-then-descent-root-clause-writes
returns-then-descent-root-clause-writes c key s name l lt fit e present =
    let x = subst (λ (u : End). EndsAt s name key u) c.in-InTree.is e in
    planned_as _ _ _ (λ (u : End). dels_at s u) _ _ c.in-InTree.is c.write-then-descent-root.ensures.writes
    (c.bare_writes.ensures.writes s key x.2 ∙ dels_bare s c.in-InTree.root c.in-InTree.descent c.if-descent-root.true)

pub returns-else-descent-root-clause-writes : goal.returns-else-descent-root-clause-writes
returns-else-descent-root-clause-writes c key s name l lt fit e present =
    let x = subst (λ (u : End). EndsAt s name key u) c.in-InTree.is e in
    planned_as _ _ _ (λ (u : End). dels_at s u) _ _ c.in-InTree.is c.write-else-descent-root.ensures.writes
    (c.tree_del_writes.ensures.writes s _ key x.2 ∙ dels_cut s c.in-InTree.root c.in-InTree.descent c.if-descent-root.false)
