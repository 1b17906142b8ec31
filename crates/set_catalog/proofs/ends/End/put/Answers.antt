use Rattle.std.proofs.Common.{subst}
use Rattle.set_catalog.specs.Ends.{EndsAt, puts_at}
use Rattle.set_catalog.specs.declared.ends.End.{End}
use Rattle.set_catalog.proofs.EndFacts.{planned_as, listed_some}
use Rattle.set_catalog.proofs.ends.End.put.Goals as goal

pub returns-in-InList : goal.returns-in-InList
returns-in-InList c = record {
  writes = λ key s name l lt fit e present.
      let x = subst (λ (u : End). EndsAt s name key u) c.in-InList.is e in
      planned_as _ _ _ (λ (u : End). puts_at s c.args.value u) _ _ c.in-InList.is c.write.ensures.writes
      (c.put_writes.ensures.writes s _ key x.2 (listed_some s name key _ l lt x.1 _ x.0 fit x.2 present));
}

pub returns-in-InTree : goal.returns-in-InTree
returns-in-InTree c = record {
  writes = λ key s name l lt fit e present.
      let x = subst (λ (u : End). EndsAt s name key u) c.in-InTree.is e in
      planned_as _ _ _ (λ (u : End). puts_at s c.args.value u) _ _ c.in-InTree.is c.write-in-InTree.ensures.writes
      (c.put_writes-in-InTree.ensures.writes s _ key x.2);
}
