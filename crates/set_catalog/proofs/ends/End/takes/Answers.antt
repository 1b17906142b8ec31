use Rattle.std.proofs.Common.{subst}
use Rattle.set_catalog.specs.Ends.{EndsAt}
use Rattle.set_catalog.specs.declared.ends.End.{End}
use Rattle.set_catalog.proofs.EndFacts.{listed_takes, empty_takes, grown_takes}
use Rattle.set_catalog.proofs.ends.End.takes.Goals as goal

pub returns-in-InList-clause-takes : goal.returns-in-InList-clause-takes
returns-in-InList-clause-takes c k s name l lt fit e =
    let x = subst (λ (u : End). EndsAt s name k u) c.in-InList.is e in
    listed_takes s name k _ l lt x.1 x.0

pub returns-in-Empty-clause-takes : goal.returns-in-Empty-clause-takes
returns-in-Empty-clause-takes c k s name l lt fit e =
    let x = subst (λ (u : End). EndsAt s name k u) c.in-Empty.is e in
    empty_takes s name k _ l lt x.1 x.0 x.2

pub returns-in-InTree-clause-takes : goal.returns-in-InTree-clause-takes
returns-in-InTree-clause-takes c k s name l lt fit e =
    let x = subst (λ (u : End). EndsAt s name k u) c.in-InTree.is e in
    grown_takes s name k _ l lt x.1 _ x.0 x.2
