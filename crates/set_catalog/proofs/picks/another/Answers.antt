use Rattle.set_catalog.proofs.Hinting.{IfSome_all, tries_beside}
use Rattle.set_catalog.proofs.picks.another.Goals as goal

pub returns-in-None-clause-hints : goal.returns-in-None-clause-hints
returns-in-None-clause-hints g c =
    IfSome_all _ _ (λ o. tries_beside _ _ _ _ _ o c.in-None.ensures.hints c.look.ensures.hints)
