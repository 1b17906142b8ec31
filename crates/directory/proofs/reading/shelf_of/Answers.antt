use Rattle.directory.proofs.Placed.{on_other, placed}
use Rattle.directory.proofs.reading.shelf_of.Goals as goal

pub returns-in-Some-clause-on : goal.returns-in-Some-clause-on
returns-in-Some-clause-on g c = (c.find_before.ensures.found _ c.in-Some.is).on

pub returns-in-None-clause-on : goal.returns-in-None-clause-on
returns-in-None-clause-on g c =
    let d = c.requires.directory in
    on_other _ _ (placed d c.args.user c.requires.user c.requires.below) (c.find_before.ensures.absent c.in-None.is)
