use Rattle.mv_history.proofs.Steps.{GoesOn-GoesOn}
use Rattle.set_tests.proofs.stores.write_and_look.Goals as goal

pub returns : goal.returns
returns g c =
    GoesOn-GoesOn c.write_one.ensures
    (GoesOn-GoesOn (g.met.S.Section.goes_on _ _ c.words_of.ensures) (g.met.S.Section.goes_on _ _ c.words_of-2.ensures))
