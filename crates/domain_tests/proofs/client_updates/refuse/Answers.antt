use Rattle.domain_tests.proofs.client_updates.refuse.Goals as goal

pub returns : goal.returns
returns g c = record { filled = record { goes_on = g.met.T.Section.goes_on _ _ c.read.ensures.as_before; fit = tt } }
