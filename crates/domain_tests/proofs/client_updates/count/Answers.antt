use Rattle.mv_client.proofs.Filled.{filled_put, filled_refused}
use Rattle.domain_tests.proofs.client_updates.count.Goals as goal

pub returns-in_err-put : goal.returns-in_err-put
returns-in_err-put g c = record {
  filled = (filled_refused _ (g.met.T.Section.goes_on _ _ c.read.ensures.as_before) c.put.ensures.goes_on c.from_residual.ensures.1).0;
}

pub returns : goal.returns
returns g c = record {
  filled = filled_put (g.met.T.Section.lawful _) c.requires.space.own (g.met.T.Section.reads c.args.section.now) c.read.ensures.words c.requires.object
      (g.met.T.Section.others_stay _ _ c.read.ensures.as_before) (g.met.T.Section.goes_on _ _ c.read.ensures.as_before) c.put.ensures.goes_on
      c.in_ok-put.ensures.own (λ s some is. tt);
}
