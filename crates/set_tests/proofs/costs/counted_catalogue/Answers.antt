use Rattle.std.proofs.Common.{sym, subst}
use Rattle.set_model.specs.Lawful.{IsLawful}
use Rattle.set_catalog.proofs.LawfulTimes.{lawful_read}
use Rattle.set_tests.proofs.costs.counted_catalogue.Goals as goal

pub read_all-all-requires : goal.read_all-all-requires
read_all-all-requires g c = record {
  lawful = subst IsLawful (sym (g.met.S.Open.Section.reads _)) (lawful_read _ (g.met.S.Open.Section.lawful _) c.enter.ensures.enters.own);
}
