use Rattle.set_catalog.proofs.Knowing.{known_unknown}
use Rattle.set_catalog.proofs.LawfulTimes.{lawful_at}
use Rattle.set_catalog.proofs.hinted_store.HintedStore.new.Goals as goal

pub invariant_of-result : goal.invariant_of-result
invariant_of-result g c = known_unknown _ _ (lawful_at _ (g.met.S.Store.lawful _) _) c.begin.ensures.time c.begin.ensures.few
