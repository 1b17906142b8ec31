use Rattle.set_catalog.proofs.Knowing.{known_unknown}
use Rattle.set_catalog.proofs.LawfulTimes.{lawful_at}
use Rattle.set_catalog.proofs.attempting.attempt_with.Goals as goal

pub attempt_knowing-store-requires-clause-known : goal.attempt_knowing-store-requires-clause-known
attempt_knowing-store-requires-clause-known g c = known_unknown _ _ (lawful_at _ (g.met.S.Store.lawful _) _) c.unknown.ensures.time c.unknown.ensures.few
