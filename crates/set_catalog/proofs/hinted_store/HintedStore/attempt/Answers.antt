use Rattle.set_catalog.proofs.hinted_store.HintedStore.attempt.Goals as goal

pub attempt_knowing-store-requires-clause-known : goal.attempt_knowing-store-requires-clause-known
attempt_knowing-store-requires-clause-known g c = rw c.deref_mut.ensures.value c.self.invariant
