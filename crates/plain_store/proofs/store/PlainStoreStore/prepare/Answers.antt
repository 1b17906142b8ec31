use Rattle.plain_store.proofs.store.PlainStoreStore.prepare.Goals as goal

pub returns-clause-short : goal.returns-clause-short
returns-clause-short g c holder e = absurd cc
