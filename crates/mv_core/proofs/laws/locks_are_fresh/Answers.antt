use Rattle.mv_core.proofs.laws.locks_are_fresh.Goals as goal

pub returns : goal.returns
returns g c = λ key s r. r.facts.lock_freshness
