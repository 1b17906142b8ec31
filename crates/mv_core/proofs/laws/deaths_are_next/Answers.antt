use Rattle.mv_core.proofs.laws.deaths_are_next.Goals as goal

pub returns : goal.returns
returns g c = λ key s r. r.facts.deaths
