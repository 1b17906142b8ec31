use Rattle.mv_core.proofs.laws.successors_are_next.Goals as goal

pub returns : goal.returns
returns g c = λ key s r. r.facts.successors
