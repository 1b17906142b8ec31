use Rattle.mv_core.proofs.laws.grace_is_below_sections.Goals as goal

pub returns : goal.returns
returns g c = λ key s r. r.facts.grace
