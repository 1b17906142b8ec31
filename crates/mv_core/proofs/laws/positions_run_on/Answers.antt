use Rattle.mv_core.proofs.laws.positions_run_on.Goals as goal

pub returns : goal.returns
returns g c = λ key s r. r.facts.positions
