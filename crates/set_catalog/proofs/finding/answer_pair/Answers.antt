use Rattle.set_catalog.proofs.Decided.{pair_found}
use Rattle.set_catalog.proofs.finding.answer_pair.Goals as goal

pub returns-clause-found : goal.returns-clause-found
returns-clause-found g c =
    pair_found _ c.args.first c.args.second c.args.key _ _ c.has.ensures.has
    (rw (g.met.V.View.same_state _ _ c.has.ensures.as_before) at c.has-2.ensures.has)
