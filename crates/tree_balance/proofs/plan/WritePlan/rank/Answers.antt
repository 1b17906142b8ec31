use Rattle.std.proofs.Common.{refl}
use Rattle.tree_balance.proofs.Making.{rank_made}
use Rattle.tree_balance.proofs.plan.WritePlan.rank.Goals as goal

pub returns-clause-extends : goal.returns-clause-extends
returns-clause-extends g c =
    rank_made _ _ _ _ c.args.rank _ c.words-words.result _ _ c.requires.distinct c.words-words.ensures.words (c.if-not-is_inner.ensures refl) c.unheld.ensures _
    c.count.ensures c.if-count-unheld.false c.write.ensures.writes
