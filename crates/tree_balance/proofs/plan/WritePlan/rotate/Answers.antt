use Rattle.std.proofs.Common.{refl}
use Rattle.tree_balance.proofs.Making.{rotate_made}
use Rattle.tree_balance.proofs.plan.WritePlan.rotate.Goals as goal

pub returns-clause-extends : goal.returns-clause-extends
returns-clause-extends g c =
    let far = g.met.V.View.as_long_before _ _ _ c.words-above.ensures.as_before c.words-here.ensures.as_before in
    rotate_made _ _ _ _ _ _ _ _ c.words-above.result c.words-here.result c.words-below.result _ _
    (g.met.V.View.same_state _ _ c.words-above.ensures.as_before) (g.met.V.View.same_state _ _ far) c.requires.distinct c.words-above.ensures.words
    c.words-here.ensures.words c.words-below.ensures.words (c.if-not-is_parent.ensures refl) (c.if-not-is_inner.ensures refl) (c.if-not-is_child.ensures refl)
    (c.if-not-is_inner-2.ensures refl) _ _ _ _ c.count.ensures c.unheld.ensures c.unheld-2.ensures c.unheld-3.ensures c.if-count-more.false _ _ _
    c.redirected-led.ensures c.lowered-lower.ensures c.raised-higher.ensures c.write.ensures.writes

pub returns-clause-as_before : goal.returns-clause-as_before
returns-clause-as_before g c =
    g.met.V.View.as_long_before _ _ _ (g.met.V.View.as_long_before _ _ _ c.words-above.ensures.as_before c.words-here.ensures.as_before)
    c.words-below.ensures.as_before

pub returns-then-not-is_inner-2-clause-as_before : goal.returns-then-not-is_inner-2-clause-as_before
returns-then-not-is_inner-2-clause-as_before g c =
    g.met.V.View.as_long_before _ _ _ (g.met.V.View.as_long_before _ _ _ c.words-above.ensures.as_before c.words-here.ensures.as_before)
    c.words-below.ensures.as_before

pub returns-then-count-more-clause-as_before : goal.returns-then-count-more-clause-as_before
returns-then-count-more-clause-as_before g c =
    g.met.V.View.as_long_before _ _ _ (g.met.V.View.as_long_before _ _ _ c.words-above.ensures.as_before c.words-here.ensures.as_before)
    c.words-below.ensures.as_before
