use Rattle.std.proofs.Common.{sym, ap, ◌∙◌, arith, subst}
use Rattle.mv_history.specs.State.{State}
use Rattle.set_model.specs.Catalogue.{next_key}
use Rattle.tree_set.specs.Walks.{IsSubtree}
use Rattle.tree_set.proofs.Descents.{descent_next, descent_last, descent_right, descent_next_right, descent_fits, least_same, no_keys}
use Rattle.tree_set.proofs.reads.next_in.Goals as goal

pub returns-in_err-descent-clause-next : goal.returns-in_err-descent-clause-next
returns-in_err-descent-clause-next g c =
    c.from_residual.ensures ∙ sym (ap (next_key c.args.key) (no_keys _ _ c.requires.lawful c.requires.root_from
    c.requires.root_in c.in_err-descent.ensures.empty))

pub overflow_cast-result : goal.overflow_cast-result
overflow_cast-result g c = omega (arith, descent_fits _ _ _ _ _ _ _ _ c.in_ok-descent.ensures.descent)

pub returns-then-descent-key-clause-next : goal.returns-then-descent-key-clause-next
returns-then-descent-key-clause-next g c =
    sym (descent_next _ _ _ _ _ _ _ _ c.requires.lawful c.requires.root_from c.requires.root_in c.in_ok-descent.ensures.descent c.if-descent-key.true)

pub returns-then-descent-eq0-clause-next : goal.returns-then-descent-eq0-clause-next
returns-then-descent-eq0-clause-next g c =
    sym (descent_last _ _ _ _ _ _ _ _ c.requires.lawful c.requires.root_from c.requires.root_in c.in_ok-descent.ensures.descent c.if-descent-key.false
    c.if-descent-eq0.true)

pub least_key-requires-clause-subtree : goal.least_key-requires-clause-subtree
least_key-requires-clause-subtree g c =
    subst (λ (s : State). IsSubtree s c.args.root c.in_ok-descent.descent.right) (sym (g.met.V.View.same_state _ _ c.find.ensures.as_before))
    (descent_right _ _ _ _ _ _ _ _ c.requires.lawful c.requires.root_from c.requires.root_in c.in_ok-descent.ensures.descent c.if-descent-eq0.false)

pub returns-clause-next : goal.returns-clause-next
returns-clause-next g c =
    sym (descent_next_right _ _ _ _ _ _ _ _ c.requires.lawful c.requires.root_from c.requires.root_in c.in_ok-descent.ensures.descent c.if-descent-key.false
    c.if-descent-eq0.false _
    (least_same _ _ _ _ _ (g.met.V.View.same_state _ _ c.find.ensures.as_before) c.least_key.ensures.least))

pub least_key-requires-clause-lawful : goal.least_key-requires-clause-lawful
least_key-requires-clause-lawful g c = rw (g.met.V.View.same_state _ _ c.find.ensures.as_before) c.requires.lawful

pub returns-clause-as_before : goal.returns-clause-as_before
returns-clause-as_before g c = g.met.V.View.as_long_before _ _ _ c.find.ensures.as_before c.least_key.ensures.as_before
