use Rattle.std.proofs.Common.{sym, ap, ◌∙◌}
use Rattle.set_model.specs.Catalogue.{value_of}
use Rattle.tree_set.proofs.Descents.{descent_value_here, descent_value_none, no_keys}
use Rattle.tree_set.proofs.reads.get_in.Goals as goal

pub returns-in_err-descent-clause-value : goal.returns-in_err-descent-clause-value
returns-in_err-descent-clause-value g c =
    c.from_residual.ensures ∙ sym (ap (value_of c.args.key) (no_keys _ _ c.requires.lawful c.requires.root_from
    c.requires.root_in c.in_err-descent.ensures.empty))

pub returns-then-descent-key-clause-value : goal.returns-then-descent-key-clause-value
returns-then-descent-key-clause-value g c =
    sym (descent_value_here _ _ _ _ _ _ _ _ c.requires.lawful c.requires.root_from c.requires.root_in c.in_ok-descent.ensures.descent c.if-descent-key.true)

pub returns-else-descent-key-clause-value : goal.returns-else-descent-key-clause-value
returns-else-descent-key-clause-value g c =
    sym (descent_value_none _ _ _ _ _ _ _ _ c.requires.lawful c.requires.root_from c.requires.root_in c.in_ok-descent.ensures.descent c.if-descent-key.false)
