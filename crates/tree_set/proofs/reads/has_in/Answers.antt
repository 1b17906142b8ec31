use Rattle.std.proofs.Common.{sym, ap}
use Rattle.set_model.specs.Catalogue.{has_key}
use Rattle.tree_set.proofs.Descents.{descent_has, no_keys}
use Rattle.tree_set.proofs.reads.has_in.Goals as goal

pub returns-in_default-clause-has : goal.returns-in_default-clause-has
returns-in_default-clause-has g c =
    sym (ap (has_key c.args.key) (no_keys _ _ c.requires.lawful c.requires.root_from c.requires.root_in c.in_default.ensures.empty))

pub returns-clause-has : goal.returns-clause-has
returns-clause-has g c =
    sym (descent_has _ _ _ _ _ _ _ _ c.requires.lawful c.requires.root_from c.requires.root_in c.in-Some.ensures.descent)
