use Rattle.std.proofs.Common.{sym, ap, ◌∙◌}
use Rattle.set_model.specs.Catalogue.{Map, has_key}
use Rattle.set_catalog.proofs.SetCalls.{at_list}
use Rattle.set_catalog.proofs.sets.has.Goals as goal

pub returns-in-List-clause-has : goal.returns-in-List-clause-has
returns-in-List-clause-has g c =
    c.has_near.ensures.has ∙ ap (λ (m : Map). has_key c.args.key m) (sym (at_list _ _ _ c.in-List.ensures.0 c.in-List.ensures.1))
