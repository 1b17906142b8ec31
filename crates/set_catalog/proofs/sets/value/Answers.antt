use Rattle.std.proofs.Common.{sym, ap, ◌∙◌}
use Rattle.set_model.specs.Catalogue.{Map, value_of}
use Rattle.set_catalog.proofs.SetCalls.{at_list}
use Rattle.set_catalog.proofs.sets.value.Goals as goal

pub returns-in-List-clause-value : goal.returns-in-List-clause-value
returns-in-List-clause-value g c =
    c.get_near.ensures.value ∙ ap (λ (m : Map). value_of c.args.key m) (sym (at_list _ _ _ c.in-List.ensures.0 c.in-List.ensures.1))
