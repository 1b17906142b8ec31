use Rattle.std.proofs.Common.{sym, ap, ◌∙◌, length}
use Rattle.set_model.specs.Catalogue.{Map}
use Rattle.set_catalog.proofs.SetCalls.{at_list}
use Rattle.set_catalog.proofs.sets.size.Goals as goal

pub returns-in-List-clause-size : goal.returns-in-List-clause-size
returns-in-List-clause-size g c =
    c.size_in.ensures.size ∙ ap (λ (m : Map). length m) (sym (at_list _ _ _ c.in-List.ensures.0 c.in-List.ensures.1))
