use Rattle.std.proofs.Common.{sym, ap, ◌∙◌}
use Rattle.set_model.specs.Catalogue.{Map, next_key}
use Rattle.set_catalog.proofs.SetCalls.{at_list}
use Rattle.set_catalog.proofs.sets.next.Goals as goal

pub returns-in-List-clause-next : goal.returns-in-List-clause-next
returns-in-List-clause-next g c =
    c.next_near.ensures.next ∙ ap (λ (m : Map). next_key c.args.key m) (sym (at_list _ _ _ c.in-List.ensures.0 c.in-List.ensures.1))
