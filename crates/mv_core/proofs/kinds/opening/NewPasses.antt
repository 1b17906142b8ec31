-- A pass of a new domain, by its place among the passes.
use Rattle.std.proofs.Common.{◌≡◌, ℕ, zero, suc, ◌<◌, List, length, get_or, refl, ap, ◌∙◌, None}
use Rattle.atomic_table.proofs.Lists.{at_index}
use Rattle.mv_history.specs.declared.Protocol.{Ghosts}
use Rattle.mv_core.proofs.Terms.{State, Config, Knowledge, Outside, view, config_of, start_of, IsOf, AreNew}
use Rattle.mv_core.specs.declared.shared.Shared.{Shared}
use Rattle.mv_core.specs.declared.shared.Pass.{Pass}
use Rattle.mv_core.specs.EnterSteps.{MayLoadLow}
use Rattle.mv_core.specs.Start.{starting_view}

-- the view with which a seat begins is outside a section, with no scan running
pub starts_outside : (c : Config) (start : State) (n : ℕ) → ((starting_view c start n).phase ≡ Outside) × ((starting_view c start n).scan ≡ None)
starts_outside c start zero = (refl, refl)
starts_outside c start (suc n) = (refl, refl)

module _ {P : Type 0} {g : Ghosts P} (s : Shared P) (ps : List (Pass P g)) (new : AreNew s ps) (k : ℕ) (p : Pass P g) (within : k < length ps)
    (at : p ≡ get_or ps k p) where
  -- it is of the domain
  pub new_is_of : IsOf s p
  new_is_of = (new k p (at_index ps k p within at)).0

  -- with the view of its seat
  pub new_view_is : view p ≡ starting_view (config_of s) (start_of s) k
  new_view_is = (new k p (at_index ps k p within at)).2

  -- so it may enter a section
  pub new_may_enter : MayLoadLow (view p)
  new_may_enter =
      let out = starts_outside (config_of s) (start_of s) k in
      record { outside = ap (λ (v : Knowledge). v.phase) new_view_is ∙ out.0; no_scan = ap (λ (v : Knowledge). v.scan) new_view_is ∙ out.1 }
