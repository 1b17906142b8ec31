-- The clients of a new domain are ready.
use Rattle.std.proofs.Common.{◌≡◌, ℕ, zero, suc, None, List, [], ◌∷◌, ◌++◌, All, refl, sym, ap, ◌∙◌, subst}
use mathlib.Core.Option.{some}
use lib.ListN.{get_elem?}
use Rattle.std.proofs.lemmas.List.Elements.{All-nil, All-cons, All-head, All-tail}
use Rattle.mv_history.specs.declared.Protocol.{Ghosts}
use Rattle.mv_history.specs.declared.rules.AnyRules.{AnyRules}
use Rattle.mv_core.specs.declared.shared.Shared.{Shared}
use Rattle.mv_core.specs.declared.shared.Pass.{Pass}
use Rattle.mv_core.specs.Passes.{view, config_of, start_of, AreNew}
use Rattle.mv_core.specs.Start.{starting_view}
use Rattle.mv_history.specs.State.{State}
use Rattle.mv_layout.specs.declared.Config.{Config}
use Rattle.mv_layout.specs.Limits.{Checked}
use Rattle.mv_core.specs.declared.view.Phase.TheVariants.{Outside}
use Rattle.mv_core.specs.declared.view.Knowledge.{Knowledge}
use Rattle.seat_log.specs.Notes.{Noted, nothing_noted}
use Rattle.seat_log.specs.Stands.{Stands}
use Rattle.seat_log.proofs.Beginning.{stands_new}
use Rattle.runtime_tests.specs.Clients.{IsOutside, IsNew}

pub all_new : {g : Ghosts AnyRules} (s : Shared AnyRules) (ps : List (Pass AnyRules g))
    → ((k : ℕ) (p : Pass AnyRules g) → get_elem? ps k ≡ some p → IsNew s p) → All (IsNew s) ps
all_new s [] h = All-nil (IsNew s)
all_new s (p ∷ ps) h = All-cons (IsNew s) p ps (h 0 p refl) (all_new s ps (λ k q e. h (suc k) q e))

pub news : {g : Ghosts AnyRules} (s : Shared AnyRules) (ps : List (Pass AnyRules g)) → AreNew s ps → All (IsNew s) ps
news s ps new = all_new s ps (λ k p e. let a = new k p e in (a.0, a.2 ∙ ap (λ n. starting_view (config_of s) (start_of s) n) (sym a.1)))

pub split_new : {g : Ghosts AnyRules} (s : Shared AnyRules) (qs : List (Pass AnyRules g)) (p : Pass AnyRules g) → All (IsNew s) (qs ++ p ∷ [])
    → All (IsNew s) qs × IsNew s p
split_new s [] p all = (All-nil (IsNew s), All-head (IsNew s) p [] all)
split_new s (q ∷ qs) p all =
    let r = split_new s qs p (All-tail (IsNew s) q (qs ++ p ∷ []) all) in (All-cons (IsNew s) q qs (All-head (IsNew s) q (qs ++ p ∷ []) all) r.0, r.1)

starts_outside : (c : Config) (start : State) (n : ℕ) → ((starting_view c start n).phase ≡ Outside) × ((starting_view c start n).scan ≡ None)
starts_outside c start zero = (refl, refl)
starts_outside c start (suc n) = (refl, refl)

pub ready_new : {g : Ghosts AnyRules} (s : Shared AnyRules) (p : Pass AnyRules g) (l : Noted) (seat slots : ℕ) → Checked (config_of s) → IsNew s p
    → seat ≡ p.number → slots ≡ (config_of s).slots → l ≡ nothing_noted seat slots → IsOutside (config_of s) (view p) l
ready_new s p l seat slots checked new seat_is slots_is noted =
    let at : Stands (config_of s) (starting_view (config_of s) (start_of s) p.number) (nothing_noted p.number (config_of s).slots) =
    stands_new (config_of s) (start_of s) p.number checked new.0.1 in
    record {
      may = record {
        outside = ap (λ (v : Knowledge). v.phase) new.1 ∙ (starts_outside (config_of s) (start_of s) p.number).0;
        no_scan = ap (λ (v : Knowledge). v.scan) new.1 ∙ (starts_outside (config_of s) (start_of s) p.number).1;
      };
      stands = subst (λ (m : Noted). Stands (config_of s) (view p) m) (sym (noted ∙ (λ i. nothing_noted (seat_is i) (slots_is i))))
          (subst (λ (v : Knowledge). Stands (config_of s) v (nothing_noted p.number (config_of s).slots)) (sym new.1) at);
      unbuilt = ap (λ (m : Noted). m.built) noted;
    }
