-- A clock word that a pass has loaded and that names no commit counts as helped: every pass knows that.
use Rattle.std.proofs.Common.{◌≡◌, ◌⊎◌, ℕ, ◌<◌, List, [], ◌∷◌, ⊎_elim, subst, inl, inr, arith}
use Rattle.std.proofs.Math.Logic.{∥∥₁_elim}
use Rattle.std.proofs.lemmas.List.Elements.{Contains-append_left, Contains-append_right, Contains-append_cases, Contains-push}
use Rattle.std.specs.Prelude.{Contains}
use mathlib.Core.Logic.{dite}
use native.Mathlib.Decide.{ℕ_discrete}
use Rattle.mv_history.specs.State.{State, Writes}
use Rattle.mv_layout.specs.Words.{clock_slot_of}
use Rattle.mv_core.specs.declared.view.Knowledge.{Knowledge}
use Rattle.mv_core.specs.Known.{Known}

-- a list of numbers has a number, or hasn't
decides : (xs : List ℕ) (x : ℕ) → Contains xs x ⊎ ¬ (Contains xs x)
decides [] x = inr (λ has. let lt : has.0 < 0 = has.1 in absurd (omega arith))
decides (y ∷ ys) x =
    dite (ℕ_discrete y x)
    (λ e. inl (Contains-append_left (y ∷ []) ys x (subst (Contains (y ∷ [])) e (Contains-push [] y))))
    (λ ne. ⊎_elim
    (λ has. inl (Contains-append_right (y ∷ []) ys x has))
    (λ none. inr (λ has. ⊎_elim (λ first. ne (single first)) none (Contains-append_cases (y ∷ []) ys x has)))
    (decides ys x))
  where
    single : Contains (y ∷ []) x → y ≡ x
    single a = grind arith

pub none_is_helped : (starts : State → Type 0) (allows : List ℕ → State → Writes → Type 0) (v : Knowledge) (word : ℕ) → ∥ Known starts allows v ∥₁
    → Contains v.clocks.loaded word → clock_slot_of word ≡ 8191 → Contains v.clocks.helped word
none_is_helped starts allows v word known loaded none =
    ⊎_elim (λ a. a) (λ un. absurd (∥∥₁_elim known (λ a b. absurd a) (λ k. un (k.none word loaded none)))) (decides v.clocks.helped word)
