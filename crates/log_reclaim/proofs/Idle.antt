-- A pass outside a section walks nowhere and writes nothing back.
use Rattle.std.proofs.Common.{◌≡◌, ℕ, List, None}
use Rattle.std.proofs.Props.{props}
use Rattle.std.proofs.Math.Logic.{∥∥₁_elim}
use mathlib.Core.Sum.{⊎_set}
use Rattle.mv_history.specs.State.{State, Writes}
use Rattle.seat_log.specs.mv_core.declared.view.Knowledge.{Knowledge}
use Rattle.seat_log.specs.mv_core.declared.view.Phase.TheVariants.{Outside}
use Rattle.seat_log.specs.mv_core.declared.view.WalkStage.TheVariants.{Nowhere}
use Rattle.seat_log.specs.mv_core.Known.{Known}

still_once : (v : Knowledge) → IsProp ((v.walk ≡ Nowhere) × (v.back ≡ None))
still_once v = hlevel (props, ⊎_set)

pub still_of : (starts : State → Type 0) (allows : List ℕ → State → Writes → Type 0) (v : Knowledge) → ∥ Known starts allows v ∥₁ → v.phase ≡ Outside
    → (v.walk ≡ Nowhere) × (v.back ≡ None)
still_of starts allows v known out = ∥∥₁_elim known (still_once v) (λ a. a.still out)
