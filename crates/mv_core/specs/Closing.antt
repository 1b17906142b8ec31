-- How a domain ends.
use Rattle.std.specs.Prelude.{◌≡◌, ℕ, List}
use mathlib.Core.Option.{some}
use lib.ListN.{get_elem?}
use Rattle.atomic_table.specs.Table as table
use Rattle.mv_history.specs.State.{State, Writes}
use Rattle.mv_history.specs.declared.Protocol.{Ghosts}
use Rattle.mv_core.specs.declared.view.Knowledge.{Knowledge}
use Rattle.mv_core.specs.declared.shared.Shared.{Shared}
use Rattle.mv_core.specs.declared.shared.Pass.{Pass}
use Rattle.mv_core.specs.Passes.{view}
use Rattle.mv_core.specs.Rule.{Ruled}

-- the domain ended in a state of the rule, so one that was reached by moves, which has these words, and in which the seat of the pass has its very view
abbrev pub EndsIn : {P : Type 0} {g : Ghosts P} → (State → Type 0) → (List ℕ → State → Writes → Type 0) → Shared P → Pass P g
    → List ℕ → Type 0
EndsIn starts allows s p words =
    (last : table.State (List ℕ) Knowledge) × Ruled starts allows s.table.shared.key last × (get_elem? last.views p.seat.id ≡ some (view p))
    × (last.words ≡ words)
