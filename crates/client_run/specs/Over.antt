-- When a whole history has come to its end, and what tasks tell that may come to it.
use Rattle.std.specs.Prelude.{◌≡◌, ℕ, ◌+◌, ◌<◌, ◌≤◌, List, length}
use mathlib.Core.Option.{some}
use lib.ListN.{get_elem?}
use Rattle.mv_history.specs.declared.history.TheConstants.{LAST}
use Rattle.mvrlu.specs.Whole.{Whole}

-- the last time of the domain has been reached
abbrev pub IsOver : Whole → Type 0
IsOver w = w.base + length w.history ≡ LAST

-- each task made as many commits as it was asked for, unless the last time came
abbrev pub EachTold : {T : Type 0} → (T → ℕ) → (T → ℕ) → List T → List T → Whole → Type 0
EachTold {T} asked told olds news w = (k : ℕ) (n : T) → get_elem? news k ≡ some n
    → (o : T) × (get_elem? olds k ≡ some o) × (told n ≤ asked o) × (told n < asked o → IsOver w)
