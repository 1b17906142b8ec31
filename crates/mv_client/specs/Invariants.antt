-- What commits keep, and how many there are.
use Rattle.std.specs.Prelude.{◌≡◌, ℕ, ◌+◌, List, [], ◌∷◌}
use Rattle.mv_history.specs.State.{State, Writes, written}
use Rattle.mv_history.specs.declared.history.Entry.{Entry}
use Rattle.mv_history.specs.declared.history.Entry.TheVariants.{Rest, Change}

-- P is kept by each commit that is allowed
abbrev pub IsKept : (List ℕ → State → Writes → Type 0) → (State → Type 0) → Type 0
IsKept allowed P = (tag : List ℕ) (s : State) (ws : Writes) → allowed tag s ws → P s → P (written s ws)

-- each commit that is allowed raises this number of the state by one
abbrev pub IsRaised : (List ℕ → State → Writes → Type 0) → (State → ℕ) → Type 0
IsRaised allowed f = (tag : List ℕ) (s : State) (ws : Writes) → allowed tag s ws → f (written s ws) ≡ f s + 1

-- how many of the entries are commits
abbrev pub count_changes : List Entry → ℕ
count_changes [] = 0
count_changes (Rest by ∷ es) = count_changes es
count_changes (Change c ∷ es) = 1 + count_changes es
