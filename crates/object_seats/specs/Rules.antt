-- The rules of a domain of objects.
use Rattle.std.specs.Prelude.{ℕ, List, ⊤}
use Rattle.mv_history.specs.State.{State, Writes}

-- each opening state is lawful
abbrev pub IsAnyState : State → Type 0
IsAnyState state = ⊤

-- each commit is allowed
abbrev pub IsAnyCommit : List ℕ → State → Writes → Type 0
IsAnyCommit tag before writes = ⊤
