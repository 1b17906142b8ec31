-- Which states others may come to meanwhile, and which commits stay allowed there.
use Rattle.std.specs.Prelude.{◌≡◌, ℕ, List, [], ◌∷◌, ⊤}
use Rattle.mv_history.specs.State.{State, Writes, written}
use Rattle.mv_history.specs.Legal.{AreApart, AreWrites}

-- a commit as the rules see it: its tag and its writes
abbrev pub TaggedWrites : Type 0
TaggedWrites = List ℕ × Writes

-- the state after these commits
abbrev pub drifted : State → List TaggedWrites → State
drifted s [] = s
drifted s (c ∷ cs) = drifted (written s c.1) cs

-- the rules allow each of the commits on the state just before it
abbrev pub AreAllowed : (List ℕ → State → Writes → Type 0) → State → List TaggedWrites → Type 0
AreAllowed allowed s [] = ⊤
AreAllowed allowed s (c ∷ cs) = AreWrites c.1 × allowed c.0 s c.1 × AreAllowed allowed (written s c.1) cs

-- none of the commits writes a held object
abbrev pub Avoid : Writes → List TaggedWrites → Type 0
Avoid held [] = ⊤
Avoid held (c ∷ cs) = AreApart held c.1 × Avoid held cs

-- allowed commits, perhaps none, lead from one state to another, and none of them writes a held object
pub record Drifts (allowed : List ℕ → State → Writes → Type 0) (held : Writes) (from to : State) : Type 0 where
  pub commits : List TaggedWrites
  pub are_allowed : AreAllowed allowed from commits
  pub avoid : Avoid held commits
  pub leads : drifted from commits ≡ to

-- the commit is allowed on every state that drifts from this one under the objects that it writes
abbrev pub IsFit : (List ℕ → State → Writes → Type 0) → State → List ℕ → Writes → Type 0
IsFit allowed from tag ws = (s : State) → Drifts allowed ws from s → allowed tag s ws
