-- The steps by which a tree is rebalanced, by the words of the objects that they name.
use Rattle.std.specs.Prelude.{ℕ, suc, ◌≡◌, ◌≤◌, Bool, false, ◌==◌, ◌||◌, eqb, ⊤, List, [], ◌∷◌, set, slice_index_or, if◌then◌else◌}
use Rattle.mv_history.specs.State.{State, Writes, written}
use Rattle.mv_history.specs.Meaning.{words_at}
use Rattle.set_model.specs.Objects.{revalue}
use Rattle.tree_balance.specs.declared.steps.BalanceStep.{BalanceStep}
use Rattle.tree_balance.specs.declared.steps.BalanceStep.TheVariants.{Rank, Rotate}
use Rattle.tree_set.specs.Places.{IsInner, IsChild, IsParent, redirect}

-- the words of the parent after a rotation: the child's inner subtree stands where the child stood
abbrev pub lowered : List ℕ → ℕ → List ℕ → List ℕ
lowered parent child words =
    if slice_index_or parent 3 0 == child then set parent 3 (slice_index_or words 4 0) else set parent 4 (slice_index_or words 3 0)

-- the words of the child after a rotation: the parent stands where the child's inner subtree stood
abbrev pub raised : List ℕ → ℕ → ℕ → List ℕ → List ℕ
raised parent_words parent child words =
    if slice_index_or parent_words 3 0 == child then set words 4 parent else set words 3 parent

-- what a step writes
abbrev pub step_writes : State → BalanceStep → Writes
step_writes s (Rank node rank) = (node, revalue (words_at s node) rank) ∷ []
step_writes s (Rotate grand parent child) =
    (grand, redirect (words_at s grand) parent child) ∷ (parent, lowered (words_at s parent) child (words_at s child))
    ∷ (child, raised (words_at s parent) parent child (words_at s child)) ∷ []

-- the objects of the step are inner nodes of the tree, each a child of the one before it; the grandparent may be the root
abbrev pub IsStep : State → ℕ → BalanceStep → Type 0
IsStep s root (Rank node rank) = IsInner s root node
IsStep s root (Rotate grand parent child) = IsParent s root grand parent × IsInner s root parent × IsChild s parent child × IsInner s root child

-- the state after a step
abbrev pub stepped : State → BalanceStep → State
stepped s step = written s (step_writes s step)

-- the state after several steps
abbrev pub after_steps : State → List BalanceStep → State
after_steps s [] = s
after_steps s (step ∷ steps) = after_steps (stepped s step) steps

-- each step fits the state that those before it leave
abbrev pub AreSteps : State → ℕ → List BalanceStep → Type 0
AreSteps s root [] = ⊤
AreSteps s root (step ∷ steps) = IsStep s root step × AreSteps (stepped s step) root steps

-- whether a step names the object
abbrev pub names : List BalanceStep → ℕ → Bool
names [] o = false
names (Rank node rank ∷ steps) o = eqb node o || names steps o
names (Rotate grand parent child ∷ steps) o = eqb grand o || (eqb parent o || (eqb child o || names steps o))

-- the object with these words is an inner node of the tree
abbrev pub HasInner : ℕ → ℕ → List ℕ → Type 0
HasInner root object words = (180 ≤ object) × (slice_index_or words 0 0 ≡ suc root) × (slice_index_or words 1 0 ≡ 2)
