-- How deep a search ends.
use Rattle.std.specs.Prelude.{ℕ, zero, suc, ◌≡◌, ◌+◌, ◌≤◌, ◌==◌, nat_lt, if◌then◌else◌}
use Rattle.mv_history.specs.State.{State}
use Rattle.set_model.specs.Objects.{key, link, right_link}
use Rattle.set_model.specs.Trees.{Tree, top, Stands, HoldsTree}
use Rattle.set_model.specs.Trees.Tree.{leaf, inner}

-- how many inner nodes the search for the key passes
abbrev pub depth_of : ℕ → Tree → ℕ
depth_of k (leaf n j v) = zero
depth_of k (inner n d a b) = suc (if nat_lt k d then depth_of k a else depth_of k b)

-- the object to which the search for the key goes from this one, or 0 where it ends here
abbrev pub child_for : State → ℕ → ℕ → ℕ
child_for s k object =
    if link s object == 0 then 0 else (if nat_lt k (key s object) then link s object else right_link s object)

-- The search for the key has come to this node, and so many objects of its way are remembered: the root, and no more than the inner
-- nodes that it passed.
abbrev pub IsPassed : State → ℕ → ℕ → ℕ → ℕ → Type 0
IsPassed s root k node count =
    (t : Tree) → HoldsTree s root t → (part : Tree) × Stands s root part × (node ≡ top part) × (count + depth_of k part ≤ suc (depth_of k t))

-- so many objects are remembered at most: the root, and each inner node of the way
abbrev pub IsOfWay : State → ℕ → ℕ → ℕ → Type 0
IsOfWay s root k count = (t : Tree) → HoldsTree s root t → count ≤ suc (depth_of k t)
