-- A list by its links alone.
use Rattle.std.specs.Prelude.{ℕ, suc, ◌≡◌, ◌≢◌, ◌^◌, ◌<◌, ◌≤◌, length}
use Rattle.mv_history.specs.State.{State}
use Rattle.set_model.specs.Objects.{first_node, owner, kind, key, link}
use Rattle.list_set.specs.Places.{IsInList}

-- the object is a node of the head's list
abbrev pub IsNodeOf : State → ℕ → ℕ → Type 0
IsNodeOf s head o = (first_node ≤ o) × (owner s o ≡ suc head)

-- the node comes after this object of the list: after the head every node comes, after a node those with greater keys
abbrev pub IsAfter : State → ℕ → ℕ → ℕ → Type 0
IsAfter s head o n = IsNodeOf s head o → key s o < key s n

-- The head leads through all nodes that name it, with strictly rising keys: each object of the list leads to the node with the least key of
-- those that come after it, or to none, 0, where none does; and no two nodes have one key.
pub record IsLinked (s : State) (head : ℕ) : Type 0 where
  pub here : head < length s
  pub unowned : owner s head ≡ 0
  pub kinds : (n : ℕ) → IsNodeOf s head n → kind s n ≡ 0
  pub fits : (n : ℕ) → IsNodeOf s head n → key s n < 2 ^ 32
  pub leads : (o : ℕ) → IsInList s head o → link s o ≢ 0 → IsNodeOf s head (link s o) × IsAfter s head o (link s o)
  pub least : (o n : ℕ) → IsInList s head o → IsNodeOf s head n → IsAfter s head o n → (link s o ≢ 0) × (key s (link s o) ≤ key s n)
  pub once : (n m : ℕ) → IsNodeOf s head n → IsNodeOf s head m → key s n ≡ key s m → n ≡ m
