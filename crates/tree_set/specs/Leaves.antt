-- A walk over the leaves of a tree, from the left, that keeps the right links that it has still to follow in a table.
use Rattle.std.specs.Prelude.{ℕ, zero, suc, ◌≡◌, ◌+◌, ◌/◌, ◌≤◌, ◌⊎◌, ◌==◌, if◌then◌else◌, ⊤, List, []}
use Rattle.std.specs.Prelude.{◌∷◌, ◌++◌, length, slice_index_or, Option, Some, None}
use Rattle.mv_history.specs.State.{State}
use Rattle.set_model.specs.Catalogue.{Map}
use Rattle.tree_set.specs.declared.leaves.Leaves.{Leaves}
use Rattle.tree_set.specs.declared.leaves.Leaf.{Leaf}
use Rattle.set_model.specs.Trees.{Tree, top, objects_in, entries_in, Stands}
use Rattle.tree_set.specs.Walks.{walk_left}

-- trees stand at the objects in the first so many places of a table, the last place's first
abbrev pub ArePending : State → ℕ → List ℕ → ℕ → List Tree → Type 0
ArePending s root table zero [] = ⊤
ArePending s root table zero (t ∷ ts) = ⊥
ArePending s root table (suc held) [] = ⊥
ArePending s root table (suc held) (t ∷ ts) = Stands s root t × (slice_index_or table held 0 ≡ top t) × ArePending s root table held ts

-- the first of the trees stands at this node, and the others at the objects in the table; without trees the node is 0
abbrev pub AreAhead : State → ℕ → List ℕ → ℕ → ℕ → List Tree → Type 0
AreAhead s root table node held [] = node ≡ 0
AreAhead s root table node held (t ∷ ts) = Stands s root t × (node ≡ top t) × ArePending s root table held ts

-- the entries of trees, from the left
abbrev pub entries_of_all : List Tree → Map
entries_of_all [] = []
entries_of_all (t ∷ ts) = entries_in t ++ entries_of_all ts

-- how many objects trees have
abbrev pub count_objects : List Tree → ℕ
count_objects [] = 0
count_objects (t ∷ ts) = length (objects_in t) + count_objects ts

-- A walk stands at this node, with so many links pending in the table, and has still to pass these entries.
pub record IsWalk (s : State) (table : List ℕ) (node held : ℕ) (m : Map) : Type 0 where
  pub root : ℕ
  pub trees : List Tree
  pub ahead : AreAhead s root table node held trees
  pub entries : m ≡ entries_of_all trees
  pub few : count_objects trees + held ≤ length s
  pub room : held ≤ length table

-- this walk, with its links in the table, has these entries still to pass
abbrev pub Passes : State → List ℕ → Leaves → Map → Type 0
Passes s table walk m = IsWalk s table walk.node walk.held m

-- The walk has come to its end, or the table is full; these entries are still to pass.
pub record IsStopped (s : State) (table : List ℕ) (node held : ℕ) (m : Map) : Type 0 where
  pub walk : IsWalk s table node held m
  pub why : (node ≡ 0) ⊎ (held ≡ length table)

-- The walk passed this key and value, the first of these entries.
pub record IsPassed (s : State) (table : List ℕ) (node held : ℕ) (m : Map) (key value : ℕ) : Type 0 where
  pub rest : Map
  pub first : m ≡ (key, value) ∷ rest
  pub walk : IsWalk s table node held rest

-- a walk that had these entries to pass, after one more was asked for, by the answer
abbrev pub AfterNext : State → List ℕ → Leaves → Map → Option Leaf → Type 0
AfterNext s table walk m None = IsStopped s table walk.node walk.held m
AfterNext s table walk m (Some e) = IsPassed s table walk.node walk.held m e.key e.value

-- The walk passed so many of these entries, and then stopped.
pub record IsCounted (s : State) (table : List ℕ) (node held : ℕ) (m : Map) (count : ℕ) : Type 0 where
  pub rest : Map
  pub sum : count + length rest ≡ length m
  pub stopped : IsStopped s table node held rest

-- a walk that had these entries to pass, after so many were counted
abbrev pub AfterCount : State → List ℕ → Leaves → Map → ℕ → Type 0
AfterCount s table walk m count = IsCounted s table walk.node walk.held m count

-- how many leaves there are under the pending links: a tree has one inner node less than leaves
abbrev pub pending_leaves : State → List ℕ → ℕ → ℕ
pending_leaves s table zero = 0
pending_leaves s table (suc held) = (walk_left s (slice_index_or table held 0) + 1) / 2 + pending_leaves s table held

-- how many leaves a walk has still to pass
abbrev pub leaves_left : State → List ℕ → ℕ → ℕ → ℕ
leaves_left s table node held = if node == 0 then 0 else (walk_left s node + 1) / 2 + pending_leaves s table held
