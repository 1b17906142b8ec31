-- A walk down a tree that looks for a key.
use Rattle.std.specs.Prelude.{ℕ, zero, suc, ◌≡◌, ◌+◌, ◌≤◌, ◌==◌, List, length, if◌then◌else◌}
use Rattle.mv_history.specs.State.{State}
use Rattle.set_model.specs.Objects.{kind, link, right_link, leaf_words}
use Rattle.set_model.specs.Trees.{Tree, top, objects_in, Stands, HoldsTree}
use Rattle.set_model.specs.Trees.Tree.{leaf, inner}
use Rattle.tree_set.specs.Paths.{Path, plug, parent_of, grand_of, right_of, Follows}

-- the number of nodes at and under an object, as far down as so many steps lead
unfoldable pub nodes_under : ℕ → State → ℕ → ℕ
nodes_under zero s node = 0
nodes_under (suc steps) s node =
    if kind s node == 2 then suc (nodes_under steps s (link s node) + nodes_under steps s (right_link s node)) else 1

-- how far a walk can go on
abbrev pub walk_left : State → ℕ → ℕ
walk_left s node = nodes_under (length s) s node

-- The search for key k has come to this node, by this parent and the one before it, and `right` is what it last left on the right.
pub record IsDescending (s : State) (root k grand parent node right : ℕ) : Type 0 where
  pub path : Path
  pub part : Tree
  pub grown : HoldsTree s root (plug path part)
  pub here : node ≡ top part
  pub follows : Follows k path
  pub parent_is : parent ≡ parent_of root path
  pub grand_is : grand ≡ grand_of root root path
  pub right_is : right ≡ right_of 0 path

-- What the search for key k found: a leaf with its words, and what a descending has.
pub record IsDescent (s : State) (root k grand parent node right : ℕ) (words : List ℕ) : Type 0 where
  pub path : Path
  pub key : ℕ
  pub value : ℕ
  pub grown : HoldsTree s root (plug path (leaf node key value))
  pub words_are : words ≡ leaf_words root key value
  pub follows : Follows k path
  pub parent_is : parent ≡ parent_of root path
  pub grand_is : grand ≡ grand_of root root path
  pub right_is : right ≡ right_of 0 path

-- a tree stands at this node, with no more nodes than there are objects
pub record IsSubtree (s : State) (root node : ℕ) : Type 0 where
  pub part : Tree
  pub stands : Stands s root part
  pub here : node ≡ top part
  pub few : length (objects_in part) ≤ length s

-- the key of the leftmost leaf
abbrev pub first_key : Tree → ℕ
first_key (leaf n k v) = k
first_key (inner n d a b) = first_key a

-- The walk to the leftmost leaf stands at this node, from where the tree's first key is as at the start.
pub record IsLeftmost (s : State) (root start node : ℕ) : Type 0 where
  pub part : Tree
  pub stands : Stands s root part
  pub here : node ≡ top part
  pub few : length (objects_in part) ≤ length s
  pub same : (t : Tree) → Stands s root t → start ≡ top t → first_key part ≡ first_key t
