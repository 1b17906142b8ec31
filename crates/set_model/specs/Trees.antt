-- The leaf-oriented search tree of a root: its keys are in its leaves, and an inner node divides those of its two children.
use Rattle.std.specs.Prelude.{ℕ, suc, ◌≡◌, ◌^◌, ◌<◌, ◌≤◌, nat_lt, if◌then◌else◌, Bool, true, false, eqb, ◌||◌, ⊤}
use Rattle.std.specs.Prelude.{List, [], ◌∷◌, ◌++◌, Option, Some, None}
use Rattle.mv_history.specs.State.{State}
use Rattle.mv_history.specs.Meaning.{words_at}
use Rattle.set_model.specs.Catalogue.{Map}
use Rattle.set_model.specs.Objects.{first_node, owner, rank, head_words, leaf_words, inner_words}

-- a tree: one leaf, or an inner node over two trees
pub data Tree : Type 0 where
  -- an object with its key and value
  leaf : ℕ → ℕ → ℕ → Tree
  -- an object with its dividing key, and the trees to its left and right
  inner : ℕ → ℕ → Tree → Tree → Tree

-- the topmost object
abbrev pub top : Tree → ℕ
top (leaf n k v) = n
top (inner n d a b) = n

-- the objects of the tree
abbrev pub objects_in : Tree → List ℕ
objects_in (leaf n k v) = n ∷ []
objects_in (inner n d a b) = n ∷ (objects_in a ++ objects_in b)

-- whether the object is one of these
abbrev pub is_in : ℕ → List ℕ → Bool
is_in o [] = false
is_in o (n ∷ ns) = eqb o n || is_in o ns

-- no object is there twice
abbrev pub IsDistinct : List ℕ → Type 0
IsDistinct [] = ⊤
IsDistinct (n ∷ ns) = (is_in n ns ≡ false) × IsDistinct ns

-- the keys of the leaves with their values, from the left
abbrev pub entries_in : Tree → Map
entries_in (leaf n k v) = (k, v) ∷ []
entries_in (inner n d a b) = entries_in a ++ entries_in b

-- every leaf's key is below this one
abbrev pub AllBelow : ℕ → Tree → Type 0
AllBelow d (leaf n k v) = k < d
AllBelow d (inner n e a b) = AllBelow d a × AllBelow d b

-- no leaf's key is
abbrev pub AllFrom : ℕ → Tree → Type 0
AllFrom d (leaf n k v) = d ≤ k
AllFrom d (inner n e a b) = AllFrom d a × AllFrom d b

-- at each inner node the keys to the left are below the dividing key, and those to the right are not
abbrev pub IsOrdered : Tree → Type 0
IsOrdered (leaf n k v) = ⊤
IsOrdered (inner n d a b) = AllBelow d a × AllFrom d b × IsOrdered a × IsOrdered b

-- each object's words are those of its kind, and lead to its children; an inner node has whatever rank it has
abbrev pub Stands : State → ℕ → Tree → Type 0
Stands s root (leaf n k v) = (first_node ≤ n) × (k < 2 ^ 32) × (words_at s n ≡ leaf_words root k v)
Stands s root (inner n d a b) =
    (first_node ≤ n) × (d < 2 ^ 32) × (words_at s n ≡ inner_words root d (top a) (top b) (rank s n)) × Stands s root a × Stands s root b

-- The root leads to this ordered tree, of distinct objects, and they are all that name it as their owner.
pub record HoldsTree (s : State) (root : ℕ) (t : Tree) : Type 0 where
  pub first : words_at s root ≡ head_words (top t)
  pub stands : Stands s root t
  pub ordered : IsOrdered t
  pub distinct : IsDistinct (objects_in t)
  pub only : (o : ℕ) → first_node ≤ o → owner s o ≡ suc root → is_in o (objects_in t) ≡ true

-- the tree of a root, or none where it leads nowhere and nothing names it
abbrev pub IsTree : State → ℕ → Option Tree → Type 0
IsTree s root None = (words_at s root ≡ head_words 0) × ((o : ℕ) → first_node ≤ o → owner s o ≡ suc root → ⊥)
IsTree s root (Some t) = HoldsTree s root t

-- the leaf at which the search for the key ends
abbrev pub seek : ℕ → Tree → ℕ
seek k (leaf n j v) = n
seek k (inner n d a b) = if nat_lt k d then seek k a else seek k b

-- the search for the key from this root ends at this leaf
abbrev pub EndsAt : State → ℕ → ℕ → ℕ → Type 0
EndsAt s root k l = (t : Tree) × HoldsTree s root t × (seek k t ≡ l)
