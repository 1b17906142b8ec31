-- Where the calls of a tree work, and what they write.
use Rattle.std.specs.Prelude.{ℕ, suc, ◌≡◌, ◌≢◌, ◌≤◌, ◌⊎◌, ◌==◌, nat_lt, List, [], ◌∷◌, set, slice_index_or}
use Rattle.std.specs.Prelude.{if◌then◌else◌}
use Rattle.mv_history.specs.State.{State, Writes}
use Rattle.mv_history.specs.Meaning.{words_at}
use Rattle.set_model.specs.Objects.{first_node, owner, kind, key, link, right_link, leaf_words, inner_words, no_words, relink}
use Rattle.set_model.specs.Trees.{EndsAt}

-- the object is an inner node of the tree
abbrev pub IsInner : State → ℕ → ℕ → Type 0
IsInner s root o = (first_node ≤ o) × (owner s o ≡ suc root) × (kind s o ≡ 2)

-- the object is the tree's leaf with this key
abbrev pub IsLeaf : State → ℕ → ℕ → ℕ → Type 0
IsLeaf s root k o = (first_node ≤ o) × (owner s o ≡ suc root) × (kind s o ≡ 1) × (key s o ≡ k)

-- the node is a child of the inner node
abbrev pub IsChild : State → ℕ → ℕ → Type 0
IsChild s parent node = (link s parent ≡ node) ⊎ (right_link s parent ≡ node)

-- the parent is the root, whose tree begins with the node, or an inner node of the tree with the node as a child
abbrev pub IsParent : State → ℕ → ℕ → ℕ → Type 0
IsParent s root parent node = ((parent ≡ root) × (link s root ≡ node)) ⊎ (IsInner s root parent × IsChild s parent node)

-- the words with the link that led to one node leading to another one
abbrev pub redirect : List ℕ → ℕ → ℕ → List ℕ
redirect words old new = if slice_index_or words 3 0 == old then set words 3 new else set words 4 new

-- the words of an inner node of rank 0 over a new leaf and the leaf beside it: the larger of their keys divides them
abbrev pub inner_over : ℕ → ℕ → ℕ → ℕ → ℕ → List ℕ
inner_over root k new_leaf j leaf = if nat_lt k j then inner_words root j new_leaf leaf 0 else inner_words root k leaf new_leaf 0

-- the first leaf of an empty tree: the link of the root, and the words of the leaf
abbrev pub tree_add_writes : State → ℕ → ℕ → ℕ → ℕ → Writes
tree_add_writes s root k value leaf = (root, relink (words_at s root) leaf) ∷ (leaf, leaf_words root k value) ∷ []

-- The search for the key ends at this leaf, which has another key, and this is its parent.
pub record IsGrowPlace (s : State) (root k parent leaf : ℕ) : Type 0 where
  pub above : IsParent s root parent leaf
  pub ends : EndsAt s root k leaf
  pub other : key s leaf ≢ k

-- a leaf more: the link of the parent, the leaf as it was, and the words of the new leaf and the new inner node
abbrev pub grow_writes : State → ℕ → ℕ → ℕ → ℕ → ℕ → ℕ → ℕ → Writes
grow_writes s root k value parent leaf new_leaf new_inner =
    (parent, redirect (words_at s parent) leaf new_inner) ∷ (leaf, words_at s leaf) ∷ (new_leaf, leaf_words root k value)
    ∷ (new_inner, inner_over root k new_leaf (key s leaf) leaf) ∷ []

-- the other child of an inner node
abbrev pub sibling : State → ℕ → ℕ → ℕ
sibling s parent leaf = if link s parent == leaf then right_link s parent else link s parent

-- This leaf, with the key, is all of the tree.
pub record IsBarePlace (s : State) (root k leaf : ℕ) : Type 0 where
  pub first : link s root ≡ leaf
  pub is_leaf : IsLeaf s root k leaf

-- the last leaf of a tree: the link of the root, and the leaf, which becomes zero
abbrev pub bare_writes : State → ℕ → ℕ → Writes
bare_writes s root leaf = (root, relink (words_at s root) 0) ∷ (leaf, no_words) ∷ []

-- This leaf has the key, an inner node is its parent, and the root or an inner node is the parent's parent.
pub record IsCutPlace (s : State) (root k grand parent leaf : ℕ) : Type 0 where
  pub above : IsParent s root grand parent
  pub is_inner : IsInner s root parent
  pub child : IsChild s parent leaf
  pub is_leaf : IsLeaf s root k leaf

-- a leaf less: the link of the grandparent, which leads to the leaf's sibling, and the parent and the leaf, which become zero
abbrev pub tree_del_writes : State → ℕ → ℕ → ℕ → Writes
tree_del_writes s grand parent leaf =
    (grand, redirect (words_at s grand) parent (sibling s parent leaf)) ∷ (parent, no_words) ∷ (leaf, no_words) ∷ []
