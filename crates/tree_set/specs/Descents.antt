-- What is written where a search ended.
use Rattle.std.specs.Prelude.{ℕ, ◌≡◌}
use Rattle.mv_history.specs.State.{State, Writes}
use Rattle.mv_history.specs.Meaning.{words_at}
use Rattle.set_model.specs.Objects.{link}
use Rattle.set_model.specs.Lawful.{IsLawful}
use Rattle.list_set.specs.Places.{put_writes}
use Rattle.tree_set.specs.Places.{tree_add_writes, grow_writes, bare_writes, tree_del_writes}
use Rattle.tree_set.specs.Walks.{IsDescent}
use Rattle.tree_set.specs.declared.search.Descent.{Descent}

-- the words of the parent and of the grandparent are those of this state
pub record HasWords (s : State) (descent : Descent) : Type 0 where
  pub parent : descent.parent_words ≡ words_at s descent.parent
  pub grand : descent.grand_words ≡ words_at s descent.grand

-- the search for key k in this tree, in this state, ended here
pub record EndsHere (s : State) (root k : ℕ) (descent : Descent) : Type 0 where
  pub ends : IsDescent s root k descent.grand descent.parent descent.leaf descent.right descent.words
  pub words : HasWords s descent

-- wherever the tree is empty, these are the writes of an add of the key in this leaf
abbrev pub ArePlantWrites : ℕ → ℕ → ℕ → ℕ → Writes → Type 0
ArePlantWrites root k value leaf writes =
    (s : State) → IsLawful s → link s root ≡ 0 → writes ≡ tree_add_writes s root k value leaf

-- wherever the search ended here, these are the writes of an add of the key in these new nodes
abbrev pub AreGrowWrites : ℕ → ℕ → ℕ → ℕ → ℕ → Descent → Writes → Type 0
AreGrowWrites root k value leaf inner descent writes =
    (s : State) → EndsHere s root k descent → writes ≡ grow_writes s root k value descent.parent descent.leaf leaf inner

-- wherever a search ended here, these are the writes of a del of the tree's last leaf
abbrev pub AreBareWrites : ℕ → Descent → Writes → Type 0
AreBareWrites root descent writes = (s : State) (k : ℕ) → EndsHere s root k descent → writes ≡ bare_writes s root descent.leaf

-- wherever a search ended here, these are the writes of a del of the leaf and its parent
abbrev pub AreCutWrites : Descent → Writes → Type 0
AreCutWrites descent writes =
    (s : State) (root k : ℕ) → EndsHere s root k descent → writes ≡ tree_del_writes s descent.grand descent.parent descent.leaf

-- wherever a search ended here, these are the writes of a put of another value
abbrev pub ArePutWrites : ℕ → Descent → Writes → Type 0
ArePutWrites value descent writes = (s : State) (root k : ℕ) → EndsHere s root k descent → writes ≡ put_writes s descent.leaf value
