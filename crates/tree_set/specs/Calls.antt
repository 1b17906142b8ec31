-- What the calls that lock write, and what they leave, by their answers.
use Rattle.std.specs.Prelude.{ℕ, ◌≡◌}
use Rattle.mv_history.specs.State.{State, Writes}
use Rattle.mv_history.specs.Meaning.{InSection, state_of}
use Rattle.set_model.specs.Catalogue.{with_key, without_key}
use Rattle.set_model.specs.CatalogueOf.{name_of, catalogue_of}
use Rattle.set_model.specs.Objects.{link}
use Rattle.section_work.specs.OwnWrites.{objects_of}
use Rattle.set_model.specs.Lawful.{IsLawful}
use Rattle.section_work.specs.Locking.{Rewritten}
use Rattle.tree_set.specs.Places.{tree_add_writes, IsGrowPlace, grow_writes, IsBarePlace, bare_writes, IsCutPlace, tree_del_writes}

-- What an add writes, which are all the objects that it locks: in an empty tree the first leaf, else a leaf beside the one
-- where the search ends.
pub data IsAdd (s : State) (root k value leaf inner : ℕ) : Writes → Type 0 where
  first_leaf : link s root ≡ 0 → IsAdd s root k value leaf inner (tree_add_writes s root k value leaf)
  beside_leaf : (parent other : ℕ) → IsGrowPlace s root k parent other
      → IsAdd s root k value leaf inner (grow_writes s root k value parent other leaf inner)

-- What a del writes, which are all the objects that it locks, for this leaf and this inner node: the last leaf of the tree, with
-- no inner node (0), or else a leaf and its parent.
pub data IsDel (s : State) (root k : ℕ) : ℕ → ℕ → Writes → Type 0 where
  last_leaf : (leaf : ℕ) → IsBarePlace s root k leaf → IsDel s root k leaf 0 (bare_writes s root leaf)
  leaf_and_parent : (grand parent leaf : ℕ) → IsCutPlace s root k grand parent leaf → IsDel s root k leaf parent (tree_del_writes s grand parent leaf)

-- The section holds the objects of these writes too and has written them, and its state is lawful, with the key at this value.
pub record Gains (old new : InSection) (root k value : ℕ) (writes : Writes) : Type 0 where
  pub change : Rewritten old new (objects_of writes) writes
  pub lawful : IsLawful (state_of new)
  pub catalogue : catalogue_of (state_of new) ≡ with_key (name_of root) k value (catalogue_of (state_of old))

-- The section holds the objects of these writes too and has written them, and its state is lawful, without the key.
pub record Loses (old new : InSection) (root k : ℕ) (writes : Writes) : Type 0 where
  pub change : Rewritten old new (objects_of writes) writes
  pub lawful : IsLawful (state_of new)
  pub catalogue : catalogue_of (state_of new) ≡ without_key (name_of root) k (catalogue_of (state_of old))
