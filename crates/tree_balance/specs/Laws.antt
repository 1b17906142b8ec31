-- What steps keep, and what an add and steps after it do.
use Rattle.std.specs.Prelude.{ℕ, ◌≡◌, ◌≢◌, ◌^◌, ◌<◌, ◌≤◌, true, length, List}
use Rattle.mv_history.specs.State.{State, Writes, written}
use Rattle.mv_history.specs.Legal.{are_distinct, AreWithin}
use Rattle.mv_history.specs.Drift.{IsFit}
use Rattle.set_model.specs.Catalogue.{with_key}
use Rattle.set_model.specs.CatalogueOf.{name_of, catalogue_of}
use Rattle.set_model.specs.Objects.{owner, kind, key}
use Rattle.set_model.specs.Trees.{EndsAt}
use Rattle.set_model.specs.Lawful.{IsLawful}
use Rattle.set_model.specs.Rules.{Keeps, IsSetCommit}
use Rattle.set_model.specs.Tags.{tag_of}
use Rattle.set_model.specs.declared.commands.Command.TheVariants.{Add, Put}
use Rattle.tree_set.specs.Places.{IsGrowPlace, grow_writes}
use Rattle.tree_balance.specs.declared.steps.BalanceStep.{BalanceStep}
use Rattle.tree_balance.specs.Steps.{after_steps, AreSteps}
use Rattle.tree_balance.specs.Drafts.{IsDraft}

-- The second state is lawful too and stands for the same catalogue, each object keeps its owner, its kind and its key, and each
-- search in the tree ends at the leaf where it ended.
pub record KeepsTree (s s' : State) (root : ℕ) : Type 0 where
  pub lawful : IsLawful s'
  pub catalogue : catalogue_of s' ≡ catalogue_of s
  pub owners : (o : ℕ) → owner s' o ≡ owner s o
  pub kinds : (o : ℕ) → kind s' o ≡ kind s o
  pub keys : (o : ℕ) → key s' o ≡ key s o
  pub ends : (k l : ℕ) → EndsAt s root k l → EndsAt s' root k l

-- steps keep all that a tree stands for
abbrev pub StepsKeepTheTree : Type 0
StepsKeepTheTree =
    (s : State) (root : ℕ) (steps : List BalanceStep) → 170 ≤ root → root < 180 → IsLawful s → AreSteps s root steps → KeepsTree s (after_steps s steps) root

-- what an add and steps after it leave is what the add alone would leave: it keeps what a commit of the sets must keep, and has
-- the key at its value
abbrev pub StepsAfterAnAdd : Type 0
StepsAfterAnAdd =
    (s : State) (root k v p l m w : ℕ) (ws : Writes) → 170 ≤ root → root < 180 → k < 2 ^ 32 → IsLawful s → IsGrowPlace s root k p l
    → (180 ≤ m) × (m < length s) × (owner s m ≡ 0) → (180 ≤ w) × (w < length s) × (owner s w ≡ 0) → m ≢ w
    → IsDraft s root (grow_writes s root k v p l m w) ws
    → Keeps s (written s ws) ws × (catalogue_of (written s ws) ≡ with_key (name_of root) k v (catalogue_of s))

-- The writes are of different objects in range, and a commit of them is fit, as a put of the key with this value, and as an add where
-- that is 0: it is allowed on the state and on each to which others may lead that write none of these objects.
pub record IsFitAdd (s : State) (root k v : ℕ) (ws : Writes) : Type 0 where
  pub distinct : are_distinct ws ≡ true
  pub within : AreWithin ws (length s)
  pub some : 0 < length ws
  pub put : IsFit IsSetCommit s (tag_of (Put (name_of root) k v)) ws
  pub add : v ≡ 0 → IsFit IsSetCommit s (tag_of (Add (name_of root) k)) ws

-- a commit of an add and of steps after it is fit
abbrev pub AddsWithStepsAreFit : Type 0
AddsWithStepsAreFit =
    (s : State) (root k v p l m w : ℕ) (ws : Writes) → 170 ≤ root → root < 180 → k < 2 ^ 32 → v < 2 ^ 64 → IsLawful s → IsGrowPlace s root k p l
    → (180 ≤ m) × (m < length s) × (owner s m ≡ 0) → (180 ≤ w) × (w < length s) × (owner s w ≡ 0) → m ≢ w
    → IsDraft s root (grow_writes s root k v p l m w) ws → IsFitAdd s root k v ws
