-- The writes of an add and of the steps that follow it in the same commit.
use Rattle.std.specs.Prelude.{ℕ, ◌≡◌, ◌+◌, ◌<◌, ◌≤◌, true, false, ◌||◌, length, slice_index_or, if◌then◌else◌, List, [], ◌∷◌, ◌++◌, take}
use Rattle.mv_history.specs.State.{State, Writes, written, touches, rewritten}
use Rattle.mv_history.specs.Legal.{are_distinct}
use Rattle.set_model.specs.Catalogue.{with_key}
use Rattle.set_model.specs.CatalogueOf.{name_of, catalogue_of}
use Rattle.set_model.specs.Lawful.{IsLawful}
use Rattle.tree_set.specs.Places.{grow_writes}
use Rattle.tree_balance.specs.declared.plan.WritePlan.{WritePlan}
use Rattle.tree_balance.specs.declared.steps.BalanceStep.{BalanceStep}
use Rattle.tree_balance.specs.Steps.{after_steps, AreSteps, names}

-- the writes, in the order of locking
abbrev pub writes_in : WritePlan → Writes
writes_in plan = take plan.count plan.writes

-- the first of the writes of this object is here
abbrev pub IsPlaceOf : Writes → ℕ → ℕ → Type 0
IsPlaceOf ws o i = (i < length ws) × ((slice_index_or ws i (0, [])).0 ≡ o) × (touches (take i ws) o ≡ false)

-- the writes with one more: in its object's place, or last
abbrev pub merged_one : Writes → ℕ → List ℕ → Writes
merged_one own o words = if touches own o then rewritten own o words else own ++ (o, words) ∷ []

-- the same for each of these writes
abbrev pub merged : Writes → Writes → Writes
merged own [] = own
merged own (w ∷ ws) = merged (merged_one own w.0 w.1) ws

-- The second writes leave the state that the first ones and some steps after them leave. They are of the objects of the first
-- and of those that the steps name.
pub record IsDraft (s : State) (root : ℕ) (own ws : Writes) : Type 0 where
  pub steps : List BalanceStep
  pub fits : AreSteps (written s own) root steps
  pub leaves : written s ws ≡ after_steps (written s own) steps
  pub distinct : are_distinct ws ≡ true
  pub named : (o : ℕ) → touches ws o ≡ touches own o || names steps o

-- The writes have become others by more steps, within this number of objects.
pub record Extends (s : State) (root limit : ℕ) (old new : Writes) : Type 0 where
  pub drafts : (own : Writes) → IsDraft s root own old → IsDraft s root own new
  pub distinct : are_distinct new ≡ true
  pub few : length old ≤ limit → length new ≤ limit

-- The writes are those of an add and of steps after it, of at most so many objects beside the add's own four. The state that they
-- leave is lawful, and has the key at its value in the map of the tree's name.
pub record IsAddOnWay (s : State) (root k v p l m w most : ℕ) (ws : Writes) : Type 0 where
  pub draft : IsDraft s root (grow_writes s root k v p l m w) ws
  pub few : length ws ≤ most + 4
  pub lawful : IsLawful (written s ws)
  pub catalogue : catalogue_of (written s ws) ≡ with_key (name_of root) k v (catalogue_of s)
