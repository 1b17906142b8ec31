-- The plan of an add with steps after it, from where the search ended.
use Rattle.std.proofs.Common.{◌≡◌, ◌≢◌, ℕ, zero, suc, ◌^◌, ◌<◌, ◌≤◌, leb, ◌⊎◌, inl, inr, length, Bool, true, false, refl, sym, ap, ◌∙◌, subst, arith}
use Rattle.std.proofs.lemmas.Bool.Decides.{nat_tests}
use Rattle.mv_history.specs.State.{State, Writes}
use Rattle.set_model.specs.Catalogue.{map_of, has_key}
use Rattle.set_model.specs.CatalogueOf.{catalogue_of}
use Rattle.set_model.specs.Lawful.{IsLawful}
use Rattle.set_model.specs.Objects.{owner}
use Rattle.set_model.specs.Trees.{HoldsTree}
use Rattle.set_model.proofs.ObjectWords.{word}
use Rattle.tree_balance.specs.tree_set.declared.search.Descent.{Descent}
use Rattle.tree_balance.specs.tree_set.Places.{grow_writes}
use Rattle.tree_balance.proofs.tree_set_lemmas.Planning.{key_not}
use Rattle.tree_balance.specs.declared.plan.WritePlan.{WritePlan}
use Rattle.tree_balance.specs.Depths.{IsOfWay}
use Rattle.tree_balance.specs.Drafts.{IsAddOnWay}
use Rattle.set_catalog.specs.Ends.{EndsAt, adds_at}
use Rattle.set_catalog.specs.Merges.{writes_in, merged}
use Rattle.set_catalog.specs.Needs.{taken, AreEnough}
use Rattle.set_catalog.specs.Picks.{IsVacant}
use Rattle.set_catalog.specs.Plans.{head_of, AddPlan, TurnedPlan, AddsWithin}
use Rattle.set_catalog.specs.declared.ends.End.{End}
use Rattle.set_catalog.specs.declared.ends.End.TheVariants.{InTree}
use Rattle.set_catalog.proofs.EndFacts.{grown_has, grown_takes}
use Rattle.set_catalog.proofs.EndPlans.{add_planned, grown_place}
use Rattle.set_catalog.proofs.HeadNames.{head_below}
use Rattle.set_catalog.proofs.PlanWays.{added_by, by_distinct}
use Rattle.set_catalog.proofs.Planned.{adds_alone, planned_alone}

module _ (s : State) (name k : ℕ) (l : IsLawful s) (lt : name < 30) (fit : k < 2 ^ 32) (missed : has_key k (map_of name (catalogue_of s)) ≡ false)
    (v first second : ℕ) (enough : AreEnough s (taken name (map_of name (catalogue_of s))) first second) where
  -- an add with no steps
  pub planned_none : (most : ℕ) (end : End) (none plan : WritePlan) → EndsAt s name k end → none.count ≡ 0
      → writes_in plan ≡ merged (writes_in none) (adds_at s k v first second end) → AddsWithin most s name k v first second (writes_in plan)
  planned_none most end none plan e z is =
      let add = add_planned s name k l lt fit end v first second e missed enough in
      let d = added_by s name k lt fit v first second (adds_at s k v first second end) add in
      let one = planned_alone none plan (adds_at s k v first second end) z
      (by_distinct s (head_of name k) (head_below name k lt) l (adds_at s k v first second end) d) is in
      adds_alone most s name k v first second (writes_in plan)
      (subst (λ (ws : Writes). AddPlan s name k v first second ws) (sym one) add)

  -- one in a tree that has keys
  module _ (root : ℕ) (descent : Descent) (e : EndsAt s name k (InTree root descent)) where
    pub descent_lacks : word 2 descent.words ≢ k
    descent_lacks = key_not k (word 2 descent.words) (has_key k (map_of name (catalogue_of s))) (grown_has s name k root l lt e.1 descent e.0 e.2) missed

    wants_two : 2 ≡ taken name (map_of name (catalogue_of s))
    wants_two = grown_takes s name k root l lt e.1 descent e.0 e.2

    pub descent_first : IsVacant s first
    descent_first = let two = wants_two in enough.one (omega arith)

    pub descent_second : IsVacant s second × (second ≢ first)
    descent_second = let two = wants_two in enough.two (omega arith)

    turned : (n count : ℕ) (ws : Writes) → IsOfWay s root k count → 9 < count → IsAddOnWay s root k v descent.parent descent.leaf first second (suc n) ws
        → TurnedPlan (suc n) s name k v first second ws
    turned n count ws way long a = record {
      parent = descent.parent;
      leaf = descent.leaf;
      of_tree = e.0;
      place = grown_place s name k l lt fit root descent e.0 e.1 e.2 missed;
      first_vacant = descent_first;
      second_vacant = descent_second.0;
      other = descent_second.1;
      deep = λ t g. (let le = way t (subst (λ (h : ℕ). HoldsTree s h t) (sym e.1) g) in omega arith);
      adds = subst (λ (h : ℕ). IsAddOnWay s h k v descent.parent descent.leaf first second (suc n) ws) e.1 a;
    }

    -- where few objects are remembered of the way, they are those of the add alone
    pub planned_turned : (most count : ℕ) (ws : Writes) → most ≢ 0 → IsOfWay s root k count
        → (count ≤ 9 → ws ≡ grow_writes s root k v descent.parent descent.leaf first second)
        → IsAddOnWay s root k v descent.parent descent.leaf first second most ws → AddsWithin most s name k v first second ws
    planned_turned zero count ws some way short a = absurd (some refl)
    planned_turned (suc n) count ws some way short a = go (leb count 9) refl
      where
        go : (b : Bool) → leb count 9 ≡ b → AddPlan s name k v first second ws ⊎ TurnedPlan (suc n) s name k v first second ws
        go true q =
            inl (subst (λ (u : Writes). AddPlan s name k v first second u) (sym (short (grind (arith, nat_tests))))
            (add_planned s name k l lt fit (InTree root descent) v first second e missed enough))
        go false q = inr (turned n count ws way (grind (arith, nat_tests)) a)

-- what holds in a state that is the same
pub short_same : (s t : State) (root k v p n m w count : ℕ) (ws : Writes) → t ≡ s → (count ≤ 9 → ws ≡ grow_writes t root k v p n m w) → count ≤ 9
    → ws ≡ grow_writes s root k v p n m w
short_same s t root k v p n m w count ws e f le = f le ∙ ap (λ (u : State). grow_writes u root k v p n m w) e

pub way_same : (s t : State) (root k v p n m w most : ℕ) (ws : Writes) → t ≡ s → IsAddOnWay t root k v p n m w most ws
    → IsAddOnWay s root k v p n m w most ws
way_same s t root k v p n m w most ws e a = subst (λ (u : State). IsAddOnWay u root k v p n m w most ws) e a

pub vacant_same : (s t : State) (o : ℕ) → t ≡ s → IsVacant s o → (180 ≤ o) × (o < length t) × (owner t o ≡ 0)
vacant_same s t o e v = subst (λ (u : State). (180 ≤ o) × (o < length u) × (owner u o ≡ 0)) (sym e) (v.node, v.in_range, v.free)
