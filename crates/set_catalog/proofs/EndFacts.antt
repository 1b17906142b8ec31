-- What a search in the set of a name says of the name's map.
use Rattle.std.proofs.Common.{
  ◌≡◌,
  ◌≢◌,
  ℕ,
  ◌^◌,
  ◌<◌,
  ◌≤◌,
  Bool,
  true,
  false,
  cond,
  eqb,
  eq-eqb,
  ne_eqb,
  if◌then◌else◌,
  [],
  ◌∷◌,
  Some,
  None,
  Option,
  refl,
  sym,
  ap,
  ◌∙◌,
  subst,
  arith,
}
use Rattle.std.proofs.lemmas.Bool.Decides.{nat_tests}
use Rattle.mv_history.specs.State.{State, Writes}
use Rattle.set_model.specs.Catalogue.{Map, map_of, has_key, value_of}
use Rattle.set_model.specs.CatalogueOf.{name_of, map_at, catalogue_of}
use Rattle.set_model.specs.Lawful.{IsLawful}
use Rattle.set_model.specs.Objects.{link}
use Rattle.set_model.proofs.ObjectWords.{word}
use Rattle.set_model.proofs.NameMaps.{map_of-has, map_of-value}
use Rattle.hash_set.specs.list_set.Windows.{EndsHere}
use Rattle.hash_set.specs.list_set.declared.search.Window.{Window}
use Rattle.hash_set.proofs.list_set_lemmas.Windows.{found_some as found_some_node}
use Rattle.tree_balance.specs.tree_set.Descents as trees
use Rattle.tree_balance.specs.tree_set.declared.search.Descent.{Descent}
use Rattle.tree_balance.proofs.tree_set_lemmas.Descents.{descent_has, descent_value, no_keys}
use Rattle.tree_balance.proofs.tree_set_lemmas.Found.{found_some}
use Rattle.tree_balance.specs.tree_set.Places.{bare_writes, tree_del_writes}
use Rattle.set_catalog.specs.Ends.{dels_at}
use Rattle.set_catalog.specs.Merges.{merged}
use Rattle.set_catalog.specs.Needs.{first_tree, taken}
use Rattle.set_catalog.specs.declared.ends.End.{End}
use Rattle.set_catalog.specs.declared.ends.End.TheVariants.{InTree}
use Rattle.set_catalog.specs.Plans.{head_of}
use Rattle.set_catalog.proofs.HeadNames.{low_head, low_fits, root_from, root_below, head_root, head_named}
use Rattle.set_catalog.proofs.SetCalls.{grown_taken}

module _ (s : State) (name k head : ℕ) (l : IsLawful s) (lt : name < 30) (is : head ≡ head_of name k) where
  -- in a list or a bucket
  pub listed_has : name < first_tree → k < 2 ^ 32 → has_key k (map_at s head) ≡ has_key k (map_of name (catalogue_of s))
  listed_has low fit =
      ap (λ (h : ℕ). has_key k (map_at s h)) is ∙ sym (map_of-has s (head_of name k) k l (low_head name k low) (low_fits name k low fit))
      ∙ ap (λ (n : ℕ). has_key k (map_of n (catalogue_of s))) (head_named name k lt)

  pub listed_value : name < first_tree → k < 2 ^ 32 → value_of k (map_at s head) ≡ value_of k (map_of name (catalogue_of s))
  listed_value low fit =
      ap (λ (h : ℕ). value_of k (map_at s h)) is ∙ sym (map_of-value s (head_of name k) k l (low_head name k low) (low_fits name k low fit))
      ∙ ap (λ (n : ℕ). value_of k (map_of n (catalogue_of s))) (head_named name k lt)

  -- in a tree
  at_name : map_of (name_of head) (catalogue_of s) ≡ map_of name (catalogue_of s)
  at_name = ap (λ (n : ℕ). map_of n (catalogue_of s)) (ap name_of is ∙ head_named name k lt)

  from : first_tree ≤ name → 170 ≤ head
  from high = subst (λ (h : ℕ). 170 ≤ h) (sym is) (root_from name k high)

  below : first_tree ≤ name → head < 180
  below high = subst (λ (h : ℕ). h < 180) (sym is) (root_below name k high lt)

  pub empty_map : first_tree ≤ name → link s head ≡ 0 → map_of name (catalogue_of s) ≡ []
  empty_map high z = sym at_name ∙ no_keys s head l (from high) (below high) z

  pub grown_has : (descent : Descent) → first_tree ≤ name → trees.EndsHere s head k descent
      → has_key k (map_of name (catalogue_of s)) ≡ eqb (word 2 descent.words) k
  grown_has descent high e =
      ap (has_key k) (sym at_name) ∙ descent_has s head k descent.grand descent.parent descent.leaf descent.right descent.words l (from high)
      (below high) e.ends

  pub grown_value : (descent : Descent) → first_tree ≤ name → trees.EndsHere s head k descent
      → value_of k (map_of name (catalogue_of s)) ≡ cond (eqb (word 2 descent.words) k) (Some (word 5 descent.words)) None
  grown_value descent high e =
      ap (value_of k) (sym at_name) ∙ descent_value s head k descent.grand descent.parent descent.leaf descent.right descent.words l (from high)
      (below high) e.ends

  -- how many nodes a new key takes
  pub listed_takes : name < first_tree → 1 ≡ taken name (map_of name (catalogue_of s))
  listed_takes low = one (map_of name (catalogue_of s))
    where
      one : (m : Map) → 1 ≡ taken name m
      one m = grind (arith, nat_tests)

  pub empty_takes : first_tree ≤ name → link s head ≡ 0 → 1 ≡ taken name (map_of name (catalogue_of s))
  empty_takes high z = one ∙ ap (taken name) (sym (empty_map high z))
    where
      one : 1 ≡ taken name []
      one = grind (arith, nat_tests)

  pub grown_takes : (descent : Descent) → first_tree ≤ name → trees.EndsHere s head k descent → 2 ≡ taken name (map_of name (catalogue_of s))
  grown_takes descent high e =
      let some : link s head ≢ 0 = found_some s s head k descent.grand descent.parent descent.leaf descent.right descent.words refl e.ends in
      sym (grown_taken s head name l (is ∙ head_root name k high) high lt some)

  -- the key's node, where it is there
  pub listed_some : (window : Window) → name < first_tree → k < 2 ^ 32 → EndsHere s head k window → has_key k (map_of name (catalogue_of s)) ≡ true
      → window.node ≢ 0
  listed_some window low fit e there =
      found_some_node s s head k window.previous window.words window.node window.node_words (has_key k (map_at s head)) refl e (sym e.has)
      (listed_has low fit ∙ there)

-- what the test of a key shows of its value
pub value_missing : (k : ℕ) (m : Map) → has_key k m ≡ false → None ≡ value_of k m
value_missing k [] h = refl
value_missing k (e ∷ m) h = grind (arith, nat_tests, value_missing k m)

pub value_shown : (test : Bool) (x : ℕ) (there : Option ℕ) → test ≡ true → (if test then Some x else None) ≡ there → Some x ≡ there
value_shown test x there t e = ap (λ (u : Bool). if u then Some x else None) (sym t) ∙ e

-- writes that are the same are planned
pub planned_as : (mid own made : Writes) (at : End → Writes) (end shown : End) → end ≡ shown → mid ≡ merged own made → made ≡ at shown
    → mid ≡ merged own (at end)
planned_as mid own made at end shown is e f = e ∙ ap (merged own) (f ∙ ap at (sym is))

-- what a del of a leaf writes, by its parent
pub dels_bare : (s : State) (root : ℕ) (descent : Descent) → descent.parent ≡ root → bare_writes s root descent.leaf ≡ dels_at s (InTree root descent)
dels_bare s root descent e =
    ap (λ (b : Bool). if b then bare_writes s root descent.leaf else tree_del_writes s descent.grand descent.parent descent.leaf)
    (sym (eq-eqb descent.parent root e))

pub dels_cut : (s : State) (root : ℕ) (descent : Descent) → descent.parent ≢ root
    → tree_del_writes s descent.grand descent.parent descent.leaf ≡ dels_at s (InTree root descent)
dels_cut s root descent n =
    ap (λ (b : Bool). if b then bare_writes s root descent.leaf else tree_del_writes s descent.grand descent.parent descent.leaf)
    (sym (ne_eqb descent.parent root n))
