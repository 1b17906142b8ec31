-- What a search that ended at a leaf says of the tree's map.
use Rattle.std.proofs.Common.{◌≡◌, ◌≢◌, ℕ, ◌^◌, ◌<◌, ◌≤◌, ◌⊎◌, inl, inr, Bool, true, cond, eqb, eq-eqb, ne_eqb}
use Rattle.std.proofs.Common.{lt-ltb, le-ltb, eqb-true, List, [], ◌∷◌, ◌++◌, length, length-append, refl, sym, ap, ◌∙◌, subst, arith}
use Rattle.std.proofs.Common.{append_assoc, append-nil, Some, None}
use Rattle.std.proofs.lemmas.Bool.{cases_eq}
use Rattle.mv_history.specs.State.{State}
use Rattle.mv_history.specs.Meaning.{words_at}
use Rattle.set_model.specs.Catalogue.{Map, IsAboveKey, map_of, has_key, value_of, next_key}
use Rattle.set_model.specs.CatalogueOf.{name_of, catalogue_of}
use Rattle.set_model.specs.Objects.{link}
use Rattle.set_model.specs.Trees.{Tree, top, objects_in, entries_in, Stands}
use Rattle.set_model.specs.Trees.Tree.{leaf, inner}
use Rattle.set_model.specs.TreeLaws.{top_is_node}
use Rattle.set_model.specs.Lawful.{IsLawful}
use Rattle.set_model.proofs.ObjectWords.{word}
use Rattle.set_model.proofs.MapLemmas.{value_of-above}
use Rattle.set_model.proofs.MapParts.{IsUnderKey, has_key-at, value_of-behind, next_key-behind}
use Rattle.set_model.proofs.TreeMaps.{map_of-tree, map_of-empty}
use Rattle.tree_set.specs.Paths.{Path, plug, right_of, before, after}
use Rattle.tree_set.specs.Paths.PathStep.{left, right}
use Rattle.tree_set.specs.Walks.{IsDescent, IsSubtree, first_key}
use Rattle.tree_set.proofs.Plugging.{stands_part, entries_plug, before_under, after_above}
use Rattle.tree_set.proofs.Walking.{few_nodes}
use Rattle.tree_set.proofs.Ends.{no_tree, some_tree}

-- a tree's entries begin with that of its leftmost leaf
entries_first : (t : Tree) → (v : ℕ) × (m : Map) × (entries_in t ≡ (first_key t, v) ∷ m)
entries_first (leaf n k v) = (v, [], refl)
entries_first (inner n d a b) =
    let r = entries_first a in (r.0, r.1 ++ entries_in b, ap (λ (m : Map). m ++ entries_in b) r.2)

-- The tree to the right of a path's last turn to the left: what is behind the path begins with its entries.
record IsNextTo (s : State) (root : ℕ) (ps : Path) (other most : ℕ) (b : Tree) : Type 0 where
  here : right_of other ps ≡ top b
  stands : Stands s root b
  few : length (objects_in b) ≤ most
  rest : Map
  behind : after ps ≡ entries_in b ++ rest

-- what is behind a path that turns left nowhere is nothing
next_to : (s : State) (root : ℕ) (ps : Path) (u : Tree) (other most : ℕ) → Stands s root (plug ps u) → length (objects_in (plug ps u)) ≤ most
    → ((right_of other ps ≡ other) × (after ps ≡ [])) ⊎ ((b : Tree) × IsNextTo s root ps other most b)
next_to s root [] u other most q few = inl (refl, refl)
next_to s root (right n d a ∷ ps) u other most q few =
    let len = length-append (objects_in a) (objects_in (plug ps u)) in
    elim (next_to s root ps u other most q.4 (omega arith)) [
      | inl e ↦ inl e
      | inr (b, x) ↦ inr (b, record { here = x.here; stands = x.stands; few = x.few; rest = x.rest; behind = x.behind })
    ]
next_to s root (left n d c ∷ ps) u other most q few =
    let len = length-append (objects_in (plug ps u)) (objects_in c) in
    elim (next_to s root ps u (top c) most q.3 (omega arith)) [
      | inl e ↦ inr (
        c,
        record {
          here = e.0;
          stands = q.4;
          few = omega arith;
          rest = [];
          behind = ap (λ (m : Map). m ++ entries_in c) e.1
              ∙ sym (append-nil (entries_in c));
        },
      )
      | inr (b, x) ↦ inr (
        b,
        record {
          here = x.here;
          stands = x.stands;
          few = x.few;
          rest = x.rest ++ entries_in c;
          behind = ap (λ (m : Map). m ++ entries_in c) x.behind
              ∙ append_assoc (entries_in b) x.rest (entries_in c);
        },
      )
    ]

next-first : (k j v : ℕ) (m : Map) → k ≤ j → next_key k ((j, v) ∷ m) ≡ Some j
next-first k j v m le = ap (λ (b : Bool). cond b (next_key k m) (Some j)) (le-ltb j k le)

next-later : (k j v : ℕ) (m : Map) → j < k → next_key k ((j, v) ∷ m) ≡ next_key k m
next-later k j v m lt = ap (λ (b : Bool). cond b (next_key k m) (Some j)) (lt-ltb j k lt)

module _ (s : State) (root k grand parent node r : ℕ) (words : List ℕ) (l : IsLawful s) (lo : 170 ≤ root) (lt : root < 180)
    (f : IsDescent s root k grand parent node r words) where
  key_is : word 2 words ≡ f.key
  key_is = ap (word 2) f.words_are

  map_is : map_of (name_of root) (catalogue_of s) ≡ before f.path ++ (f.key, f.value) ∷ after f.path
  map_is =
      map_of-tree s root (plug f.path (leaf node f.key f.value)) lo lt f.grown ∙ entries_plug f.path (leaf node f.key f.value)

  under : IsUnderKey k (before f.path)
  under = before_under k f.path (leaf node f.key f.value) f.grown.ordered f.follows

  above : IsAboveKey k (after f.path)
  above = after_above k f.path (leaf node f.key f.value) f.grown.ordered f.follows

  pub descent_has : has_key k (map_of (name_of root) (catalogue_of s)) ≡ eqb (word 2 words) k
  descent_has =
      ap (has_key k) map_is ∙ has_key-at k f.key f.value (before f.path) (after f.path) under above ∙ ap (λ (j : ℕ). eqb j k) (sym key_is)

  pub descent_value : value_of k (map_of (name_of root) (catalogue_of s)) ≡ cond (eqb (word 2 words) k) (Some (word 5 words)) None
  descent_value =
      ap (value_of k) map_is ∙ value_of-behind k (before f.path) ((f.key, f.value) ∷ after f.path) under
      ∙ ap (cond (eqb f.key k) (Some f.value)) (value_of-above k (after f.path) above) ∙ ap (λ (j : ℕ). cond (eqb j k) (Some f.value) None) (sym key_is)
      ∙ ap (λ (v : ℕ). cond (eqb (word 2 words) k) (Some v) None) (sym (ap (word 5) f.words_are))

  pub descent_value_here : word 2 words ≡ k → value_of k (map_of (name_of root) (catalogue_of s)) ≡ Some (word 5 words)
  descent_value_here e = descent_value ∙ ap (λ (b : Bool). cond b (Some (word 5 words)) None) (eq-eqb (word 2 words) k e)

  pub descent_value_none : word 2 words ≢ k → value_of k (map_of (name_of root) (catalogue_of s)) ≡ None
  descent_value_none n = descent_value ∙ ap (λ (b : Bool). cond b (Some (word 5 words)) None) (ne_eqb (word 2 words) k n)

  next_at : next_key k (map_of (name_of root) (catalogue_of s)) ≡ next_key k ((f.key, f.value) ∷ after f.path)
  next_at = ap (next_key k) map_is ∙ next_key-behind k (before f.path) ((f.key, f.value) ∷ after f.path) under

  -- the next key is that of the leaf, or the first one to the right, if there is one
  pub descent_next : k ≤ word 2 words → next_key k (map_of (name_of root) (catalogue_of s)) ≡ Some (word 2 words)
  descent_next le = next_at ∙ next-first k f.key f.value (after f.path) (omega (arith, key_is)) ∙ ap Some (sym key_is)

  next_behind : word 2 words < k → next_key k (map_of (name_of root) (catalogue_of s)) ≡ next_key k (after f.path)
  next_behind less = next_at ∙ next-later k f.key f.value (after f.path) (omega (arith, key_is))

  beside_path : ((right_of 0 f.path ≡ 0) × (after f.path ≡ [])) ⊎ ((b : Tree) × IsNextTo s root f.path 0 (length s) b)
  beside_path =
      next_to s root f.path (leaf node f.key f.value) 0 (length s) f.grown.stands (few_nodes s root (plug f.path (leaf node f.key f.value)) f.grown)

  pub descent_last : word 2 words < k → r ≡ 0 → next_key k (map_of (name_of root) (catalogue_of s)) ≡ None
  descent_last less e = elim beside_path [
    | inl x ↦ next_behind less ∙ ap (next_key k) x.1
    | inr (b, x) ↦ absurd (let up : 180 ≤ top b = top_is_node s root b x.stands in let z : right_of 0 f.path ≡ top b = x.here in
        let y = f.right_is in omega arith)
  ]

  pub descent_right : r ≢ 0 → IsSubtree s root r
  descent_right n = elim beside_path [
    | inl x ↦ absurd (n (f.right_is ∙ x.0))
    | inr (b, x) ↦ record { part = b; stands = x.stands; here = f.right_is ∙ x.here; few = x.few }
  ]

  pub descent_next_right : word 2 words < k → r ≢ 0 → (j : ℕ) → ((t : Tree) → Stands s root t → r ≡ top t → j ≡ first_key t)
      → next_key k (map_of (name_of root) (catalogue_of s)) ≡ Some j
  descent_next_right less n j least = elim beside_path [
    | inl x ↦ absurd (n (f.right_is ∙ x.0))
    | inr (b, x) ↦ (let first = entries_first b in
        let behind : after f.path ≡ (first_key b, first.0) ∷ (first.1 ++ x.rest) = x.behind ∙ ap (λ (m : Map). m ++ x.rest) first.2 in
        let up : IsAboveKey k ((first_key b, first.0) ∷ (first.1 ++ x.rest)) = subst (λ (m : Map). IsAboveKey k m) behind above in
        let le : k ≤ first_key b = (let y : k < first_key b = up.0 in omega arith) in
        next_behind less ∙ ap (next_key k) behind ∙ next-first k (first_key b) first.0 (first.1 ++ x.rest) le
        ∙ ap Some (sym (least b x.stands (f.right_is ∙ x.here))))
  ]

-- a root that leads nowhere has no keys
pub no_keys : (s : State) (root : ℕ) → IsLawful s → 170 ≤ root → root < 180 → link s root ≡ 0 → map_of (name_of root) (catalogue_of s) ≡ []
no_keys s root l lo lt e = map_of-empty s root lo lt (no_tree s root l lo lt e)

-- the key that was found fits its type
pub descent_fits : (s : State) (root k grand parent node r : ℕ) (words : List ℕ) → IsDescent s root k grand parent node r words → word 2 words < 2 ^ 32
descent_fits s root k grand parent node r words f =
    let fits : f.key < 2 ^ 32 = (stands_part s root f.path (leaf node f.key f.value) f.grown.stands).1 in
    let is : word 2 words ≡ f.key = ap (word 2) f.words_are in omega arith

-- a root leads somewhere exactly where it has keys
pub link_empty : (s : State) (root : ℕ) (words : List ℕ) → IsLawful s → 170 ≤ root → root < 180 → words ≡ words_at s root
    → (eqb (word 3 words) 0 ≡ true → map_of (name_of root) (catalogue_of s) ≡ []) × (map_of (name_of root) (catalogue_of s) ≡ [] → eqb (word 3 words) 0 ≡ true)
link_empty s root words l lo lt e = (
  λ t. no_keys s root l lo lt (sym (ap (word 3) e) ∙ eqb-true (word 3 words) 0 t),
  λ none. elim (cases_eq (word 3 words) 0) [ inl z ↦ eq-eqb (word 3 words) 0 z | inr n ↦ absurd (keys none n) ],
)
  where
    keys : map_of (name_of root) (catalogue_of s) ≡ [] → word 3 words ≢ 0 → ⊥
    keys none n =
        let t = some_tree s root l lo lt (λ z. n (ap (word 3) e ∙ z)) in
        let first = entries_first t.0 in
        let m : (first_key t.0, first.0) ∷ first.1 ≡ [] = sym first.2 ∙ sym (map_of-tree s root t.0 lo lt t.1) ∙ none in cc

-- the least key under a node, by another state
pub least_same : (s t : State) (root node j : ℕ) → t ≡ s → ((u : Tree) → Stands t root u → node ≡ top u → j ≡ first_key u) → (u : Tree) → Stands s root u
    → node ≡ top u → j ≡ first_key u
least_same s t root node j e f u q h = f u (subst (λ (v : State). Stands v root u) (sym e) q) h
