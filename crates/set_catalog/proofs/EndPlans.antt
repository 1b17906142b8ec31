-- The plan of a change, from where the search ended.
use Rattle.std.proofs.Common.{
  ◌≡◌,
  ◌≢◌,
  ℕ,
  ◌^◌,
  ◌<◌,
  ◌≤◌,
  inl,
  inr,
  Bool,
  true,
  false,
  ◌==◌,
  if◌then◌else◌,
  length,
  refl,
  sym,
  ap,
  ◌∙◌,
  subst,
  arith,
  true≢false,
  length-append,
}
use Rattle.std.proofs.lemmas.Bool.Decides.{nat_tests}
use Rattle.mv_history.specs.State.{State, Writes}
use Rattle.set_model.specs.Catalogue.{Map, map_of, has_key}
use Rattle.set_model.specs.CatalogueOf.{map_at, catalogue_of}
use Rattle.set_model.specs.Lawful.{IsLawful}
use Rattle.set_model.specs.Objects.{kind, link}
use Rattle.set_model.specs.Trees.{Tree, HoldsTree, entries_in, objects_in}
use Rattle.set_model.specs.Trees.Tree.{leaf, inner}
use Rattle.set_model.proofs.ObjectWords.{word}
use Rattle.set_model.proofs.TreeMaps.{map_of-tree}
use Rattle.section_work.proofs.Objects.{IsIn}
use Rattle.set_model.proofs.TreeShape.{only_in}
use Rattle.hash_set.specs.list_set.Places.{IsAddPlace, add_writes, IsDelPlace, del_writes, IsPutPlace, put_writes}
use Rattle.hash_set.specs.list_set.Windows.{EndsHere}
use Rattle.hash_set.specs.list_set.declared.search.Window.{Window}
use Rattle.hash_set.proofs.list_set_lemmas.Windows.{add_found, del_found, put_window}
use Rattle.tree_balance.specs.tree_set.Descents as trees
use Rattle.tree_balance.specs.tree_set.Places.{IsLeaf, IsGrowPlace, IsBarePlace, IsCutPlace, tree_add_writes, grow_writes, bare_writes, tree_del_writes}
use Rattle.tree_balance.specs.tree_set.declared.search.Descent.{Descent}
use Rattle.tree_balance.proofs.tree_set_lemmas.CutFit.{tree_with}
use Rattle.tree_balance.proofs.tree_set_lemmas.Found.{found_leaf, found_grow, found_bare, found_cut}
use Rattle.tree_balance.proofs.tree_set_lemmas.Planning.{key_is, key_not}
use Rattle.set_catalog.specs.Ends.{EndsAt, adds_at, dels_at, puts_at, node_gone, inner_gone}
use Rattle.set_catalog.specs.Needs.{first_tree, taken, freed, AreEnough}
use Rattle.set_catalog.specs.Plans.{head_of, DelPlan, AddPlan, PutPlan}
use Rattle.set_catalog.specs.Plans.DelPlan.{unlinks, bares, cuts}
use Rattle.set_catalog.specs.Plans.AddPlan.{links, tree_adds, grows}
use Rattle.set_catalog.specs.Plans.PutPlan.{in_list, in_tree}
use Rattle.set_catalog.specs.declared.ends.End.{End}
use Rattle.set_catalog.specs.declared.ends.End.TheVariants.{InList, Empty, InTree}
use Rattle.set_catalog.proofs.DelFacts.{del_left}
use Rattle.set_catalog.proofs.EndFacts.{listed_has, empty_map, grown_has, grown_takes}
use Rattle.set_catalog.proofs.HeadNames.{root_from, root_below, head_named}
use Rattle.set_catalog.proofs.SetCalls.{entries_some, taken_some}

module _ (s : State) (name k : ℕ) (l : IsLawful s) (lt : name < 30) (fit : k < 2 ^ 32) where
  -- the places, where the key is not there
  pub listed_place : (head : ℕ) (window : Window) → name < first_tree → head ≡ head_of name k → EndsHere s head k window
      → has_key k (map_of name (catalogue_of s)) ≡ false → IsAddPlace s (head_of name k) k window.previous
  listed_place head window low is e missed =
      subst (λ (h : ℕ). IsAddPlace s h k window.previous) is
      (add_found s s head k window.previous window.words window.node window.node_words (has_key k (map_at s head)) refl e (sym e.has)
      (listed_has s name k head l lt is low fit ∙ missed) 0 0 (add_writes s head k 0 window.previous 0) refl).0

  pub grown_place : (root : ℕ) (descent : Descent) → first_tree ≤ name → root ≡ head_of name k → trees.EndsHere s root k descent
      → has_key k (map_of name (catalogue_of s)) ≡ false → IsGrowPlace s (head_of name k) k descent.parent descent.leaf
  grown_place root descent high is e missed =
      subst (λ (h : ℕ). IsGrowPlace s h k descent.parent descent.leaf) is
      (found_grow s s root k descent.grand descent.parent descent.leaf descent.right descent.words refl e.ends
      (key_not k (word 2 descent.words) (has_key k (map_of name (catalogue_of s))) (grown_has s name k root l lt is descent high e) missed))

  -- an add, in vacant objects that are enough
  pub add_planned : (end : End) (v first second : ℕ) → EndsAt s name k end → has_key k (map_of name (catalogue_of s)) ≡ false
      → AreEnough s (taken name (map_of name (catalogue_of s))) first second → AddPlan s name k v first second (adds_at s k v first second end)
  add_planned (InList head window) v first second e missed enough =
      subst (λ (h : ℕ). AddPlan s name k v first second (add_writes s h k v window.previous first)) (sym e.1)
      (links window.previous e.0 (listed_place head window e.0 e.1 e.2 missed) (enough.one (taken_some name (map_of name (catalogue_of s)))))
  add_planned (Empty root) v first second e missed enough =
      subst (λ (h : ℕ). AddPlan s name k v first second (tree_add_writes s h k v first)) (sym e.1)
      (tree_adds e.0 (subst (λ (h : ℕ). link s h ≡ 0) e.1 e.2) (enough.one (taken_some name (map_of name (catalogue_of s)))))
  add_planned (InTree root descent) v first second e missed enough =
      let two : 2 ≡ taken name (map_of name (catalogue_of s)) = grown_takes s name k root l lt e.1 descent e.0 e.2 in
      let other = enough.two (omega arith) in
      subst (λ (h : ℕ). AddPlan s name k v first second (grow_writes s h k v descent.parent descent.leaf first second)) (sym e.1)
      (grows descent.parent descent.leaf e.0 (grown_place root descent e.0 e.1 e.2 missed) (enough.one (omega arith)) other.0 other.1)

  -- a del of the key, which is there
  pub del_planned : (end : End) → EndsAt s name k end → has_key k (map_of name (catalogue_of s)) ≡ true
      → DelPlan s name k (node_gone end) (inner_gone end) (dels_at s end)
  del_planned (InList head window) e there =
      let f = del_found s s head k window.previous window.words window.node window.node_words (has_key k (map_at s head)) refl e.2 (sym e.2.has)
      (listed_has s name k head l lt e.1 e.0 fit ∙ there) (del_writes s window.previous window.node) (λ n. refl) in
      unlinks window.previous e.0 (subst (λ (h : ℕ). IsDelPlace s h k window.previous window.node) e.1 f.0)
  del_planned (Empty root) e there =
      absurd (true≢false (sym there ∙ ap (has_key k) (empty_map s name k root l lt e.1 e.0 e.2)))
  del_planned (InTree root descent) e there = go (descent.parent == root) refl
    where
      is : word 2 descent.words ≡ k
      is = key_is k (word 2 descent.words) (has_key k (map_of name (catalogue_of s))) (grown_has s name k root l lt e.1 descent e.0 e.2) there

      go : (b : Bool) → (descent.parent == root) ≡ b → DelPlan s name k descent.leaf (if b then 0 else descent.parent)
          (if b then bare_writes s root descent.leaf else tree_del_writes s descent.grand descent.parent descent.leaf)
      go true q =
          let place = found_bare s s root k descent.grand descent.parent descent.leaf descent.right descent.words refl e.2.ends is (grind (arith, nat_tests)) in
          subst (λ (h : ℕ). DelPlan s name k descent.leaf 0 (bare_writes s h descent.leaf)) (sym e.1)
          (bares e.0 (subst (λ (h : ℕ). IsBarePlace s h k descent.leaf) e.1 place))
      go false q =
          let place = found_cut s s root k descent.grand descent.parent descent.leaf descent.right descent.words refl e.2.ends is (grind (arith, nat_tests)) in
          cuts descent.grand descent.parent e.0 (subst (λ (h : ℕ). IsCutPlace s h k descent.grand descent.parent descent.leaf) e.1 place)

  -- a put of another value for it
  pub put_planned : (end : End) (v : ℕ) → EndsAt s name k end → has_key k (map_of name (catalogue_of s)) ≡ true → PutPlan s name k v (puts_at s v end)
  put_planned (InList head window) v e there =
      let f = put_window s s head k window.previous window.words window.node window.node_words refl e.2 (listed_has s name k head l lt e.1 e.0 fit ∙ there) v
      (put_writes s window.node v) (λ n. refl) in
      in_list window.node e.0 (subst (λ (h : ℕ). IsPutPlace s h k window.node) e.1 f.0)
  put_planned (Empty root) v e there =
      absurd (true≢false (sym there ∙ ap (has_key k) (empty_map s name k root l lt e.1 e.0 e.2)))
  put_planned (InTree root descent) v e there =
      let is : word 2 descent.words ≡ k =
      key_is k (word 2 descent.words) (has_key k (map_of name (catalogue_of s))) (grown_has s name k root l lt e.1 descent e.0 e.2) there in
      in_tree descent.leaf e.0
      (subst (λ (h : ℕ). IsLeaf s h k descent.leaf) e.1 (found_leaf s s root k descent.grand descent.parent descent.leaf descent.right descent.words refl
      e.2.ends is))

-- How many nodes a del frees, by what it leaves vacant: where a leaf and its parent go, the tree has another key.
freed_low : (name : ℕ) (m : Map) → name < first_tree → freed name m ≡ 1
freed_low name m low = grind (arith, nat_tests)

freed_more : (name : ℕ) (m : Map) → first_tree ≤ name → 2 ≤ length m → freed name m ≡ 2
freed_more name m high le = grind (arith, nat_tests)

two_entries : (s : State) (root : ℕ) (t : Tree) (p n : ℕ) → HoldsTree s root t → IsIn p (objects_in t) → IsIn n (objects_in t) → p ≢ n
    → 2 ≤ length (entries_in t)
two_entries s root (leaf o k v) p n g (inl a) (inl b) ne = absurd (ne (a ∙ sym b))
two_entries s root (leaf o k v) p n g (inl a) (inr b) ne = absurd b
two_entries s root (leaf o k v) p n g (inr a) i ne = absurd a
two_entries s root (inner o d a b) p n g i j ne =
    let x = entries_some a in let y = entries_some b in let e = length-append (entries_in a) (entries_in b) in omega arith

pub freed_gone : (s : State) (name k node inner : ℕ) (ws : Writes) → IsLawful s → name < 30 → DelPlan s name k node inner ws
    → freed name (map_of name (catalogue_of s)) ≡ (if inner == 0 then 1 else 2)
freed_gone s name k node second ws l lt (unlinks previous low place) = freed_low name (map_of name (catalogue_of s)) low
freed_gone s name k node second ws l lt (bares high place) = (del_left s name k node 0 ws l lt (bares high place)).frees refl
freed_gone s name k node second ws l lt (cuts grand parent high place) =
    let lo = root_from name k high in
    let below = root_below name k high lt in
    let t = tree_with s (head_of name k) node l lo below place.is_leaf.0 place.is_leaf.1 in
    let apart : second ≢ node = λ q. (let a : kind s second ≡ 2 = place.is_inner.2 in let b : kind s node ≡ 1 = place.is_leaf.2 in
    let c : kind s second ≡ kind s node = ap (kind s) q in absurd (omega arith)) in
    let many = two_entries s (head_of name k) t.0 second node t.1 (only_in s (head_of name k) t.0 t.1 second place.is_inner.0 place.is_inner.1)
    (only_in s (head_of name k) t.0 t.1 node place.is_leaf.0 place.is_leaf.1) apart in
    let m : map_of name (catalogue_of s) ≡ entries_in t.0 =
    ap (λ (n : ℕ). map_of n (catalogue_of s)) (sym (head_named name k lt)) ∙ map_of-tree s (head_of name k) t.0 lo below t.1 in
    let n : 180 ≤ second = place.is_inner.0 in
    two_gone (freed name (map_of name (catalogue_of s))) second (freed_more name (map_of name (catalogue_of s)) high (omega (arith, ap length m, many))) n
  where
    two_gone : (x i : ℕ) → x ≡ 2 → 180 ≤ i → x ≡ (if i == 0 then 1 else 2)
    two_gone x i e g = grind (arith, nat_tests)
