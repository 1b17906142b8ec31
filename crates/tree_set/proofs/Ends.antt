-- The first leaf of a tree, and the last one.
use Rattle.std.proofs.Common.{◌≡◌, ◌≢◌, ℕ, suc, ◌^◌, ◌<◌, ◌≤◌, ◌⊎◌, inl, inr, true, List, [], ◌∷◌, refl, sym}
use Rattle.std.proofs.Common.{ap, ◌∙◌, subst, arith, eq-eqb, Bool, cond, Option, Some, None}
use Rattle.std.proofs.lemmas.Bool.{cases_eq}
use Rattle.mv_history.specs.State.{State, written}
use Rattle.mv_history.specs.Legal.{are_distinct}
use Rattle.mv_history.specs.Meaning.{words_at}
use Rattle.mv_history.proofs.Writing.{words-written_other, words-written_same}
use Rattle.set_model.specs.Catalogue.{put, take_out}
use Rattle.set_model.specs.Objects.{owner, kind, key, link, value, head_words, leaf_words, no_words, relink}
use Rattle.set_model.specs.Trees.{Tree, top, Stands, HoldsTree, IsTree, seek}
use Rattle.set_model.specs.Trees.Tree.{leaf, inner}
use Rattle.set_model.specs.TreeLaws.{top_is_node, grown_once}
use Rattle.set_model.specs.Lawful.{IsLawful}
use Rattle.set_model.proofs.ObjectWords.{word, owned_in_range}
use Rattle.set_model.proofs.Frames.{IsOf, IsWithin}
use Rattle.section_work.proofs.Objects.{IsIn, touches-out, out-touches}
use Rattle.set_model.proofs.TreeShape.{IsIn-from, is_in-from, is_in-none}
use Rattle.set_model.proofs.Written.{distinct-objects_of}
use Rattle.set_model.proofs.Halves.{Half}
use Rattle.set_model.proofs.Ways.{IsVacant, Lacks, Has}
use Rattle.tree_set.specs.Places.{tree_add_writes, IsBarePlace, bare_writes}
use Rattle.tree_set.proofs.Halving.{tree_half}

-- a root whose link is 0 has no tree
pub no_tree : (s : State) (root : ℕ) → IsLawful s → 170 ≤ root → root < 180 → link s root ≡ 0 → IsTree s root None
no_tree s root l lo lt e = go (l.trees root lo lt).0 (l.trees root lo lt).1
  where
    go : (t : Option Tree) → IsTree s root t → IsTree s root None
    go None q = q
    go (Some t) q =
        let node : 180 ≤ top t = top_is_node s root t q.stands in
        let is : link s root ≡ top t = ap (word 3) q.first in absurd (omega arith)

-- and one whose link isn't 0 has one
pub some_tree : (s : State) (root : ℕ) → IsLawful s → 170 ≤ root → root < 180 → link s root ≢ 0 → (t : Tree) × HoldsTree s root t
some_tree s root l lo lt n = go (l.trees root lo lt).0 (l.trees root lo lt).1
  where
    go : (t : Option Tree) → IsTree s root t → (t : Tree) × HoldsTree s root t
    go None q = absurd (n (ap (word 3) q.0))
    go (Some t) q = (t, q)

not_empty : (s : State) (root : ℕ) (t : Tree) → IsTree s root None → HoldsTree s root t → ⊥
not_empty s root t q g =
    let node : 180 ≤ top t = top_is_node s root t g.stands in
    let e : 0 ≡ top t = ap (word 3) (sym q.0 ∙ g.first) in omega arith

module _ (s : State) (root k v m : ℕ) (law : IsLawful s) (lo : 170 ≤ root) (lt : root < 180) (fits : k < 2 ^ 32) (q : IsTree s root None)
    (vac : IsVacant s m) where
  root_not : root ≢ m
  root_not e = let node : 180 ≤ m = vac.0 in omega arith

  pub tree_add_distinct : are_distinct (tree_add_writes s root k v m) ≡ true
  tree_add_distinct = distinct-objects_of (tree_add_writes s root k v m) (is_in-none root (m ∷ []) (λ i. elim i [ inl e ↦ root_not e | inr e ↦ e ]), (refl, tt))

  tree_added_root : words_at (written s (tree_add_writes s root k v m)) root ≡ head_words m
  tree_added_root =
      let some = law.some in
      words-written_same s (tree_add_writes s root k v m) 0 root (0, []) tree_add_distinct (omega arith) refl (omega arith)
      ∙ ap (λ (w : List ℕ). relink w m) q.0

  tree_added_leaf : words_at (written s (tree_add_writes s root k v m)) m ≡ leaf_words root k v
  tree_added_leaf = words-written_same s (tree_add_writes s root k v m) 1 m (0, []) tree_add_distinct (omega arith) refl vac.1

  tree_added_other : (o : ℕ) → o ≢ root → o ≢ m → words_at (written s (tree_add_writes s root k v m)) o ≡ words_at s o
  tree_added_other o nr nm =
      words-written_other s (tree_add_writes s root k v m) o
      (touches-out (tree_add_writes s root k v m) o (λ i. elim i [ inl e ↦ nr e | inr (inl e) ↦ nm e | inr (inr e) ↦ e ]))

  tree_added : HoldsTree (written s (tree_add_writes s root k v m)) root (leaf m k v)
  tree_added = record {
    first = tree_added_root;
    stands = (vac.0, fits, tree_added_leaf);
    ordered = tt;
    distinct = (refl, tt);
    only = λ o node e. is_in-from o (m ∷ []) (only o node e (cases_eq o m));
  }
    where
      only : (o : ℕ) → 180 ≤ o → owner (written s (tree_add_writes s root k v m)) o ≡ suc root → (o ≡ m) ⊎ (o ≢ m) → IsIn o (m ∷ [])
      only o node e (inl z) = inl z
      only o node e (inr n) = absurd (q.1 o node (sym (ap (word 0) (tree_added_other o (omega arith) n)) ∙ e))

  tree_add_within : IsWithin s (written s (tree_add_writes s root k v m)) root
  tree_add_within o = go (cases_eq o root) (cases_eq o m)
    where
      go : (o ≡ root) ⊎ (o ≢ root) → (o ≡ m) ⊎ (o ≢ m) → (words_at (written s (tree_add_writes s root k v m)) o ≡ words_at s o)
          ⊎ ((o ≡ root) ⊎ ((180 ≤ o) × IsOf s root o × IsOf (written s (tree_add_writes s root k v m)) root o))
      go (inl e) _ = inr (inl e)
      go (inr nr) (inr nm) = inl (tree_added_other o nr nm)
      go (inr nr) (inl e) =
          let node : 180 ≤ m = vac.0 in
          inr (inr (omega arith, inl (ap (owner s) e ∙ vac.2), inr (ap (owner (written s (tree_add_writes s root k v m))) e ∙ ap (word 0) tree_added_leaf)))

  tree_add_keys : (o : ℕ) → owner s o ≢ 0 → owner (written s (tree_add_writes s root k v m)) o ≡ owner s o
      → (kind (written s (tree_add_writes s root k v m)) o ≡ kind s o) × (key (written s (tree_add_writes s root k v m)) o ≡ key s o)
  tree_add_keys o some same = go (cases_eq o root) (cases_eq o m)
    where
      go : (o ≡ root) ⊎ (o ≢ root) → (o ≡ m) ⊎ (o ≢ m) → (kind (written s (tree_add_writes s root k v m)) o ≡ kind s o)
          × (key (written s (tree_add_writes s root k v m)) o ≡ key s o)
      go (inl e) _ = absurd (some (ap (owner s) e ∙ ap (word 0) q.0))
      go (inr nr) (inl e) = absurd (some (ap (owner s) e ∙ vac.2))
      go (inr nr) (inr nm) = let e = tree_added_other o nr nm in (ap (word 1) e, ap (word 2) e)

  tree_added_half : Half s (written s (tree_add_writes s root k v m)) (tree_add_writes s root k v m) root (Lacks k) (put k v)
  tree_added_half =
      tree_half s (tree_add_writes s root k v m) root (Lacks k) (put k v) None (Some (leaf m k v)) law lo lt q tree_added
      (record { within = tree_add_within; keys = tree_add_keys; ends = λ i n e out. absurd (not_empty s root e.0 q e.1) }) refl refl

-- An add to an empty tree keeps what it must, and puts its key into the catalogue.
pub tree_add_half : (s : State) (root k v m : ℕ) → IsLawful s → 170 ≤ root → root < 180 → k < 2 ^ 32 → link s root ≡ 0 → IsVacant s m
    → Half s (written s (tree_add_writes s root k v m)) (tree_add_writes s root k v m) root (Lacks k) (put k v)
tree_add_half s root k v m law lo lt fits e vac = tree_added_half s root k v m law lo lt fits (no_tree s root law lo lt e) vac

-- a root whose link leads to a leaf has that leaf alone
pub bare_tree : (s : State) (root k l : ℕ) → IsLawful s → 170 ≤ root → root < 180 → IsBarePlace s root k l → HoldsTree s root (leaf l k (value s l))
bare_tree s root k l law lo lt place = go (law.trees root lo lt).0 (law.trees root lo lt).1
  where
    tree : (t : Tree) → HoldsTree s root t → Stands s root t → top t ≡ l → HoldsTree s root (leaf l k (value s l))
    tree (leaf n j x) g q e =
        let jk : j ≡ k = sym (ap (word 2) q.2) ∙ ap (key s) e ∙ place.is_leaf.3 in
        let xv : x ≡ value s l = sym (ap (word 5) q.2) ∙ ap (value s) e in
        let same : leaf n j x ≡ leaf l k (value s l) = λ i. leaf (e i) (jk i) (xv i) in
        subst (λ (u : Tree). HoldsTree s root u) same g
    tree (inner n d a b) g q e =
        let two : kind s n ≡ 2 = ap (word 1) q.2 in
        let one : kind s l ≡ 1 = place.is_leaf.2 in
        let z : kind s n ≡ kind s l = ap (kind s) e in absurd (omega arith)

    go : (t : Option Tree) → IsTree s root t → HoldsTree s root (leaf l k (value s l))
    go None q =
        let none : link s root ≡ 0 = ap (word 3) q.0 in
        let node : 180 ≤ l = place.is_leaf.0 in
        let e = place.first in absurd (omega arith)
    go (Some t) g = tree t g g.stands (ap (word 3) (sym g.first) ∙ place.first)

module _ (s : State) (root k l : ℕ) (law : IsLawful s) (lo : 170 ≤ root) (lt : root < 180) (place : IsBarePlace s root k l) where
  g : HoldsTree s root (leaf l k (value s l))
  g = bare_tree s root k l law lo lt place

  leaf_not_root : root ≢ l
  leaf_not_root e = let node : 180 ≤ l = place.is_leaf.0 in omega arith

  pub bare_distinct : are_distinct (bare_writes s root l) ≡ true
  bare_distinct = distinct-objects_of (bare_writes s root l) (is_in-none root (l ∷ []) (λ i. elim i [ inl e ↦ leaf_not_root e | inr e ↦ e ]), (refl, tt))

  bared_root : words_at (written s (bare_writes s root l)) root ≡ head_words 0
  bared_root =
      let some = law.some in
      words-written_same s (bare_writes s root l) 0 root (0, []) bare_distinct (omega arith) refl (omega arith) ∙ ap (λ (w : List ℕ). relink w 0) g.first

  bared_leaf : words_at (written s (bare_writes s root l)) l ≡ no_words
  bared_leaf =
      words-written_same s (bare_writes s root l) 1 l (0, []) bare_distinct (omega arith) refl (owned_in_range s l root place.is_leaf.1)

  bared_other : (o : ℕ) → o ≢ root → o ≢ l → words_at (written s (bare_writes s root l)) o ≡ words_at s o
  bared_other o nr nl =
      words-written_other s (bare_writes s root l) o
      (touches-out (bare_writes s root l) o (λ i. elim i [ inl e ↦ nr e | inr (inl e) ↦ nl e | inr (inr e) ↦ e ]))

  bared : IsTree (written s (bare_writes s root l)) root None
  bared = (bared_root, λ o node e. only o node e (cases_eq o l))
    where
      only : (o : ℕ) → 180 ≤ o → owner (written s (bare_writes s root l)) o ≡ suc root → (o ≡ l) ⊎ (o ≢ l) → ⊥
      only o node e (inl z) =
          let y : owner (written s (bare_writes s root l)) o ≡ 0 = ap (owner (written s (bare_writes s root l))) z ∙ ap (word 0) bared_leaf in omega arith
      only o node e (inr n) =
          elim (IsIn-from o (l ∷ []) (g.only o node (sym (ap (word 0) (bared_other o (omega arith) n)) ∙ e))) [ inl z ↦ n z | inr z ↦ z ]

  bare_within : IsWithin s (written s (bare_writes s root l)) root
  bare_within o = go (cases_eq o root) (cases_eq o l)
    where
      go : (o ≡ root) ⊎ (o ≢ root) → (o ≡ l) ⊎ (o ≢ l) → (words_at (written s (bare_writes s root l)) o ≡ words_at s o)
          ⊎ ((o ≡ root) ⊎ ((180 ≤ o) × IsOf s root o × IsOf (written s (bare_writes s root l)) root o))
      go (inl e) _ = inr (inl e)
      go (inr nr) (inr nl) = inl (bared_other o nr nl)
      go (inr nr) (inl e) =
          let node : 180 ≤ l = place.is_leaf.0 in
          inr (inr (omega arith, inr (ap (owner s) e ∙ place.is_leaf.1), inl (ap (owner (written s (bare_writes s root l))) e ∙ ap (word 0) bared_leaf)))

  bare_keys : (o : ℕ) → owner s o ≢ 0 → owner (written s (bare_writes s root l)) o ≡ owner s o
      → (kind (written s (bare_writes s root l)) o ≡ kind s o) × (key (written s (bare_writes s root l)) o ≡ key s o)
  bare_keys o some same = go (cases_eq o root) (cases_eq o l)
    where
      go : (o ≡ root) ⊎ (o ≢ root) → (o ≡ l) ⊎ (o ≢ l) → (kind (written s (bare_writes s root l)) o ≡ kind s o)
          × (key (written s (bare_writes s root l)) o ≡ key s o)
      go (inl e) _ = absurd (some (ap (owner s) e ∙ ap (word 0) g.first))
      go (inr nr) (inl e) =
          absurd (some (sym same ∙ ap (owner (written s (bare_writes s root l))) e ∙ ap (word 0) bared_leaf))
      go (inr nr) (inr nl) = let e = bared_other o nr nl in (ap (word 1) e, ap (word 2) e)

-- A del of the last key of a tree keeps what it must, and takes the key out of the catalogue.
pub bare_half : (s : State) (root k v l : ℕ) → IsLawful s → 170 ≤ root → root < 180 → IsBarePlace s root k l → value s l ≡ v
    → Half s (written s (bare_writes s root l)) (bare_writes s root l) root (Has k v) (take_out k)
bare_half s root k v l law lo lt place val =
    let t : HoldsTree s root (leaf l k (value s l)) = bare_tree s root k l law lo lt place in
    let one : kind s l ≡ 1 = place.is_leaf.2 in
    tree_half s (bare_writes s root l) root (Has k v) (take_out k) (Some (leaf l k (value s l))) None law lo lt t (bared s root k l law lo lt place)
    (record {
      within = bare_within s root k l law lo lt place;
      keys = bare_keys s root k l law lo lt place;
      ends = λ i n e out.
          absurd (out-touches (bare_writes s root l) n out (inr (inl (sym (ap (seek i) (grown_once s root (leaf l k (value s l)) e.0 t e.1) ∙ e.2)))));
    })
    (ap (λ (b : Bool). cond b (Some (value s l)) None) (eq-eqb k k refl) ∙ ap Some val)
    (sym (ap (λ (b : Bool). cond b [] ((k, value s l) ∷ [])) (eq-eqb k k refl)))
