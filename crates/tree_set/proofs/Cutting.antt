-- One leaf less in a tree.
use Rattle.std.proofs.Common.{◌≡◌, ◌≢◌, ℕ, suc, ◌<◌, ◌≤◌, ◌⊎◌, inl, inr, [], ◌∷◌, ◌++◌, sym, ap, ◌∙◌, subst, arith, Some}
use Rattle.std.proofs.lemmas.Bool.{cases_eq}
use Rattle.mv_history.specs.State.{State}
use Rattle.mv_history.specs.Meaning.{words_at}
use Rattle.set_model.specs.Catalogue.{Map, value_of, take_out}
use Rattle.set_model.specs.Objects.{owner, kind, key, value, no_words}
use Rattle.set_model.specs.Trees.{top, objects_in, IsDistinct, entries_in, Stands, HoldsTree, seek}
use Rattle.set_model.specs.Trees.Tree.{leaf}
use Rattle.set_model.proofs.ObjectWords.{word}
use Rattle.set_model.proofs.Frames.{IsOf, IsWithin}
use Rattle.set_model.proofs.MapParts.{take_out-behind}
use Rattle.section_work.proofs.Objects.{IsIn}
use Rattle.set_model.proofs.TreeShape.{Stands-same, only_in}
use Rattle.set_model.proofs.TreeMaps.{leaf_value}
use Rattle.tree_set.specs.Paths.{PathStep, Path, plug, node_of, parent_of, Follows, around, before, after}
use Rattle.tree_set.specs.Paths.PathStep.{left, right}
use Rattle.tree_set.specs.Places.{redirect, sibling}
use Rattle.tree_set.proofs.Plugging.{part_in, plug_in, plug_apart, distinct_part, stands_part, ordered_part, ordered_within, entries_plug}
use Rattle.tree_set.proofs.Plugging.{before_under, seek_plug, seek_beside}
use Rattle.tree_set.proofs.Around.{part_owner, part_node, parent_at, part_not_parent}
use Rattle.tree_set.proofs.Replacing.{Replaced, replaced, redirect_keeps}
use Rattle.tree_set.proofs.Turns.{beside, beside_in, turn_in, leaf_in, in_turn, beside_not_turn, beside_not_leaf, beside_distinct, beside_stands}
use Rattle.tree_set.proofs.Turns.{beside_ordered, beside_within, sibling_is, top_turn, seek_turn, entries_turn}

-- the words of the grandparent g, the parent p and the leaf l; the rest is as before
pub record Prunes (s s' : State) (g p l : ℕ) : Type 0 where
  pub grand : words_at s' g ≡ redirect (words_at s g) p (sibling s p l)
  pub no_parent : words_at s' p ≡ no_words
  pub no_leaf : words_at s' l ≡ no_words
  pub others : (o : ℕ) → o ≢ g → o ≢ p → o ≢ l → words_at s' o ≡ words_at s o

-- The leaf l behind the last turn of the search's path, at the parent p, and the grandparent g before it.
pub record IsTwig (s : State) (root k g p l x : ℕ) (ps : Path) (q : PathStep) : Type 0 where
  pub grown : HoldsTree s root (plug ps (plug (q ∷ []) (leaf l k x)))
  pub follows : Follows k ps
  pub turns : Follows k (q ∷ [])
  pub grand : parent_of root ps ≡ g
  pub parent : node_of q ≡ p

module _ (s s' : State) (root k g p l x : ℕ) (ps : Path) (q : PathStep) (lt : root < 180) (a : IsTwig s root k g p l x ps q) (c : Prunes s s' g p l) where
  stood : Stands s root (plug (q ∷ []) (leaf l k x))
  stood = stands_part s root ps (plug (q ∷ []) (leaf l k x)) a.grown.stands

  apart : IsDistinct (objects_in (plug (q ∷ []) (leaf l k x)))
  apart = distinct_part ps (plug (q ∷ []) (leaf l k x)) a.grown.distinct

  parent_part : IsIn p (objects_in (plug (q ∷ []) (leaf l k x)))
  parent_part = subst (λ (o : ℕ). IsIn o (objects_in (plug (q ∷ []) (leaf l k x)))) a.parent (turn_in q (leaf l k x))

  part_not_grand : (o : ℕ) → IsIn o (objects_in (plug (q ∷ []) (leaf l k x))) → o ≢ g
  part_not_grand = part_not_parent s root ps (plug (q ∷ []) (leaf l k x)) lt a.grown g a.grand

  part_of_root : (o : ℕ) → IsIn o (objects_in (plug (q ∷ []) (leaf l k x))) → owner s o ≡ suc root
  part_of_root = part_owner s root ps (plug (q ∷ []) (leaf l k x)) a.grown

  beside_stays : (o : ℕ) → IsIn o (objects_in (beside q)) → words_at s' o ≡ words_at s o
  beside_stays o i =
      c.others o (part_not_grand o (beside_in q (leaf l k x) o i)) (λ e. beside_not_turn q (leaf l k x) apart o i (e ∙ sym a.parent))
      (beside_not_leaf q l k x apart o i)

  other_stays : (o : ℕ) → (o ≡ root) ⊎ IsIn o (around ps) → o ≢ parent_of root ps → words_at s' o ≡ words_at s o
  other_stays o (inl e) n =
      let up : 180 ≤ p = part_node s root ps (plug (q ∷ []) (leaf l k x)) a.grown p parent_part in
      let ul : 180 ≤ l = part_node s root ps (plug (q ∷ []) (leaf l k x)) a.grown l (leaf_in q l k x) in
      c.others o (λ z. n (z ∙ sym a.grand)) (omega arith) (omega arith)
  other_stays o (inr i) n =
      c.others o (λ z. n (z ∙ sym a.grand))
      (λ z. plug_apart ps (plug (q ∷ []) (leaf l k x)) a.grown.distinct o i
      (subst (λ (y : ℕ). IsIn y (objects_in (plug (q ∷ []) (leaf l k x)))) (sym z) parent_part))
      (λ z. plug_apart ps (plug (q ∷ []) (leaf l k x)) a.grown.distinct o i
      (subst (λ (y : ℕ). IsIn y (objects_in (plug (q ∷ []) (leaf l k x)))) (sym z) (leaf_in q l k x)))

  grand_owner : owner s' g ≡ owner s g
  grand_owner = ap (word 0) c.grand ∙ redirect_keeps (words_at s g) p (sibling s p l) 0 (omega arith) (omega arith)

  -- where the owner names the root afterwards, it did before, and the object is not one that was taken out
  owner_before : (o : ℕ) → owner s' o ≡ suc root → (owner s o ≡ suc root) × (o ≢ p) × (o ≢ l)
  owner_before o e = go (cases_eq o p) (cases_eq o l) (cases_eq o g)
    where
      go : (o ≡ p) ⊎ (o ≢ p) → (o ≡ l) ⊎ (o ≢ l) → (o ≡ g) ⊎ (o ≢ g) → (owner s o ≡ suc root) × (o ≢ p) × (o ≢ l)
      go (inl z) _ _ = absurd (let y : owner s' o ≡ 0 = ap (owner s') z ∙ ap (word 0) c.no_parent in omega arith)
      go (inr _) (inl z) _ = absurd (let y : owner s' o ≡ 0 = ap (owner s') z ∙ ap (word 0) c.no_leaf in omega arith)
      go (inr np) (inr nl) (inl z) = (ap (owner s) z ∙ sym grand_owner ∙ ap (owner s') (sym z) ∙ e, np, nl)
      go (inr np) (inr nl) (inr ng) = (sym (ap (word 0) (c.others o ng np nl)) ∙ e, np, nl)

  pruned_as : Replaced s s' root ps (plug (q ∷ []) (leaf l k x)) (beside q)
  pruned_as = record {
    leads =
        ap (words_at s') a.grand ∙ c.grand ∙ ap (λ (z : ℕ). redirect (words_at s z) p (sibling s p l)) (sym a.grand)
        ∙ ap (λ (z : ℕ). redirect (words_at s (parent_of root ps)) z (sibling s z l)) (sym a.parent)
        ∙ ap (λ (z : ℕ). redirect (words_at s (parent_of root ps)) (node_of q) z) (sibling_is s root q l k x stood apart)
        ∙ ap (λ (z : ℕ). redirect (words_at s (parent_of root ps)) z (top (beside q))) (sym (top_turn q (leaf l k x)));
    others = other_stays;
    stands = Stands-same s s' root (beside q) (beside_stands s root q (leaf l k x) stood) beside_stays;
    ordered = beside_ordered q (leaf l k x) (ordered_part ps (plug (q ∷ []) (leaf l k x)) a.grown.ordered);
    within = beside_within ps q (leaf l k x) (ordered_within ps (plug (q ∷ []) (leaf l k x)) a.grown.ordered);
    distinct = beside_distinct q (leaf l k x) apart;
    apart = λ o i n. plug_apart ps (plug (q ∷ []) (leaf l k x)) a.grown.distinct o i (beside_in q (leaf l k x) o n);
    only = λ o lo e. only o lo (owner_before o e);
  }
    where
      only : (o : ℕ) → 180 ≤ o → (owner s o ≡ suc root) × (o ≢ p) × (o ≢ l) → IsIn o (around ps) ⊎ IsIn o (objects_in (beside q))
      only o lo (e, np, nl) = elim (plug_in ps (plug (q ∷ []) (leaf l k x)) o (only_in s root (plug ps (plug (q ∷ []) (leaf l k x))) a.grown o lo e)) [
        | inl i ↦ inl i
        | inr i ↦ elim (in_turn q l k x o i) [
          | inl z ↦ absurd (np (z ∙ a.parent))
          | inr (inl z) ↦ absurd (nl z)
          | inr (inr j) ↦ inr j
        ]
      ]

  -- The tree without the leaf and its parent.
  pub grown_less : HoldsTree s' root (plug ps (beside q))
  grown_less = replaced s s' root ps (plug (q ∷ []) (leaf l k x)) (beside q) lt a.grown pruned_as

  pub cut_within : IsWithin s s' root
  cut_within o = go (cases_eq o g) (cases_eq o p) (cases_eq o l)
    where
      go : (o ≡ g) ⊎ (o ≢ g) → (o ≡ p) ⊎ (o ≢ p) → (o ≡ l) ⊎ (o ≢ l)
          → (words_at s' o ≡ words_at s o) ⊎ ((o ≡ root) ⊎ ((180 ≤ o) × IsOf s root o × IsOf s' root o))
      go (inr ng) (inr np) (inr nl) = inl (c.others o ng np nl)
      go (inr ng) (inl e) _ =
          let lo : 180 ≤ p = part_node s root ps (plug (q ∷ []) (leaf l k x)) a.grown p parent_part in
          inr (inr (omega arith, inr (ap (owner s) e ∙ part_of_root p parent_part), inl (ap (owner s') e ∙ ap (word 0) c.no_parent)))
      go (inr ng) (inr np) (inl e) =
          let lo : 180 ≤ l = part_node s root ps (plug (q ∷ []) (leaf l k x)) a.grown l (leaf_in q l k x) in
          inr (inr (omega arith, inr (ap (owner s) e ∙ part_of_root l (leaf_in q l k x)), inl (ap (owner s') e ∙ ap (word 0) c.no_leaf)))
      go (inl e) _ _ = elim (parent_at s root ps (plug (q ∷ []) (leaf l k x)) a.grown g a.grand) [
        | inl z ↦ inr (inl (e ∙ z))
        | inr z ↦ (let lo : 180 ≤ g = z.0 in inr (inr (omega arith, inr (ap (owner s) e ∙ z.1), inr (ap (owner s') e ∙ grand_owner ∙ z.1))))
      ]

  -- an object that stays in its structure keeps its kind and key
  pub cut_keys : (o : ℕ) → owner s o ≢ 0 → owner s' o ≡ owner s o → (kind s' o ≡ kind s o) × (key s' o ≡ key s o)
  cut_keys o some same = go (cases_eq o g) (cases_eq o p) (cases_eq o l)
    where
      go : (o ≡ g) ⊎ (o ≢ g) → (o ≡ p) ⊎ (o ≢ p) → (o ≡ l) ⊎ (o ≢ l) → (kind s' o ≡ kind s o) × (key s' o ≡ key s o)
      go (inr ng) (inr np) (inr nl) = let e = c.others o ng np nl in (ap (word 1) e, ap (word 2) e)
      go (inr ng) (inl e) _ = absurd (some (sym same ∙ ap (owner s') e ∙ ap (word 0) c.no_parent))
      go (inr ng) (inr np) (inl e) = absurd (some (sym same ∙ ap (owner s') e ∙ ap (word 0) c.no_leaf))
      go (inl e) _ _ = (
        ap (kind s') e ∙ ap (word 1) c.grand ∙ redirect_keeps (words_at s g) p (sibling s p l) 1 (omega arith) (omega arith) ∙ ap (kind s) (sym e),
        ap (key s') e ∙ ap (word 2) c.grand ∙ redirect_keeps (words_at s g) p (sibling s p l) 2 (omega arith) (omega arith) ∙ ap (key s) (sym e),
      )

  -- a search that ended at another leaf ends there still
  pub cut_ends : (i n : ℕ) → seek i (plug ps (plug (q ∷ []) (leaf l k x))) ≡ n → n ≢ l → seek i (plug ps (beside q)) ≡ n
  cut_ends i n e ne = elim (seek_beside i ps (plug (q ∷ []) (leaf l k x)) (beside q)) [
    | inr z ↦ sym z ∙ e
    | inl f ↦ elim (seek_turn i q l k x) [
      | inl z ↦ absurd (ne (sym e ∙ seek_plug i ps (plug (q ∷ []) (leaf l k x)) f ∙ z))
      | inr z ↦ seek_plug i ps (beside q) f ∙ sym z ∙ sym (seek_plug i ps (plug (q ∷ []) (leaf l k x)) f) ∙ e
    ]
  ]

-- the entries without that of the leaf
pub entries_cut : (s : State) (root k g p l x : ℕ) (ps : Path) (q : PathStep) → IsTwig s root k g p l x ps q
    → entries_in (plug ps (beside q)) ≡ take_out k (entries_in (plug ps (plug (q ∷ []) (leaf l k x))))
entries_cut s root k g p l x ps q a =
    entries_plug ps (beside q)
    ∙ sym (ap (λ (m : Map). before ps ++ m) (entries_turn q l k x (after ps) (ordered_part ps (plug (q ∷ []) (leaf l k x)) a.grown.ordered) a.turns))
    ∙ sym (take_out-behind k (before ps) (entries_in (plug (q ∷ []) (leaf l k x)) ++ after ps)
    (before_under k ps (plug (q ∷ []) (leaf l k x)) a.grown.ordered a.follows)) ∙ ap (take_out k) (sym (entries_plug ps (plug (q ∷ []) (leaf l k x))))

leaf_words_of : (s : State) (root : ℕ) (q : PathStep) (l k x : ℕ) → Stands s root (plug (q ∷ []) (leaf l k x)) → Stands s root (leaf l k x)
leaf_words_of s root (left n d b) l k x q = q.3
leaf_words_of s root (right n d a) l k x q = q.4

pub twig_value : (s : State) (root k g p l x : ℕ) (ps : Path) (q : PathStep) → IsTwig s root k g p l x ps q
    → value_of k (entries_in (plug ps (plug (q ∷ []) (leaf l k x)))) ≡ Some (value s l)
twig_value s root k g p l x ps q a =
    let w = (leaf_words_of s root q l k x (stands_part s root ps (plug (q ∷ []) (leaf l k x)) a.grown.stands)).2 in
    let one : kind s l ≡ 1 = ap (word 1) w in
    ap (λ (j : ℕ). value_of j (entries_in (plug ps (plug (q ∷ []) (leaf l k x))))) (sym (ap (word 2) w))
    ∙ leaf_value s root (plug ps (plug (q ∷ []) (leaf l k x))) a.grown.stands a.grown.ordered l
    (part_in ps (plug (q ∷ []) (leaf l k x)) l (leaf_in q l k x)) (omega arith)
