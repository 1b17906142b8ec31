-- The writes of a del that leaves a leaf in the tree.
use Rattle.std.proofs.Common.{◌≡◌, ◌≢◌, ℕ, suc, ◌<◌, ◌≤◌, inl, inr, true, [], ◌∷◌, ◌++◌, refl, sym, ap, ◌∙◌, subst, arith, Option, Some, None}
use Rattle.mv_history.specs.State.{State, written}
use Rattle.mv_history.specs.Legal.{are_distinct}
use Rattle.mv_history.proofs.Writing.{words-written_other, words-written_same}
use Rattle.set_model.specs.Catalogue.{take_out}
use Rattle.set_model.specs.Objects.{owner, value}
use Rattle.set_model.specs.Trees.{Tree, top, objects_in, HoldsTree, IsTree, seek}
use Rattle.set_model.specs.Trees.Tree.{leaf}
use Rattle.set_model.specs.TreeLaws.{grown_once}
use Rattle.set_model.specs.Lawful.{IsLawful}
use Rattle.set_model.proofs.ObjectWords.{word, owned_in_range}
use Rattle.section_work.proofs.Objects.{IsIn, touches-out, out-touches}
use Rattle.set_model.proofs.TreeShape.{is_in-none, only_in}
use Rattle.set_model.proofs.TreeMaps.{seek_leaf}
use Rattle.set_model.proofs.Written.{distinct-objects_of}
use Rattle.set_model.proofs.Halves.{Half}
use Rattle.set_model.proofs.Ways.{Has}
use Rattle.tree_set.specs.Paths.{PathStep, Path, plug, node_of, parent_of, Follows}
use Rattle.tree_set.specs.Places.{IsParent, IsLeaf, IsCutPlace, tree_del_writes}
use Rattle.tree_set.proofs.Plugging.{path_to, stands_part, distinct_part, seek_plug}
use Rattle.tree_set.proofs.Around.{part_owner, parent_at, part_not_parent, at_in_range}
use Rattle.tree_set.proofs.Replacing.{parent_is}
use Rattle.tree_set.proofs.Turns.{beside, last_turn, plug_last, parent_last, follows_front, follows_back, turn_in, leaf_in, leaf_not_turn, top_turn}
use Rattle.tree_set.proofs.Halving.{tree_half}
use Rattle.tree_set.proofs.Cutting.{IsTwig, Prunes, grown_less, cut_within, cut_keys, cut_ends, entries_cut, twig_value}

-- a leaf that names the root is in its tree
pub tree_with : (s : State) (root o : ℕ) → IsLawful s → 170 ≤ root → root < 180 → 180 ≤ o → owner s o ≡ suc root → (t : Tree) × HoldsTree s root t
tree_with s root o l lo lt node own = go (l.trees root lo lt).0 (l.trees root lo lt).1
  where
    go : (t : Option Tree) → IsTree s root t → (t : Tree) × HoldsTree s root t
    go None q = absurd (q.1 o node own)
    go (Some t) g = (t, g)

-- the search for a leaf's key takes a path to it
pub path_to_leaf : (s : State) (root k l : ℕ) (t : Tree) → HoldsTree s root t → IsLeaf s root k l
    → (x : ℕ) × (ps : Path) × HoldsTree s root (plug ps (leaf l k x)) × Follows k ps
path_to_leaf s root k l t g is = (r.3, r.0, subst (λ (j : ℕ). HoldsTree s root (plug r.0 (leaf l j r.3))) key_is at_leaf, r.5)
  where
    r : (ps : Path) × (n : ℕ) × (j : ℕ) × (v : ℕ) × (t ≡ plug ps (leaf n j v)) × Follows k ps
    r = path_to k t

    ends : seek k t ≡ l
    ends =
        let one = is.2 in
        ap (λ (j : ℕ). seek j t) (sym is.3) ∙ seek_leaf s root t g.stands g.ordered l (only_in s root t g l is.0 is.1) (omega arith)

    found : r.1 ≡ l
    found = sym (ap (seek k) r.4 ∙ seek_plug k r.0 (leaf r.1 r.2 r.3) r.5) ∙ ends

    at_leaf : HoldsTree s root (plug r.0 (leaf l r.2 r.3))
    at_leaf =
        subst (λ (n : ℕ). HoldsTree s root (plug r.0 (leaf n r.2 r.3))) found (subst (λ (u : Tree). HoldsTree s root u) r.4 g)

    key_is : r.2 ≡ k
    key_is = sym (ap (word 2) (stands_part s root r.0 (leaf l r.2 r.3) at_leaf.stands).2) ∙ is.3

-- The last turn of the search's path, where the place of a del is.
pub cut_twig : (s : State) (root k g p l : ℕ) → IsLawful s → 170 ≤ root → root < 180 → IsCutPlace s root k g p l
    → (x : ℕ) × (ps : Path) × (q : PathStep) × IsTwig s root k g p l x ps q
cut_twig s root k g p l law lo lt place =
    let t = tree_with s root l law lo lt place.is_leaf.0 place.is_leaf.1 in
    let r = path_to_leaf s root k l t.0 t.1 place.is_leaf in
    let e : parent_of root r.1 ≡ p = parent_is s root r.1 (leaf l k r.0) r.2 p (inr (place.is_inner, place.child)) in
    from r.0 r.1 r.2 r.3 e
  where
    from : (x : ℕ) (qs : Path) → HoldsTree s root (plug qs (leaf l k x)) → Follows k qs → parent_of root qs ≡ p
        → (x : ℕ) × (ps : Path) × (q : PathStep) × IsTwig s root k g p l x ps q
    from x [] grown f e = let up : 180 ≤ p = place.is_inner.0 in absurd (omega arith)
    from x (t ∷ qs) grown f e =
        let r = last_turn t qs in
        let whole : HoldsTree s root (plug r.0 (plug (r.1 ∷ []) (leaf l k x))) =
        subst (λ (u : Tree). HoldsTree s root u) (ap (λ (u : Path). plug u (leaf l k x)) r.2 ∙ plug_last r.0 r.1 (leaf l k x)) grown in
        let follows : Follows k (r.0 ++ r.1 ∷ []) = subst (λ (u : Path). Follows k u) r.2 f in
        let parent : node_of r.1 ≡ p = sym (ap (parent_of root) r.2 ∙ parent_last root r.0 r.1) ∙ e in
        let above : IsParent s root g (top (plug (r.1 ∷ []) (leaf l k x))) =
        subst (λ (u : ℕ). IsParent s root g u) (sym (top_turn r.1 (leaf l k x) ∙ parent)) place.above in (
          x,
          r.0,
          r.1,
          record {
            grown = whole;
            follows = follows_front k r.0 (r.1 ∷ []) follows;
            turns = follows_back k r.0 (r.1 ∷ []) follows;
            grand = parent_is s root r.0 (plug (r.1 ∷ []) (leaf l k x)) whole g above;
            parent = parent;
          },
        )

module _ (s : State) (root k g p l x : ℕ) (ps : Path) (q : PathStep) (law : IsLawful s) (lt : root < 180) (a : IsTwig s root k g p l x ps q) where
  parent_part : IsIn p (objects_in (plug (q ∷ []) (leaf l k x)))
  parent_part = subst (λ (o : ℕ). IsIn o (objects_in (plug (q ∷ []) (leaf l k x)))) a.parent (turn_in q (leaf l k x))

  not_grand : (o : ℕ) → IsIn o (objects_in (plug (q ∷ []) (leaf l k x))) → g ≢ o
  not_grand o i e = part_not_parent s root ps (plug (q ∷ []) (leaf l k x)) lt a.grown g a.grand o i (sym e)

  p_not_l : p ≢ l
  p_not_l e =
      leaf_not_turn q l k x (distinct_part ps (plug (q ∷ []) (leaf l k x)) a.grown.distinct) (sym e ∙ sym a.parent)

  pub cut_distinct : are_distinct (tree_del_writes s g p l) ≡ true
  cut_distinct = distinct-objects_of (tree_del_writes s g p l) (
    is_in-none g (p ∷ l ∷ []) (λ i. elim i [ inl e ↦ not_grand p parent_part e | inr (inl e) ↦ not_grand l (leaf_in q l k x) e | inr (inr e) ↦ e ]),
    (is_in-none p (l ∷ []) (λ i. elim i [ inl e ↦ p_not_l e | inr e ↦ e ]), (refl, tt)),
  )

  -- the words that they leave
  pub cut_prunes : Prunes s (written s (tree_del_writes s g p l)) g p l
  cut_prunes = record {
    grand = words-written_same s (tree_del_writes s g p l) 0 g (0, []) cut_distinct (omega arith) refl
        (at_in_range s root g law lt (parent_at s root ps (plug (q ∷ []) (leaf l k x)) a.grown g a.grand));
    no_parent = words-written_same s (tree_del_writes s g p l) 1 p (0, []) cut_distinct (omega arith) refl
        (owned_in_range s p root (part_owner s root ps (plug (q ∷ []) (leaf l k x)) a.grown p parent_part));
    no_leaf = words-written_same s (tree_del_writes s g p l) 2 l (0, []) cut_distinct (omega arith) refl
        (owned_in_range s l root (part_owner s root ps (plug (q ∷ []) (leaf l k x)) a.grown l (leaf_in q l k x)));
    others = λ o ng np nl. words-written_other s (tree_del_writes s g p l) o
        (touches-out (tree_del_writes s g p l) o (λ i. elim i [ inl e ↦ ng e | inr (inl e) ↦ np e | inr (inr (inl e)) ↦ nl e | inr (inr (inr e)) ↦ e ]));
  }

-- A del that leaves a leaf in the tree keeps what it must, and takes its key out of the catalogue.
pub cut_half : (s : State) (root k v g p l : ℕ) → IsLawful s → 170 ≤ root → root < 180 → IsCutPlace s root k g p l → value s l ≡ v
    → Half s (written s (tree_del_writes s g p l)) (tree_del_writes s g p l) root (Has k v) (take_out k)
cut_half s root k v g p l law lo lt place val =
    let r = cut_twig s root k g p l law lo lt place in from r.0 r.1 r.2 r.3
  where
    from : (x : ℕ) (ps : Path) (q : PathStep) → IsTwig s root k g p l x ps q
        → Half s (written s (tree_del_writes s g p l)) (tree_del_writes s g p l) root (Has k v) (take_out k)
    from x ps q a =
        let s' : State = written s (tree_del_writes s g p l) in
        let c : Prunes s s' g p l = cut_prunes s root k g p l x ps q law lt a in
        let new : HoldsTree s' root (plug ps (beside q)) = grown_less s s' root k g p l x ps q lt a c in
        tree_half s (tree_del_writes s g p l) root (Has k v) (take_out k) (Some (plug ps (plug (q ∷ []) (leaf l k x)))) (Some (plug ps (beside q))) law
        lo lt a.grown new
        (record {
          within = cut_within s s' root k g p l x ps q lt a c;
          keys = cut_keys s s' root k g p l x ps q lt a c;
          ends = λ i n e out. (
            plug ps (beside q),
            new,
            cut_ends s s' root k g p l x ps q lt a c i n (ap (seek i) (grown_once s root (plug ps (plug (q ∷ []) (leaf l k x))) e.0 a.grown e.1) ∙ e.2)
                (λ z. out-touches (tree_del_writes s g p l) n out (inr (inr (inl z)))),
          );
        })
        (twig_value s root k g p l x ps q a ∙ ap Some val) (entries_cut s root k g p l x ps q a)
