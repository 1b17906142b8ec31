-- The ways to change the map of a tree: what their commits need so that they are fit.
use Rattle.std.proofs.Common.{◌≡◌, ◌≢◌, ℕ, ◌^◌, ◌<◌, ◌≤◌, inl, inr, true, Some, [], ◌∷◌, refl, sym, ap, ◌∙◌, subst, arith}
use Rattle.mv_history.specs.State.{State}
use Rattle.mv_history.specs.Legal.{are_distinct}
use Rattle.mv_history.specs.Meaning.{words_at}
use Rattle.set_model.specs.Catalogue.{map_of, value_of}
use Rattle.set_model.specs.CatalogueOf.{name_of, catalogue_of}
use Rattle.set_model.specs.Objects.{kind, link, value}
use Rattle.set_model.specs.Lawful.{IsLawful}
use Rattle.set_model.specs.Trees.{objects_in, entries_in, EndsAt}
use Rattle.set_model.proofs.ObjectWords.{word}
use Rattle.section_work.proofs.Objects.{IsIn}
use Rattle.set_model.proofs.TreeShape.{seek_in, only_in, Stands-node, Stands-owner}
use Rattle.set_model.proofs.TreeMaps.{leaf_value, map_of-tree}
use Rattle.set_model.proofs.Ways.{IsAt, AreVacant, DelWay, AddWay, PutWay}
use Rattle.list_set.specs.Places.{put_writes}
use Rattle.tree_set.specs.Places.{IsInner, IsLeaf, IsChild, IsParent, tree_add_writes, IsGrowPlace, grow_writes, IsBarePlace, bare_writes, IsCutPlace}
use Rattle.tree_set.specs.Places.{tree_del_writes}
use Rattle.tree_set.proofs.GrowFit.{grow_site, grow_distinct, grow_half}
use Rattle.tree_set.proofs.CutFit.{tree_with, cut_twig, cut_distinct, cut_half}
use Rattle.tree_set.proofs.Ends.{no_tree, tree_add_distinct, tree_add_half, bare_distinct, bare_half}
use Rattle.tree_set.proofs.Putting.{put_half}

-- What a place says of an object stays where the object's words do.
pub inner_same : (s s' : State) (root o : ℕ) → words_at s' o ≡ words_at s o → IsInner s root o → IsInner s' root o
inner_same s s' root o e i = (i.0, ap (word 0) e ∙ i.1, ap (word 1) e ∙ i.2)

pub leaf_same : (s s' : State) (root k o : ℕ) → words_at s' o ≡ words_at s o → IsLeaf s root k o → IsLeaf s' root k o
leaf_same s s' root k o e i = (i.0, ap (word 0) e ∙ i.1, ap (word 1) e ∙ i.2, ap (word 2) e ∙ i.3)

pub child_same : (s s' : State) (p n : ℕ) → words_at s' p ≡ words_at s p → IsChild s p n → IsChild s' p n
child_same s s' p n e (inl c) = inl (ap (word 3) e ∙ c)
child_same s s' p n e (inr c) = inr (ap (word 4) e ∙ c)

pub parent_same : (s s' : State) (root p n : ℕ) → words_at s' p ≡ words_at s p → IsParent s root p n → IsParent s' root p n
parent_same s s' root p n e (inl (q, c)) = inl (q, ap (link s') (sym q) ∙ ap (word 3) e ∙ ap (link s) q ∙ c)
parent_same s s' root p n e (inr (i, c)) = inr (inner_same s s' root p e i, child_same s s' p n e c)

pub parent_at_root : (s : State) (root p n : ℕ) → IsParent s root p n → IsAt s root p
parent_at_root s root p n (inl (q, c)) = inl q
parent_at_root s root p n (inr (i, c)) = inr (i.0, i.1)

-- the leaf where a search ends is a node of the tree
pub ends_at_root : (s : State) (root k l : ℕ) → EndsAt s root k l → IsAt s root l
ends_at_root s root k l e =
    let i : IsIn l (objects_in e.0) = subst (λ (o : ℕ). IsIn o (objects_in e.0)) e.2 (seek_in k e.0) in
    inr (Stands-node s root e.0 e.1.stands l i, Stands-owner s root e.0 e.1.stands l i)

-- a key more, in a tree that is not empty
unfoldable pub grow_way : (root k v p l m w : ℕ) → 170 ≤ root → root < 180 → k < 2 ^ 32 → m ≢ w → AddWay root k v
grow_way root k v p l m w lo lt fits ne = record {
  Place = λ s. IsGrowPlace s root k p l;
  objects = p ∷ l ∷ [];
  fresh = m ∷ w ∷ [];
  writes = λ s. grow_writes s root k v p l m w;
  names = λ s. refl;
  stays = λ s s' ws keeps out same place. record {
    above = parent_same s s' root p l (same p (inl refl)) place.above;
    ends = keeps.ends k l lo place.ends (out l (inr (inl refl)));
    other = λ e. place.other (sym (ap (word 2) (same l (inr (inl refl)))) ∙ e);
  };
  same = λ s s' same. writes_same s s' (same p (inl refl)) (same l (inr (inl refl)));
  distinct = λ s law place vacant. distinct s law place vacant;
  owned = λ s law place o i. owned s place o i;
  half = λ s law place vacant. grow_half s root k v p l m w law lo lt fits place (vacant m (inl refl)) (vacant w (inr (inl refl))) ne;
}
  where
    writes_same : (s s' : State) → words_at s' p ≡ words_at s p → words_at s' l ≡ words_at s l
        → grow_writes s' root k v p l m w ≡ grow_writes s root k v p l m w
    writes_same s s' e f = cc

    distinct : (s : State) → IsLawful s → IsGrowPlace s root k p l → AreVacant s (m ∷ w ∷ []) → are_distinct (grow_writes s root k v p l m w) ≡ true
    distinct s law place vacant =
        let r = grow_site s root k p l m w fits place (vacant m (inl refl)) (vacant w (inr (inl refl))) ne in
        grow_distinct s root k v p l m w r.0 r.1 r.2 law lt r.3

    owned : (s : State) → IsGrowPlace s root k p l → (o : ℕ) → IsIn o (p ∷ l ∷ []) → IsAt s root o
    owned s place o (inl e) = subst (λ (u : ℕ). IsAt s root u) (sym e) (parent_at_root s root p l place.above)
    owned s place o (inr (inl e)) = subst (λ (u : ℕ). IsAt s root u) (sym e) (ends_at_root s root k l place.ends)
    owned s place o (inr (inr e)) = absurd e

-- the first key of a tree
unfoldable pub tree_add_way : (root k v m : ℕ) → 170 ≤ root → root < 180 → k < 2 ^ 32 → AddWay root k v
tree_add_way root k v m lo lt fits = record {
  Place = λ s. link s root ≡ 0;
  objects = root ∷ [];
  fresh = m ∷ [];
  writes = λ s. tree_add_writes s root k v m;
  names = λ s. refl;
  stays = λ s s' ws keeps out same place. ap (word 3) (same root (inl refl)) ∙ place;
  same = λ s s' same. writes_same s s' (same root (inl refl));
  distinct = λ s law place vacant. tree_add_distinct s root k v m law lo lt fits (no_tree s root law lo lt place) (vacant m (inl refl));
  owned = λ s law place o i. elim i [ inl e ↦ inl e | inr e ↦ absurd e ];
  half = λ s law place vacant. tree_add_half s root k v m law lo lt fits place (vacant m (inl refl));
}
  where
    writes_same : (s s' : State) → words_at s' root ≡ words_at s root → tree_add_writes s' root k v m ≡ tree_add_writes s root k v m
    writes_same s s' e = cc

-- a key less, where others are left
unfoldable pub cut_way : (root k v g p l : ℕ) → 170 ≤ root → root < 180 → DelWay root k v
cut_way root k v g p l lo lt = record {
  Place = λ s. IsCutPlace s root k g p l × (value s l ≡ v);
  objects = g ∷ p ∷ l ∷ [];
  fresh = [];
  writes = λ s. tree_del_writes s g p l;
  names = λ s. refl;
  stays = λ s s' ws keeps out same place. (
    record {
      above = parent_same s s' root g p (same g (inl refl)) place.0.above;
      is_inner = inner_same s s' root p (same p (inr (inl refl))) place.0.is_inner;
      child = child_same s s' p l (same p (inr (inl refl))) place.0.child;
      is_leaf = leaf_same s s' root k l (same l (inr (inr (inl refl)))) place.0.is_leaf;
    },
    ap (word 5) (same l (inr (inr (inl refl)))) ∙ place.1,
  );
  same = λ s s' same. writes_same s s' (same g (inl refl)) (same p (inr (inl refl)));
  distinct = λ s law place vacant. distinct s law place.0;
  owned = λ s law place o i. owned s place.0 o i;
  half = λ s law place vacant. cut_half s root k v g p l law lo lt place.0 place.1;
}
  where
    writes_same : (s s' : State) → words_at s' g ≡ words_at s g → words_at s' p ≡ words_at s p → tree_del_writes s' g p l ≡ tree_del_writes s g p l
    writes_same s s' e f = cc

    distinct : (s : State) → IsLawful s → IsCutPlace s root k g p l → are_distinct (tree_del_writes s g p l) ≡ true
    distinct s law place =
        let r = cut_twig s root k g p l law lo lt place in cut_distinct s root k g p l r.0 r.1 r.2 law lt r.3

    owned : (s : State) → IsCutPlace s root k g p l → (o : ℕ) → IsIn o (g ∷ p ∷ l ∷ []) → IsAt s root o
    owned s place o (inl e) = subst (λ (u : ℕ). IsAt s root u) (sym e) (parent_at_root s root g p place.above)
    owned s place o (inr (inl e)) =
        subst (λ (u : ℕ). IsAt s root u) (sym e) (inr (place.is_inner.0, place.is_inner.1))
    owned s place o (inr (inr (inl e))) =
        subst (λ (u : ℕ). IsAt s root u) (sym e) (inr (place.is_leaf.0, place.is_leaf.1))
    owned s place o (inr (inr (inr e))) = absurd e

-- the last key of a tree
unfoldable pub bare_way : (root k v l : ℕ) → 170 ≤ root → root < 180 → DelWay root k v
bare_way root k v l lo lt = record {
  Place = λ s. IsBarePlace s root k l × (value s l ≡ v);
  objects = root ∷ l ∷ [];
  fresh = [];
  writes = λ s. bare_writes s root l;
  names = λ s. refl;
  stays = λ s s' ws keeps out same place. (
    record {
      first = ap (word 3) (same root (inl refl)) ∙ place.0.first;
      is_leaf = leaf_same s s' root k l (same l (inr (inl refl))) place.0.is_leaf;
    },
    ap (word 5) (same l (inr (inl refl))) ∙ place.1,
  );
  same = λ s s' same. writes_same s s' (same root (inl refl));
  distinct = λ s law place vacant. bare_distinct s root k l law lo lt place.0;
  owned = λ s law place o i. elim i [
    | inl e ↦ inl e
    | inr (inl e) ↦ subst (λ (u : ℕ). IsAt s root u) (sym e) (inr (place.0.is_leaf.0, place.0.is_leaf.1))
    | inr (inr e) ↦ absurd e
  ];
  half = λ s law place vacant. bare_half s root k v l law lo lt place.0 place.1;
}
  where
    writes_same : (s s' : State) → words_at s' root ≡ words_at s root → bare_writes s' root l ≡ bare_writes s root l
    writes_same s s' e = cc

-- another value for a key
unfoldable pub put_way : (root k v l : ℕ) → 170 ≤ root → root < 180 → PutWay root k v
put_way root k v l lo lt = record {
  Place = λ s. IsLeaf s root k l × (value s l ≢ v);
  objects = l ∷ [];
  fresh = [];
  writes = λ s. put_writes s l v;
  names = λ s. refl;
  stays = λ s s' ws keeps out same place. (
    leaf_same s s' root k l (same l (inl refl)) place.0,
    λ e. place.1 (sym (ap (word 5) (same l (inl refl))) ∙ e),
  );
  same = λ s s' same. writes_same s s' (same l (inl refl));
  distinct = λ s law place vacant. refl;
  owned = λ s law place o i. elim i [
    | inl e ↦ subst (λ (u : ℕ). IsAt s root u) (sym e) (inr (place.0.0, place.0.1))
    | inr e ↦ absurd e
  ];
  half = λ s law place vacant. put_half s root k v l law lo lt place.0 place.1;
}
  where
    writes_same : (s s' : State) → words_at s' l ≡ words_at s l → put_writes s' l v ≡ put_writes s l v
    writes_same s s' e = cc

-- the value of a leaf in the map of the tree's name
pub leaf_has : (s : State) (root k l : ℕ) → IsLawful s → 170 ≤ root → root < 180 → IsLeaf s root k l
    → value_of k (map_of (name_of root) (catalogue_of s)) ≡ Some (value s l)
leaf_has s root k l law lo lt is =
    let t = tree_with s root l law lo lt is.0 is.1 in
    let one : kind s l ≡ 1 = is.2 in
    ap (value_of k) (map_of-tree s root t.0 lo lt t.1) ∙ ap (λ j. value_of j (entries_in t.0)) (sym is.3)
    ∙ leaf_value s root t.0 t.1.stands t.1.ordered l (only_in s root t.0 t.1 l is.0 is.1) (omega arith)
