-- The way to cut a leaf and its parent out of a tree is one that others don't disturb.
use Rattle.tree_set.proofs.Cutting.{IsTwig, Prunes, grown_less, cut_ends}
use Rattle.tree_set.proofs.TreeWays.{cut_way}
use Rattle.set_blocks.proofs.Terms.{State, Writes, written, touches, words_at, owner, HoldsTree, seek, EndsAt, leaf, IsLawful, word, IsIn, in-touches, seek_in}
use Rattle.set_blocks.proofs.Terms.{Stands-owner, PathStep, Path, plug, IsCutPlace, tree_del_writes, sibling, distinct_part, stands_part, seek_plug}
use Rattle.set_blocks.proofs.Terms.{seek_beside, redirect_keeps, beside, seek_turn, cut_twig, cut_prunes, inner_same, leaf_same, child_same, parent_same}
use Rattle.set_blocks.proofs.Terms.{IsOfLists, Remains, ◌≡◌, ◌≢◌, ◌<◌, ◌≤◌, ◌∷◌, ℕ, suc, inl, inr, true, [], refl, sym, ap, ◌∙◌, subst, arith}
use Rattle.set_blocks.proofs.Tracking.{Tracks}
use Rattle.set_blocks.proofs.ListTracks.{vacant_of_none}
use Rattle.set_blocks.proofs.TreeTracks.{parent_of_none, ends_once}
use Rattle.set_blocks.proofs.TreeSides.{partner, partner_ends, partner_same}

-- what it writes is of no list
cut_links : (s : State) (root k g p l : ℕ) → 170 ≤ root → root < 180 → IsLawful s → IsCutPlace s root k g p l → (o : ℕ) → IsIn o (g ∷ p ∷ l ∷ [])
    → IsOfLists (written s (tree_del_writes s g p l)) o → ⊥
cut_links s root k g p l lo lt law place o i list =
    let a = cut_twig s root k g p l law lo lt place in from a.0 a.1 a.2 a.3
  where
    from : (x : ℕ) (ps : Path) (q : PathStep) → IsTwig s root k g p l x ps q → ⊥
    from x ps q a = go i
      where
        c : Prunes s (written s (tree_del_writes s g p l)) g p l
        c = cut_prunes s root k g p l x ps q law lt a

        go : IsIn o (g ∷ p ∷ l ∷ []) → ⊥
        go (inl e) =
            parent_of_none s (written s (tree_del_writes s g p l)) root g p p (sibling s p l) lo lt place.above
            (ap (word 1) c.grand ∙ redirect_keeps (words_at s g) p (sibling s p l) 1 (omega arith) (omega arith))
            (subst (λ n. IsOfLists (written s (tree_del_writes s g p l)) n) e list)
        go (inr (inl e)) =
            vacant_of_none (written s (tree_del_writes s g p l)) p place.is_inner.0 c.no_parent
            (subst (λ n. IsOfLists (written s (tree_del_writes s g p l)) n) e list)
        go (inr (inr (inl e))) =
            vacant_of_none (written s (tree_del_writes s g p l)) l place.is_leaf.0 c.no_leaf
            (subst (λ n. IsOfLists (written s (tree_del_writes s g p l)) n) e list)
        go (inr (inr (inr e))) = e

module _ (z u : State) (root k g p l : ℕ) (lo : 170 ≤ root) (lt : root < 180) (held : Writes) (lz : IsLawful z) (r : Remains held z u)
    (hp : touches held p ≡ true) (hl : touches held l ≡ true) (i n : ℕ) (hn : touches held n ≡ true) (x : ℕ) (ps : Path) (q : PathStep)
    (a : IsTwig z root k g p l x ps q) (y : ℕ) (qs : Path) (t : PathStep) (b : IsTwig u root k g p l y qs t)
    (e : EndsAt (written z (tree_del_writes z g p l)) root i n) where
  pruned : Prunes z (written z (tree_del_writes z g p l)) g p l
  pruned = cut_prunes z root k g p l x ps q lz lt a

  pruned_there : Prunes u (written u (tree_del_writes u g p l)) g p l
  pruned_there = cut_prunes u root k g p l y qs t r.lawful lt b

  found : seek i (plug ps (beside q)) ≡ n
  found =
      ends_once (written z (tree_del_writes z g p l)) root i n (plug ps (beside q))
      (grown_less z (written z (tree_del_writes z g p l)) root k g p l x ps q lt a pruned) e

  -- it ended at another leaf
  not_leaf : n ≢ l
  not_leaf same =
      let gz : HoldsTree (written z (tree_del_writes z g p l)) root (plug ps (beside q)) =
      grown_less z (written z (tree_del_writes z g p l)) root k g p l x ps q lt a pruned in
      let own : owner (written z (tree_del_writes z g p l)) (seek i (plug ps (beside q))) ≡ suc root =
      Stands-owner (written z (tree_del_writes z g p l)) root (plug ps (beside q)) gz.stands (seek i (plug ps (beside q))) (seek_in i (plug ps (beside q))) in
      let none : owner (written z (tree_del_writes z g p l)) (seek i (plug ps (beside q))) ≡ 0 =
      ap (owner (written z (tree_del_writes z g p l))) (found ∙ same) ∙ ap (word 0) pruned.no_leaf in omega arith

  -- a search that ended there before the cut ends there in both
  from_before : seek i (plug ps (plug (q ∷ []) (leaf l k x))) ≡ n → seek i (plug qs (beside t)) ≡ n
  from_before before =
      let here : EndsAt z root i n = (plug ps (plug (q ∷ []) (leaf l k x)), a.grown, before) in
      cut_ends u (written u (tree_del_writes u g p l)) root k g p l y qs t lt b pruned_there i n
      (ends_once u root i n (plug qs (plug (t ∷ []) (leaf l k y))) b.grown (r.ends root i n lo lt hn here)) not_leaf

  -- one that ended at the leaf ends where the search for the key on the other side ended
  from_leaf : seek i (plug ps (plug (q ∷ []) (leaf l k x))) ≡ l → seek i (plug qs (beside t)) ≡ n
  from_leaf at_leaf =
      let other : seek (partner q) (plug ps (plug (q ∷ []) (leaf l k x))) ≡ n =
      partner_ends ps q l k x i a.grown.ordered a.grown.distinct a.turns at_leaf ∙ found in
      let here : EndsAt z root (partner q) n = (plug ps (plug (q ∷ []) (leaf l k x)), a.grown, other) in
      let there : seek (partner q) (plug qs (plug (t ∷ []) (leaf l k y))) ≡ n =
      ends_once u root (partner q) n (plug qs (plug (t ∷ []) (leaf l k y))) b.grown (r.ends root (partner q) n lo lt hn here) in
      let leaf_here : EndsAt z root i l = (plug ps (plug (q ∷ []) (leaf l k x)), a.grown, at_leaf) in
      let leaf_there : seek i (plug qs (plug (t ∷ []) (leaf l k y))) ≡ l =
      ends_once u root i l (plug qs (plug (t ∷ []) (leaf l k y))) b.grown (r.ends root i l lo lt hl leaf_here) in
      let same : partner t ≡ partner q =
      partner_same z u root p l k x y q t (stands_part z root ps (plug (q ∷ []) (leaf l k x)) a.grown.stands)
      (stands_part u root qs (plug (t ∷ []) (leaf l k y)) b.grown.stands) (distinct_part ps (plug (q ∷ []) (leaf l k x)) a.grown.distinct)
      (distinct_part qs (plug (t ∷ []) (leaf l k y)) b.grown.distinct) a.parent b.parent (r.words p hp) in
      sym (partner_ends qs t l k y i b.grown.ordered b.grown.distinct b.turns leaf_there)
      ∙ ap (λ j. seek j (plug qs (plug (t ∷ []) (leaf l k y)))) same ∙ there

  found_there : seek i (plug qs (beside t)) ≡ n
  found_there = elim (seek_beside i ps (plug (q ∷ []) (leaf l k x)) (beside q)) [
    | inr same ↦ from_before (same ∙ found)
    | inl f ↦ elim (seek_turn i q l k x) [
      | inl at_leaf ↦ from_leaf (seek_plug i ps (plug (q ∷ []) (leaf l k x)) f ∙ at_leaf)
      | inr same ↦ from_before (seek_plug i ps (plug (q ∷ []) (leaf l k x)) f ∙ same ∙ sym (seek_plug i ps (beside q) f) ∙ found)
    ]
  ]

  cut_ends_track : EndsAt (written u (tree_del_writes u g p l)) root i n
  cut_ends_track =
      (plug qs (beside t), grown_less u (written u (tree_del_writes u g p l)) root k g p l y qs t lt b pruned_there, found_there)

pub cut_tracks : (root k v g p l : ℕ) (lo : 170 ≤ root) (lt : root < 180) → Tracks root (cut_way root k v g p l lo lt)
unfolding cut_way
cut_tracks root k v g p l lo lt = record {
  place = λ held z u b. (
    place z u (b.remains.words g (b.objects g (inl refl))) (b.remains.words p (b.objects p (inr (inl refl))))
        (b.remains.words l (b.objects l (inr (inr (inl refl))))) b.place.0,
    ap (word 5) (b.remains.words l (b.objects l (inr (inr (inl refl))))) ∙ b.place.1,
  );
  links = λ s law a vac o t list there. absurd (cut_links s root k g p l lo lt law a.0 o (in-touches (tree_del_writes s g p l) o t) list);
  ends = λ held z u b place vac hi i n hn e.
      (let c = cut_twig z root k g p l b.lawful lo lt b.place.0 in
      let d = cut_twig u root k g p l b.remains.lawful lo lt place.0 in
      cut_ends_track z u root k g p l lo lt held b.lawful b.remains (b.objects p (inr (inl refl))) (b.objects l (inr (inr (inl refl)))) i n hn c.0 c.1 c.2
      c.3 d.0 d.1 d.2 d.3 e);
}
  where
    place : (z u : State) → words_at u g ≡ words_at z g → words_at u p ≡ words_at z p → words_at u l ≡ words_at z l → IsCutPlace z root k g p l
        → IsCutPlace u root k g p l
    place z u eg ep el c = record {
      above = parent_same z u root g p eg c.above;
      is_inner = inner_same z u root p ep c.is_inner;
      child = child_same z u p l ep c.child;
      is_leaf = leaf_same z u root k l el c.is_leaf;
    }
