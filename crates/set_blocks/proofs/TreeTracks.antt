-- The ways to change a tree are ones that others don't disturb: they commit nothing that these hold, and leave the searches that end at held leaves.
use Rattle.tree_set.proofs.Growing.{IsSite, Sprouts, sprout, grown_more, grow_ends}
use Rattle.tree_set.proofs.GrowFit.{grow_site, grow_sprouts}
use Rattle.tree_set.proofs.TreeWays.{grow_way}
use Rattle.std.proofs.Common.{◌≡◌, ◌≢◌, ◌^◌, ◌<◌, ◌≤◌, ◌⊎◌, ◌∷◌}
use Rattle.set_blocks.proofs.Terms.{ℕ, suc, inl, inr, Bool, true, false, cond, nat_lt, [], refl, sym, ap, ◌∙◌, subst, arith, cases_eq, State, Writes, written}
use Rattle.set_blocks.proofs.Terms.{touches, words_at, owner, kind, key, leaf_words, inner_words, Tree, Stands, HoldsTree, seek, EndsAt, leaf, grown_once}
use Rattle.set_blocks.proofs.Terms.{IsLawful, word, IsIn, in-touches, IsVacant, Path, plug, Follows, IsParent, IsGrowPlace, grow_writes, stands_part, seek_plug}
use Rattle.set_blocks.proofs.Terms.{seek_beside, part_not_parent, owned_not_vacant, redirect_keeps, parent_same, IsOfLists, Remains}
use Rattle.set_blocks.proofs.Tracking.{Tracks}
use Rattle.set_blocks.proofs.TreeSides.{follows_end}

-- a root and a node of a tree are of no list, and neither is a vacant node
pub tree_of_none : (s : State) (o : ℕ) → 170 ≤ o → (180 ≤ o → (owner s o ≡ 0) ⊎ (kind s o ≢ 0)) → IsOfLists s o → ⊥
tree_of_none s o lo f (inl lt) = omega arith
tree_of_none s o lo f (inr (ge, some, list)) = elim (f ge) [ inl z ↦ some z | inr n ↦ n list ]

-- where a search ends in the one tree of a root
pub ends_once : (s : State) (root i l : ℕ) (t : Tree) → HoldsTree s root t → EndsAt s root i l → seek i t ≡ l
ends_once s root i l t g e = ap (seek i) (grown_once s root t e.0 g e.1) ∙ e.2

-- The change of a parent's link keeps it no object of a list.
pub parent_of_none : (s s' : State) (root p n a w : ℕ) → 170 ≤ root → root < 180 → IsParent s root p n → (word 1 (words_at s' p) ≡ word 1 (words_at s p))
    → IsOfLists s' p → ⊥
parent_of_none s s' root p n a w lo lt (inl (e, _)) same = tree_of_none s' p (omega arith) (λ ge. absurd (omega arith))
parent_of_none s s' root p n a w lo lt (inr (i, _)) same =
    let node : 180 ≤ p = i.0 in
    tree_of_none s' p (omega arith) (λ ge. inr (λ z. (let two : kind s p ≡ 2 = i.2 in let one : kind s' p ≡ kind s p = same in omega arith)))

module _ (z u : State) (root k v p l m w : ℕ) (lo : 170 ≤ root) (lt : root < 180) (fits : k < 2 ^ 32) (ne : m ≢ w) (held : Writes) (lz : IsLawful z)
    (r : Remains held z u) (hl : touches held l ≡ true) (pz : IsGrowPlace z root k p l) (pu : IsGrowPlace u root k p l) (vm : IsVacant z m) (vw : IsVacant z w)
    (um : IsVacant u m) (uw : IsVacant u w) where
  grow_ends_track : (i n : ℕ) → touches held n ≡ true → EndsAt (written z (grow_writes z root k v p l m w)) root i n
      → EndsAt (written u (grow_writes u root k v p l m w)) root i n
  grow_ends_track i n hn e =
      let a = grow_site z root k p l m w fits pz vm vw ne in
      let b = grow_site u root k p l m w fits pu um uw ne in
      both a.0 a.1 a.2 a.3 b.0 b.1 b.2 b.3
    where
      both : (j x : ℕ) (ps : Path) → IsSite z root k p l m w j x ps → (j' x' : ℕ) (qs : Path) → IsSite u root k p l m w j' x' qs
          → EndsAt (written u (grow_writes u root k v p l m w)) root i n
      both j x ps a j' x' qs b =
          let cz : Sprouts z (written z (grow_writes z root k v p l m w)) root k v p l m w = grow_sprouts z root k v p l m w j x ps lz lt a in
          let cu : Sprouts u (written u (grow_writes u root k v p l m w)) root k v p l m w = grow_sprouts u root k v p l m w j' x' qs r.lawful lt b in
          let gz : HoldsTree (written z (grow_writes z root k v p l m w)) root (plug ps (sprout k v m w l j x)) =
          grown_more z (written z (grow_writes z root k v p l m w)) root k v p l m w j x ps lt a cz in
          let gu : HoldsTree (written u (grow_writes u root k v p l m w)) root (plug qs (sprout k v m w l j' x')) =
          grown_more u (written u (grow_writes u root k v p l m w)) root k v p l m w j' x' qs lt b cu in
          let same : leaf_words root j' x' ≡ leaf_words root j x =
          sym (stands_part u root qs (leaf l j' x') b.grown.stands).2 ∙ r.words l hl ∙ (stands_part z root ps (leaf l j x) a.grown.stands).2 in
          let sj : j' ≡ j = ap (word 2) same in
          let sx : x' ≡ x = ap (word 5) same in
          let part : sprout k v m w l j' x' ≡ sprout k v m w l j x = ap (λ y. sprout k v m w l y x') sj ∙ ap (sprout k v m w l j) sx in
          let found : seek i (plug ps (sprout k v m w l j x)) ≡ n =
          ends_once (written z (grow_writes z root k v p l m w)) root i n (plug ps (sprout k v m w l j x)) gz e in
          (plug qs (sprout k v m w l j' x'), gu, ends part found cu (seek_beside i ps (leaf l j x) (sprout k v m w l j x)) (cases_eq n l))
        where
          -- a search that ended at the leaf ends in the part
          at_leaf : (sprout k v m w l j' x' ≡ sprout k v m w l j x) → seek i (plug ps (sprout k v m w l j x)) ≡ n → Follows i ps
              → seek i (plug qs (sprout k v m w l j' x')) ≡ n
          at_leaf part found f =
              let here : EndsAt z root i l = (plug ps (leaf l j x), a.grown, seek_plug i ps (leaf l j x) f) in
              let there : seek i (plug qs (leaf l j' x')) ≡ l = ends_once u root i l (plug qs (leaf l j' x')) b.grown (r.ends root i l lo lt hl here) in
              let g : Follows i qs = follows_end qs l j' x' i b.grown.distinct there in
              seek_plug i qs (sprout k v m w l j' x') g ∙ ap (seek i) part ∙ sym (seek_plug i ps (sprout k v m w l j x) f) ∙ found

          ends : (sprout k v m w l j' x' ≡ sprout k v m w l j x) → seek i (plug ps (sprout k v m w l j x)) ≡ n
              → Sprouts u (written u (grow_writes u root k v p l m w)) root k v p l m w
              → Follows i ps ⊎ (seek i (plug ps (leaf l j x)) ≡ seek i (plug ps (sprout k v m w l j x))) → (n ≡ l) ⊎ (n ≢ l)
              → seek i (plug qs (sprout k v m w l j' x')) ≡ n
          ends part found cu (inl f) _ = at_leaf part found f
          ends part found cu (inr q) (inl nl) = at_leaf part found (follows_end ps l j x i a.grown.distinct (q ∙ found ∙ nl))
          ends part found cu (inr q) (inr nl) =
              let here : EndsAt z root i n = (plug ps (leaf l j x), a.grown, q ∙ found) in
              grow_ends u (written u (grow_writes u root k v p l m w)) root k v p l m w j' x' qs lt b cu i n
              (ends_once u root i n (plug qs (leaf l j' x')) b.grown (r.ends root i n lo lt hn here)) nl

-- what an add to a tree writes is of no list
grow_links : (s : State) (root k v p l m w : ℕ) → 170 ≤ root → root < 180 → k < 2 ^ 32 → m ≢ w → IsLawful s → IsGrowPlace s root k p l → IsVacant s m
    → IsVacant s w → (o : ℕ) → IsIn o (p ∷ l ∷ m ∷ w ∷ []) → IsOfLists (written s (grow_writes s root k v p l m w)) o → ⊥
grow_links s root k v p l m w lo lt fits ne law place vm vw o i list =
    let a = grow_site s root k p l m w fits place vm vw ne in from a.0 a.1 a.2 a.3
  where
    over : (b : Bool) (x y : ℕ)
        → word 1 (cond b (inner_words root x m l 0) (inner_words root y l m 0)) ≡ 2
    over true x y = refl
    over false x y = refl

    from : (j x : ℕ) (ps : Path) → IsSite s root k p l m w j x ps → ⊥
    from j x ps a = go i
      where
        c : Sprouts s (written s (grow_writes s root k v p l m w)) root k v p l m w
        c = grow_sprouts s root k v p l m w j x ps law lt a

        go : IsIn o (p ∷ l ∷ m ∷ w ∷ []) → ⊥
        go (inl e) =
            parent_of_none s (written s (grow_writes s root k v p l m w)) root p l l w lo lt place.above
            (ap (word 1) c.parent ∙ redirect_keeps (words_at s p) l w 1 (omega arith) (omega arith))
            (subst (λ q. IsOfLists (written s (grow_writes s root k v p l m w)) q) e list)
        go (inr (inr (inl e))) =
            let node : 180 ≤ m = vm.0 in
            let one : kind (written s (grow_writes s root k v p l m w)) m ≡ 1 = ap (word 1) c.new_leaf in
            tree_of_none (written s (grow_writes s root k v p l m w)) m (omega arith) (λ ge. inr (λ z. omega arith))
            (subst (λ q. IsOfLists (written s (grow_writes s root k v p l m w)) q) e list)
        go (inr (inr (inr (inl e)))) =
            let node : 180 ≤ w = vw.0 in
            let two : kind (written s (grow_writes s root k v p l m w)) w ≡ 2 = ap (word 1) c.new_inner ∙ over (nat_lt k (key s l)) (key s l) k in
            tree_of_none (written s (grow_writes s root k v p l m w)) w (omega arith) (λ ge. inr (λ z. omega arith))
            (subst (λ q. IsOfLists (written s (grow_writes s root k v p l m w)) q) e list)
        go (inr (inr (inr (inr e)))) = e
        go (inr (inl e)) =
            let st : Stands s root (leaf l j x) = stands_part s root ps (leaf l j x) a.grown.stands in
            let node : 180 ≤ l = st.0 in
            let own : owner s l ≡ suc root = ap (word 0) st.2 in
            let kept : words_at (written s (grow_writes s root k v p l m w)) l ≡ words_at s l = c.others l
            (part_not_parent s root ps (leaf l j x) lt a.grown p a.parent l (inl refl))
            (owned_not_vacant s root l m own vm) (owned_not_vacant s root l w own vw) in
            let one : kind (written s (grow_writes s root k v p l m w)) l ≡ 1 = ap (word 1) kept ∙ ap (word 1) st.2 in
            tree_of_none (written s (grow_writes s root k v p l m w)) l (omega arith) (λ ge. inr (λ z. omega arith))
            (subst (λ q. IsOfLists (written s (grow_writes s root k v p l m w)) q) e list)

pub grow_tracks : (root k v p l m w : ℕ) (lo : 170 ≤ root) (lt : root < 180) (fits : k < 2 ^ 32) (ne : m ≢ w)
    → Tracks root (grow_way root k v p l m w lo lt fits ne)
unfolding grow_way
grow_tracks root k v p l m w lo lt fits ne = record {
  place = λ held z u b. place held z u b.remains (b.objects p (inl refl)) (b.objects l (inr (inl refl))) b.place;
  links = λ s law a vac o t list there.
      absurd (grow_links s root k v p l m w lo lt fits ne law a (vac m (inl refl)) (vac w (inr (inl refl))) o
      (in-touches (grow_writes s root k v p l m w) o t) list);
  ends = λ held z u b place vac hi i n hn e.
      grow_ends_track z u root k v p l m w lo lt fits ne held b.lawful b.remains (b.objects l (inr (inl refl))) b.place place
      (b.vacant m (inl refl)) (b.vacant w (inr (inl refl))) (vac m (inl refl)) (vac w (inr (inl refl))) i n hn e;
}
  where
    place : (held : Writes) (z u : State) → Remains held z u → touches held p ≡ true → touches held l ≡ true → IsGrowPlace z root k p l
        → IsGrowPlace u root k p l
    place held z u r hp hl pz = record {
      above = parent_same z u root p l (r.words p hp) pz.above;
      ends = r.ends root k l lo lt hl pz.ends;
      other = λ e. pz.other (sym (ap (word 2) (r.words l hl)) ∙ e);
    }
