-- The ways to change a list are ones that others don't disturb: they commit nothing that these hold, and keep the keys of the nodes behind.
use Rattle.set_model.specs.Lists.{Nodes, first_of, FitsHead, Links, IsList}
use Rattle.set_model.proofs.Chains.{Links-right}
use Rattle.list_set.proofs.Changes.{Added, Taken}
use Rattle.list_set.proofs.Parts.{part_at, whole_list, place_in_range, place_not_vacant}
use Rattle.list_set.proofs.Putting.{Revalued, put_writes_do, put_in_range}
use Rattle.list_set.proofs.ListWays.{list_add_way, list_del_way, list_put_way}
use Rattle.std.proofs.Common.{◌≡◌, ◌<◌, ◌≤◌, ◌⊎◌, ◌∷◌, ◌++◌, ℕ, suc, inl, inr, true, List, [], length, refl, sym, ap, ◌∙◌, subst, arith}
use Rattle.set_blocks.proofs.Terms.{State, Writes, written, touches, words_at, owner, key, link, no_words, relink, revalue, IsLawful, word, owned_kind, IsIn}
use Rattle.set_blocks.proofs.Terms.{touches-in, in-touches, IsInList, IsAddPlace, add_writes, IsDelPlace, del_writes, IsPutPlace, put_writes, add_writes_do}
use Rattle.set_blocks.proofs.Terms.{Removal, removal, del_writes_do, still_in, IsOfLists, Remains}
use Rattle.set_blocks.proofs.Tracking.{IsReached, Tracks}

-- an object of a list is the head or a node of one
pub list_of : (s : State) (head p : ℕ) → IsLawful s → head < 170 → IsInList s head p → IsOfLists s p
list_of s head p l lh (inl e) = inl (omega arith)
list_of s head p l lh (inr g) =
    inr (g.0, (λ z. (let q : suc head ≡ 0 = sym g.1 ∙ z in omega arith)), owned_kind s head p l lh g.0 g.1)

-- behind it is nothing, or a node
pub behind : (s : State) (head p : ℕ) → IsLawful s → head < 170 → IsInList s head p → (link s p ≡ 0) ⊎ ((180 ≤ link s p) × (owner s (link s p) ≡ suc head))
behind s head p l lh i =
    let m = l.lists head lh in
    let r = part_at s head p m.0 m.1 i in
    go r.0 r.1 (whole_list s head m.0 (r.0 ++ r.1) r.2.whole m.1) r.2.leads
  where
    go : (fs bs : Nodes) → IsList s head (fs ++ bs) → link s p ≡ first_of bs → (link s p ≡ 0) ⊎ ((180 ≤ link s p) × (owner s (link s p) ≡ suc head))
    go fs [] w e = inl e
    go fs (b ∷ bs) w e =
        let lk : Links s head (b ∷ bs) = Links-right s head fs (b ∷ bs) w.links in
        let lo : 180 ≤ b.object = lk.0 in
        inr (omega arith, ap (owner s) e ∙ ap (word 0) lk.2)

-- The place of an add is one in what the state became: the predecessor is as it was, and the node behind has its key.
pub add_place_tracks : (held : Writes) (z u : State) (head k p : ℕ) → head < 170 → IsLawful z → Remains held z u → touches held p ≡ true
    → IsAddPlace z head k p → IsAddPlace u head k p
add_place_tracks held z u head k p lh l m h a = record {
  within = still_in z u head p e a.within;
  below = elim a.below [ inl q ↦ inl q | inr lt ↦ (let f : key u p ≡ key z p = ap (word 2) e in inr (omega arith)) ];
  above = above a.above (behind z head p l lh a.within);
}
  where
    e : words_at u p ≡ words_at z p
    e = m.words p h

    same : link u p ≡ link z p
    same = ap (word 3) e

    above : (link z p ≡ 0) ⊎ (k < key z (link z p)) → (link z p ≡ 0) ⊎ ((180 ≤ link z p) × (owner z (link z p) ≡ suc head))
        → (link u p ≡ 0) ⊎ (k < key u (link u p))
    above (inl q) _ = inl (same ∙ q)
    above (inr lt) (inl q) = inl (same ∙ q)
    above (inr lt) (inr g) =
        let q : key u (link z p) ≡ key z (link z p) = m.keys p h (list_of z head p l lh a.within) g.0 in
        let f : key u (link u p) ≡ key u (link z p) = ap (key u) same in inr (omega arith)

-- so is that of a del, whose node may be held or not
pub del_place_tracks : (held : Writes) (z u : State) (head k p n : ℕ) → head < 170 → IsLawful z → Remains held z u → touches held p ≡ true
    → IsDelPlace z head k p n → IsDelPlace u head k p n
del_place_tracks held z u head k p n lh l m h d =
    let e : words_at u p ≡ words_at z p = m.words p h in
    let r : Removal z head k p n = removal z head k p n l lh d in
    let lo : 180 ≤ n = r.node in
    let there : 180 ≤ link z p = omega (arith, d.behind) in
    let kept : key u (link z p) ≡ key z (link z p) = m.keys p h (list_of z head p l lh d.within) there in
    record {
      within = still_in z u head p e d.within;
      behind = ap (word 3) e ∙ d.behind;
      some = d.some;
      has = ap (key u) (sym d.behind) ∙ kept ∙ ap (key z) d.behind ∙ d.has;
    }

pub put_place_tracks : (held : Writes) (z u : State) (head k n : ℕ) → Remains held z u → touches held n ≡ true → IsPutPlace z head k n → IsPutPlace u head k n
put_place_tracks held z u head k n m h a =
    let e : words_at u n ≡ words_at z n = m.words n h in
    record { is_node = a.is_node; own = ap (word 0) e ∙ a.own; has = ap (word 2) e ∙ a.has }

-- the link of words that lead to a node
link-relink : (w : List ℕ) (to : ℕ) → 180 ≤ word 3 (relink w to) → word 3 (relink w to) ≡ to
link-relink (a ∷ b ∷ c ∷ d ∷ w) to lo = refl
link-relink _ to lo = absurd (omega arith)

link-revalue : (w : List ℕ) (to : ℕ) → word 3 (revalue w to) ≡ word 3 w
link-revalue (a ∷ b ∷ c ∷ d ∷ w) to = refl
link-revalue _ to = refl

-- a vacant node is of no list
pub vacant_of_none : (s : State) (o : ℕ) → 180 ≤ o → words_at s o ≡ no_words → IsOfLists s o → ⊥
vacant_of_none s o lo e (inl lt) = omega arith
vacant_of_none s o lo e (inr (_, some, _)) = some (ap (word 0) e)

module _ (head k v p n : ℕ) (lh : head < 170) (fit : FitsHead head k) (s : State) (l : IsLawful s) (a : IsAddPlace s head k p) (lo : 180 ≤ n)
    (lt : n < length s) (vac : owner s n ≡ 0) where
  added_words : Added s (written s (add_writes s head k v p n)) head p (record { object = n; key = k; value = v }) (link s p)
  added_words =
      add_writes_do s head p (record { object = n; key = k; value = v }) (place_in_range s head p l lh a.within) lt
      (place_not_vacant s head p n (omega arith) a.within lo vac)

  add_links : (o : ℕ) → IsIn o (p ∷ n ∷ []) → 180 ≤ link (written s (add_writes s head k v p n)) o
      → IsReached (p ∷ []) s (add_writes s head k v p n) (link (written s (add_writes s head k v p n)) o)
  add_links o (inl e) there =
      let w : link (written s (add_writes s head k v p n)) o ≡ word 3 (relink (words_at s p) n) =
      ap (link (written s (add_writes s head k v p n))) e ∙ ap (word 3) added_words.before in
      let to : word 3 (relink (words_at s p) n) ≡ n = link-relink (words_at s p) n (omega arith) in
      inl (subst (λ m. touches (add_writes s head k v p n) m ≡ true) (sym (w ∙ to)) (touches-in (add_writes s head k v p n) n (inr (inl refl))))
  add_links o (inr (inl e)) there =
      inr (p, inl refl, list_of s head p l lh a.within, sym (ap (link (written s (add_writes s head k v p n))) e ∙ ap (word 3) added_words.new))
  add_links o (inr (inr i)) there = absurd i

pub list_add_tracks : (head k v p n : ℕ) (lh : head < 170) (fit : FitsHead head k) → Tracks head (list_add_way head k v p n lh fit)
unfolding list_add_way
list_add_tracks head k v p n lh fit = record {
  place = λ held z u b. add_place_tracks held z u head k p lh b.lawful b.remains (b.objects p (inl refl)) b.place;
  links = λ s l a vac o t list there.
      (let m = vac n (inl refl) in add_links head k v p n lh fit s l a m.0 m.1 m.2 o (in-touches (add_writes s head k v p n) o t) there);
  ends = λ held z u b place vac hi j leaf h e. absurd (omega arith);
}

module _ (head k p n : ℕ) (lh : head < 170) (s : State) (l : IsLawful s) (d : IsDelPlace s head k p n) where
  removed : Removal s head k p n
  removed = removal s head k p n l lh d

  taken_words : Taken s (written s (del_writes s p n)) p n (link s n)
  taken_words = del_writes_do s p n removed.previous_in removed.node_in removed.apart

  del_links : (o : ℕ) → IsIn o (p ∷ n ∷ []) → IsOfLists (written s (del_writes s p n)) o → 180 ≤ link (written s (del_writes s p n)) o
      → IsReached (p ∷ n ∷ []) s (del_writes s p n) (link (written s (del_writes s p n)) o)
  del_links o (inl e) list there =
      let w : link (written s (del_writes s p n)) o ≡ word 3 (relink (words_at s p) (link s n)) =
      ap (link (written s (del_writes s p n))) e ∙ ap (word 3) taken_words.before in
      let to : word 3 (relink (words_at s p) (link s n)) ≡ link s n = link-relink (words_at s p) (link s n) (omega arith) in
      inr (n, inr (inl refl), list_of s head n l lh (inr (removed.node, removed.own)), sym (w ∙ to))
  del_links o (inr (inl e)) list there =
      absurd (vacant_of_none (written s (del_writes s p n)) n removed.node taken_words.gone
      (subst (λ q. IsOfLists (written s (del_writes s p n)) q) e list))
  del_links o (inr (inr i)) list there = absurd i

pub list_del_tracks : (head k v p n : ℕ) (lh : head < 170) → Tracks head (list_del_way head k v p n lh)
unfolding list_del_way
list_del_tracks head k v p n lh = record {
  place = λ held z u b. (
    del_place_tracks held z u head k p n lh b.lawful b.remains (b.objects p (inl refl)) b.place.0,
    ap (word 5) (b.remains.words n (b.objects n (inr (inl refl)))) ∙ b.place.1,
  );
  links = λ s l a vac o t list there. del_links head k p n lh s l a.0 o (in-touches (del_writes s p n) o t) list there;
  ends = λ held z u b place vac hi j leaf h e. absurd (omega arith);
}

put_links : (head k v n : ℕ) → head < 170 → (s : State) → IsLawful s → IsPutPlace s head k n → (o : ℕ) → IsIn o (n ∷ [])
    → IsReached (n ∷ []) s (put_writes s n v) (link (written s (put_writes s n v)) o)
put_links head k v n lh s l a o (inl e) =
    let c : Revalued s (written s (put_writes s n v)) n v = put_writes_do s n v (put_in_range s head k n a) in
    inr (
      n,
      inl refl,
      list_of s head n l lh (inr (a.is_node, a.own)),
      sym (ap (link (written s (put_writes s n v))) e ∙ ap (word 3) c.here ∙ link-revalue (words_at s n) v),
    )
put_links head k v n lh s l a o (inr i) = absurd i

pub list_put_tracks : (head k v n : ℕ) (lh : head < 170) → Tracks head (list_put_way head k v n lh)
unfolding list_put_way
list_put_tracks head k v n lh = record {
  place = λ held z u b. (
    put_place_tracks held z u head k n b.remains (b.objects n (inl refl)) b.place.0,
    λ q. b.place.1 (sym (ap (word 5) (b.remains.words n (b.objects n (inl refl)))) ∙ q),
  );
  links = λ s l a vac o t list there. put_links head k v n lh s l a.0 o (in-touches (put_writes s n v) o t);
  ends = λ held z u b place vac hi j leaf h e. absurd (omega arith);
}
