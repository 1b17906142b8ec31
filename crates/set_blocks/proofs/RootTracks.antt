-- The ways to tree_add and to bare a tree, and to put another value at a leaf, are ones that others don't disturb.
use Rattle.tree_set.proofs.Ends.{no_tree, tree_add_distinct, tree_add_half, bare_tree, bare_distinct}
use Rattle.tree_set.proofs.Putting.{put_grown, put_ends}
use Rattle.tree_set.proofs.TreeWays.{tree_add_way, bare_way, put_way}
use Rattle.set_blocks.proofs.Terms.{ℕ, inl, inr, true, List, [], refl, sym, ap, ◌∙◌, subst, arith, State, Writes, written, touches, words_at}
use Rattle.set_blocks.proofs.Terms.{words-written_same, kind, link, value, leaf_words, no_words, relink, revalue, top, HoldsTree, seek, EndsAt, leaf}
use Rattle.set_blocks.proofs.Terms.{top_is_node, IsLawful, word, kind-revalue, owned_in_range, IsIn, in-touches, IsVacant, put_writes, Path, plug, Follows}
use Rattle.set_blocks.proofs.Terms.{IsLeaf, tree_add_writes, IsBarePlace, bare_writes, tree_with, path_to_leaf, leaf_same, IsOfLists, Remains, ◌≡◌, ◌^◌, ◌<◌}
use Rattle.set_blocks.proofs.Terms.{◌≤◌, ◌∷◌}
use Rattle.set_blocks.proofs.Tracking.{Tracks}
use Rattle.set_blocks.proofs.ListTracks.{vacant_of_none}
use Rattle.set_blocks.proofs.TreeTracks.{tree_of_none, ends_once}

-- a root is of no list
pub root_of_none : (s : State) (root : ℕ) → 170 ≤ root → root < 180 → IsOfLists s root → ⊥
root_of_none s root lo lt = tree_of_none s root lo (λ ge. absurd (omega arith))

module _ (root k v m : ℕ) (lo : 170 ≤ root) (lt : root < 180) (fits : k < 2 ^ 32) (s : State) (law : IsLawful s) (e : link s root ≡ 0)
    (vac : IsVacant s m) where
  tree_added_words : words_at (written s (tree_add_writes s root k v m)) m ≡ leaf_words root k v
  tree_added_words =
      words-written_same s (tree_add_writes s root k v m) 1 m (0, []) (tree_add_distinct s root k v m law lo lt fits (no_tree s root law lo lt e) vac)
      (omega arith) refl vac.1

  tree_added_link : link (written s (tree_add_writes s root k v m)) root ≡ m
  tree_added_link =
      let some = law.some in
      ap (word 3) (words-written_same s (tree_add_writes s root k v m) 0 root (0, [])
      (tree_add_distinct s root k v m law lo lt fits (no_tree s root law lo lt e) vac) (omega arith) refl (omega arith)
      ∙ ap (λ (w : List ℕ). relink w m) (no_tree s root law lo lt e).0)

  -- the leaf is all of the tree
  tree_add_grown : HoldsTree (written s (tree_add_writes s root k v m)) root (leaf m k (value (written s (tree_add_writes s root k v m)) m))
  tree_add_grown =
      bare_tree (written s (tree_add_writes s root k v m)) root k m (tree_add_half s root k v m law lo lt fits e vac).keeps.lawful_after lo lt
      (record { first = tree_added_link; is_leaf = (vac.0, ap (word 0) tree_added_words, ap (word 1) tree_added_words, ap (word 2) tree_added_words) })

  tree_add_links : (o : ℕ) → IsIn o (root ∷ m ∷ []) → IsOfLists (written s (tree_add_writes s root k v m)) o → ⊥
  tree_add_links o (inl q) list = root_of_none (written s (tree_add_writes s root k v m)) root lo lt
      (subst (λ n. IsOfLists (written s (tree_add_writes s root k v m)) n) q list)
  tree_add_links o (inr (inl q)) list =
      let node : 180 ≤ m = vac.0 in
      let one : kind (written s (tree_add_writes s root k v m)) m ≡ 1 = ap (word 1) tree_added_words in
      tree_of_none (written s (tree_add_writes s root k v m)) m (omega arith) (λ ge. inr (λ z. omega arith))
      (subst (λ n. IsOfLists (written s (tree_add_writes s root k v m)) n) q list)
  tree_add_links o (inr (inr i)) list = i

pub tree_add_tracks : (root k v m : ℕ) (lo : 170 ≤ root) (lt : root < 180) (fits : k < 2 ^ 32) → Tracks root (tree_add_way root k v m lo lt fits)
unfolding tree_add_way
tree_add_tracks root k v m lo lt fits = record {
  place = λ held z u b. ap (word 3) (b.remains.words root (b.objects root (inl refl))) ∙ b.place;
  links = λ s law a vac o t list there.
      absurd (tree_add_links root k v m lo lt fits s law a (vac m (inl refl)) o (in-touches (tree_add_writes s root k v m) o t) list);
  ends = λ held z u b place vac hi i n hn e. (
    leaf m k (value (written u (tree_add_writes u root k v m)) m),
    tree_add_grown root k v m lo lt fits u b.remains.lawful place (vac m (inl refl)),
    ends_once (written z (tree_add_writes z root k v m)) root i n (leaf m k (value (written z (tree_add_writes z root k v m)) m))
        (tree_add_grown root k v m lo lt fits z b.lawful b.place (b.vacant m (inl refl))) e,
  );
}

module _ (root k l : ℕ) (lo : 170 ≤ root) (lt : root < 180) (s : State) (law : IsLawful s) (place : IsBarePlace s root k l) where
  bared_words : words_at (written s (bare_writes s root l)) l ≡ no_words
  bared_words =
      words-written_same s (bare_writes s root l) 1 l (0, []) (bare_distinct s root k l law lo lt place) (omega arith) refl
      (owned_in_range s l root place.is_leaf.1)

  bared_link : link (written s (bare_writes s root l)) root ≡ 0
  bared_link =
      let some = law.some in
      ap (word 3) (words-written_same s (bare_writes s root l) 0 root (0, []) (bare_distinct s root k l law lo lt place) (omega arith) refl (omega arith)
      ∙ ap (λ (w : List ℕ). relink w 0) (bare_tree s root k l law lo lt place).first)

  bare_links : (o : ℕ) → IsIn o (root ∷ l ∷ []) → IsOfLists (written s (bare_writes s root l)) o → ⊥
  bare_links o (inl q) list = root_of_none (written s (bare_writes s root l)) root lo lt (subst (λ n. IsOfLists (written s (bare_writes s root l)) n) q list)
  bare_links o (inr (inl q)) list =
      vacant_of_none (written s (bare_writes s root l)) l place.is_leaf.0 bared_words (subst (λ n. IsOfLists (written s (bare_writes s root l)) n) q list)
  bare_links o (inr (inr i)) list = i

  bare_none : (i n : ℕ) → EndsAt (written s (bare_writes s root l)) root i n → ⊥
  bare_none i n e =
      let node : 180 ≤ top e.0 = top_is_node (written s (bare_writes s root l)) root e.0 e.1.stands in
      let leads : link (written s (bare_writes s root l)) root ≡ top e.0 = ap (word 3) e.1.first in
      let none = bared_link in omega arith

pub bare_tracks : (root k v l : ℕ) (lo : 170 ≤ root) (lt : root < 180) → Tracks root (bare_way root k v l lo lt)
unfolding bare_way
bare_tracks root k v l lo lt = record {
  place = λ held z u b. (
    record {
      first = ap (word 3) (b.remains.words root (b.objects root (inl refl))) ∙ b.place.0.first;
      is_leaf = leaf_same z u root k l (b.remains.words l (b.objects l (inr (inl refl)))) b.place.0.is_leaf;
    },
    ap (word 5) (b.remains.words l (b.objects l (inr (inl refl)))) ∙ b.place.1,
  );
  links = λ s law a vac o t list there. absurd (bare_links root k l lo lt s law a.0 o (in-touches (bare_writes s root l) o t) list);
  ends = λ held z u b place vac hi i n hn e. absurd (bare_none root k l lo lt z b.lawful b.place.0 i n e);
}

put_links : (root k v l : ℕ) → 170 ≤ root → root < 180 → (s : State) → IsLeaf s root k l → (o : ℕ) → IsIn o (l ∷ [])
    → IsOfLists (written s (put_writes s l v)) o → ⊥
put_links root k v l lo lt s is o (inl q) list =
    let node : 180 ≤ l = is.0 in
    let here : words_at (written s (put_writes s l v)) l ≡ revalue (words_at s l) v =
    words-written_same s (put_writes s l v) 0 l (0, []) refl (omega arith) refl (owned_in_range s l root is.1) in
    let one : kind (written s (put_writes s l v)) l ≡ 1 = ap (word 1) here ∙ kind-revalue (words_at s l) v ∙ is.2 in
    tree_of_none (written s (put_writes s l v)) l (omega arith) (λ ge. inr (λ z. omega arith)) (subst (λ n. IsOfLists (written s (put_writes s l v)) n) q list)
put_links root k v l lo lt s is o (inr i) list = i

put_ends_track : (z u : State) (root k v l : ℕ) → 170 ≤ root → root < 180 → (held : Writes) → IsLawful z → Remains held z u → IsLeaf z root k l
    → IsLeaf u root k l → (i n : ℕ) → touches held n ≡ true → EndsAt (written z (put_writes z l v)) root i n → EndsAt (written u (put_writes u l v)) root i n
put_ends_track z u root k v l lo lt held lz r pz pu i n hn e =
    let tz = tree_with z root l lz lo lt pz.0 pz.1 in
    let tu = tree_with u root l r.lawful lo lt pu.0 pu.1 in
    let a = path_to_leaf z root k l tz.0 tz.1 pz in
    let b = path_to_leaf u root k l tu.0 tu.1 pu in
    both a.0 a.1 a.2 a.3 b.0 b.1 b.2 b.3
  where
    both : (x : ℕ) (ps : Path) → HoldsTree z root (plug ps (leaf l k x)) → Follows k ps → (y : ℕ) (qs : Path) → HoldsTree u root (plug qs (leaf l k y))
        → Follows k qs → EndsAt (written u (put_writes u l v)) root i n
    both x ps gz fz y qs gu fu =
        let found : seek i (plug ps (leaf l k v)) ≡ n =
        ends_once (written z (put_writes z l v)) root i n (plug ps (leaf l k v)) (put_grown z root k v l x ps lt gz fz) e in
        let here : EndsAt z root i n = (plug ps (leaf l k x), gz, put_ends z root k v l x ps lt gz fz i ∙ found) in
        let there : seek i (plug qs (leaf l k y)) ≡ n = ends_once u root i n (plug qs (leaf l k y)) gu (r.ends root i n lo lt hn here) in
        (plug qs (leaf l k v), put_grown u root k v l y qs lt gu fu, sym (put_ends u root k v l y qs lt gu fu i) ∙ there)

pub put_tracks : (root k v l : ℕ) (lo : 170 ≤ root) (lt : root < 180) → Tracks root (put_way root k v l lo lt)
unfolding put_way
put_tracks root k v l lo lt = record {
  place = λ held z u b. (
    leaf_same z u root k l (b.remains.words l (b.objects l (inl refl))) b.place.0,
    λ q. b.place.1 (sym (ap (word 5) (b.remains.words l (b.objects l (inl refl)))) ∙ q),
  );
  links = λ s law a vac o t list there. absurd (put_links root k v l lo lt s a.0 o (in-touches (put_writes s l v) o t) list);
  ends = λ held z u b place vac hi i n hn e. put_ends_track z u root k v l lo lt held b.lawful b.remains b.place.0 place.0 i n hn e;
}
