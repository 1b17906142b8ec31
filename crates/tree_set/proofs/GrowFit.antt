-- The writes of an add to a tree that is not empty.
use Rattle.std.proofs.Common.{◌≡◌, ◌≢◌, ℕ, suc, ◌^◌, ◌<◌, ◌≤◌, ◌⊎◌, inl, inr, true, false, [], ◌∷◌, ◌++◌, refl, sym, ap, ◌∙◌, subst, arith, Some}
use Rattle.std.proofs.lemmas.Bool.{cases_eq, cases_lt}
use Rattle.std.proofs.lemmas.Bool.Decides.{nat_tests}
use Rattle.mv_history.specs.State.{State, written}
use Rattle.mv_history.specs.Legal.{are_distinct}
use Rattle.mv_history.specs.Meaning.{words_at}
use Rattle.mv_history.proofs.Writing.{words-written_other, words-written_same}
use Rattle.set_model.specs.Catalogue.{Map, IsAboveKey, has_key, put}
use Rattle.set_model.specs.Objects.{owner}
use Rattle.set_model.specs.Trees.{Tree, entries_in, HoldsTree, seek}
use Rattle.set_model.specs.TreeLaws.{grown_once}
use Rattle.set_model.specs.Trees.Tree.{leaf}
use Rattle.set_model.specs.Lawful.{IsLawful}
use Rattle.set_model.proofs.ObjectWords.{word, owned_in_range}
use Rattle.set_model.proofs.MapParts.{IsUnderKey, put-behind, put-above, has_key-at}
use Rattle.set_model.proofs.TreeShape.{is_in-none}
use Rattle.section_work.proofs.Objects.{touches-out, out-touches}
use Rattle.set_model.proofs.Written.{distinct-objects_of}
use Rattle.set_model.proofs.Halves.{Half}
use Rattle.set_model.proofs.Ways.{IsAt, IsVacant, Lacks}
use Rattle.tree_set.specs.Paths.{Path, plug, Follows, before, after}
use Rattle.tree_set.specs.Places.{IsGrowPlace, grow_writes}
use Rattle.tree_set.proofs.Plugging.{path_to, stands_part, seek_plug, entries_plug, before_under, after_above}
use Rattle.tree_set.proofs.Around.{part_owner, parent_at, part_not_parent, owned_not_vacant, at_not_vacant, at_in_range}
use Rattle.tree_set.proofs.Replacing.{parent_is}
use Rattle.tree_set.proofs.Halving.{tree_half}
use Rattle.tree_set.proofs.Growing.{IsSite, Sprouts, sprout, grown_more, grow_within, grow_keys, grow_ends}

-- The path of the search, where the place of an add is.
pub grow_site : (s : State) (root k p l m w : ℕ) → k < 2 ^ 32 → IsGrowPlace s root k p l → IsVacant s m → IsVacant s w → m ≢ w
    → (j : ℕ) × (x : ℕ) × (ps : Path) × IsSite s root k p l m w j x ps
grow_site s root k p l m w fits place vm vw ne = (r.2, r.3, r.0, site)
  where
    r : (ps : Path) × (n : ℕ) × (j : ℕ) × (v : ℕ) × (place.ends.0 ≡ plug ps (leaf n j v)) × Follows k ps
    r = path_to k place.ends.0

    found : r.1 ≡ l
    found = sym (ap (seek k) r.4 ∙ seek_plug k r.0 (leaf r.1 r.2 r.3) r.5) ∙ place.ends.2

    grown : HoldsTree s root (plug r.0 (leaf l r.2 r.3))
    grown =
        subst (λ (n : ℕ). HoldsTree s root (plug r.0 (leaf n r.2 r.3))) found (subst (λ (u : Tree). HoldsTree s root u) r.4 place.ends.1)

    site : IsSite s root k p l m w r.2 r.3 r.0
    site = record {
      grown = grown;
      follows = r.5;
      parent = parent_is s root r.0 (leaf l r.2 r.3) grown p place.above;
      other = λ e. place.other (ap (word 2) (stands_part s root r.0 (leaf l r.2 r.3) grown.stands).2 ∙ e);
      fits = fits;
      new_leaf = vm;
      new_inner = vw;
      differ = ne;
    }

-- the entries with the new one
entries_sprout : (k v m w l j x : ℕ) (a : Map) → j ≢ k → IsAboveKey k a → entries_in (sprout k v m w l j x) ++ a ≡ put k v ((j, x) ∷ a)
entries_sprout k v m w l j x a ne up = go (cases_lt k j)
  where
    go : (k < j) ⊎ (j ≤ k) → entries_in (sprout k v m w l j x) ++ a ≡ put k v ((j, x) ∷ a)
    go (inl lt) = grind (arith, nat_tests)
    go (inr le) = let e : put k v a ≡ (k, v) ∷ a = put-above k v a up in grind (arith, nat_tests)

pub entries_grow : (s : State) (root k v p l m w j x : ℕ) (ps : Path) → IsSite s root k p l m w j x ps
    → entries_in (plug ps (sprout k v m w l j x)) ≡ put k v (entries_in (plug ps (leaf l j x)))
entries_grow s root k v p l m w j x ps a =
    let up : IsAboveKey k (after ps) = after_above k ps (leaf l j x) a.grown.ordered a.follows in
    let under : IsUnderKey k (before ps) = before_under k ps (leaf l j x) a.grown.ordered a.follows in
    entries_plug ps (sprout k v m w l j x) ∙ ap (λ (e : Map). before ps ++ e) (entries_sprout k v m w l j x (after ps) a.other up)
    ∙ sym (put-behind k v (before ps) ((j, x) ∷ after ps) under) ∙ ap (put k v) (sym (entries_plug ps (leaf l j x)))

pub site_lacks : (s : State) (root k p l m w j x : ℕ) (ps : Path) → IsSite s root k p l m w j x ps → has_key k (entries_in (plug ps (leaf l j x))) ≡ false
site_lacks s root k p l m w j x ps a =
    let n = a.other in
    ap (has_key k) (entries_plug ps (leaf l j x))
    ∙ has_key-at k j x (before ps) (after ps) (before_under k ps (leaf l j x) a.grown.ordered a.follows)
    (after_above k ps (leaf l j x) a.grown.ordered a.follows) ∙ grind (arith, nat_tests)

module _ (s : State) (root k v p l m w j x : ℕ) (ps : Path) (law : IsLawful s) (lt : root < 180) (a : IsSite s root k p l m w j x ps) where
  leaf_owner : owner s l ≡ suc root
  leaf_owner = part_owner s root ps (leaf l j x) a.grown l (inl refl)

  parent_place : IsAt s root p
  parent_place = parent_at s root ps (leaf l j x) a.grown p a.parent

  p_not_l : p ≢ l
  p_not_l e = part_not_parent s root ps (leaf l j x) lt a.grown p a.parent l (inl refl) (sym e)

  p_not_m : p ≢ m
  p_not_m = at_not_vacant s root p m lt parent_place a.new_leaf

  p_not_w : p ≢ w
  p_not_w = at_not_vacant s root p w lt parent_place a.new_inner

  l_not_m : l ≢ m
  l_not_m = owned_not_vacant s root l m leaf_owner a.new_leaf

  l_not_w : l ≢ w
  l_not_w = owned_not_vacant s root l w leaf_owner a.new_inner

  pub grow_distinct : are_distinct (grow_writes s root k v p l m w) ≡ true
  grow_distinct = distinct-objects_of (grow_writes s root k v p l m w) (
    is_in-none p (l ∷ m ∷ w ∷ []) (λ i. elim i [ inl e ↦ p_not_l e | inr (inl e) ↦ p_not_m e | inr (inr (inl e)) ↦ p_not_w e | inr (inr (inr e)) ↦ e ]),
    (
      is_in-none l (m ∷ w ∷ []) (λ i. elim i [ inl e ↦ l_not_m e | inr (inl e) ↦ l_not_w e | inr (inr e) ↦ e ]),
      (is_in-none m (w ∷ []) (λ i. elim i [ inl e ↦ a.differ e | inr e ↦ e ]), (refl, tt)),
    ),
  )

  -- the words that they leave
  pub grow_sprouts : Sprouts s (written s (grow_writes s root k v p l m w)) root k v p l m w
  grow_sprouts = record {
    parent = words-written_same s (grow_writes s root k v p l m w) 0 p (0, []) grow_distinct (omega arith) refl (at_in_range s root p law lt parent_place);
    new_leaf = words-written_same s (grow_writes s root k v p l m w) 2 m (0, []) grow_distinct (omega arith) refl a.new_leaf.1;
    new_inner = words-written_same s (grow_writes s root k v p l m w) 3 w (0, []) grow_distinct (omega arith) refl a.new_inner.1;
    others = λ o np nm nw. others o np nm nw (cases_eq o l);
  }
    where
      others : (o : ℕ) → o ≢ p → o ≢ m → o ≢ w → (o ≡ l) ⊎ (o ≢ l) → words_at (written s (grow_writes s root k v p l m w)) o ≡ words_at s o
      others o np nm nw (inl e) =
          words-written_same s (grow_writes s root k v p l m w) 1 o (0, []) grow_distinct (omega arith) (sym e)
          (omega (arith, owned_in_range s l root leaf_owner)) ∙ ap (words_at s) (sym e)
      others o np nm nw (inr nl) =
          words-written_other s (grow_writes s root k v p l m w) o
          (touches-out (grow_writes s root k v p l m w) o
          (λ i. elim i [ inl e ↦ np e | inr (inl e) ↦ nl e | inr (inr (inl e)) ↦ nm e | inr (inr (inr (inl e))) ↦ nw e | inr (inr (inr (inr e))) ↦ e ]))

-- An add to a tree that is not empty keeps what it must, and puts its key into the catalogue.
pub grow_half : (s : State) (root k v p l m w : ℕ) → IsLawful s → 170 ≤ root → root < 180 → k < 2 ^ 32 → IsGrowPlace s root k p l → IsVacant s m
    → IsVacant s w → m ≢ w → Half s (written s (grow_writes s root k v p l m w)) (grow_writes s root k v p l m w) root (Lacks k) (put k v)
grow_half s root k v p l m w law lo lt fits place vm vw ne =
    let r = grow_site s root k p l m w fits place vm vw ne in from r.0 r.1 r.2 r.3
  where
    from : (j x : ℕ) (ps : Path) → IsSite s root k p l m w j x ps
        → Half s (written s (grow_writes s root k v p l m w)) (grow_writes s root k v p l m w) root (Lacks k) (put k v)
    from j x ps a =
        let s' : State = written s (grow_writes s root k v p l m w) in
        let c : Sprouts s s' root k v p l m w = grow_sprouts s root k v p l m w j x ps law lt a in
        let new : HoldsTree s' root (plug ps (sprout k v m w l j x)) = grown_more s s' root k v p l m w j x ps lt a c in
        tree_half s (grow_writes s root k v p l m w) root (Lacks k) (put k v) (Some (plug ps (leaf l j x))) (Some (plug ps (sprout k v m w l j x))) law
        lo lt a.grown new
        (record {
          within = grow_within s s' root k v p l m w j x ps lt a c;
          keys = grow_keys s s' root k v p l m w j x ps lt a c;
          ends = λ i n e out. (
            plug ps (sprout k v m w l j x),
            new,
            grow_ends s s' root k v p l m w j x ps lt a c i n (ap (seek i) (grown_once s root (plug ps (leaf l j x)) e.0 a.grown e.1) ∙ e.2)
                (λ q. out-touches (grow_writes s root k v p l m w) n out (inr (inl q))),
          );
        })
        (site_lacks s root k p l m w j x ps a) (entries_grow s root k v p l m w j x ps a)
