-- What the locks and writes of a change need and leave. Section `a` is the old one, `b` the one in which the locks begin, as it was, and `c` the new one.
use Rattle.std.proofs.Common.{◌≡◌, ◌≢◌, ℕ, ◌^◌, ◌<◌, ◌≤◌, inl, inr, Bool, true, false, cond, eqb, eq-eqb, ne_eqb, eqb-true, List, [], ◌∷◌, ◌++◌, length, refl}
use Rattle.std.proofs.Common.{sym, ap, ◌∙◌, subst, arith, Some, None}
use Rattle.std.proofs.lemmas.Bool.Decides.{nat_tests}
use Rattle.mv_history.specs.State.{State, Writes}
use Rattle.mv_history.specs.Legal.{are_distinct, AreWithin}
use Rattle.mv_history.specs.Meaning.{InSection, words_at, state_of}
use Rattle.mv_history.specs.Calls.{IsAsBefore}
use Rattle.mv_history.proofs.Holding.{state_of-as_before}
use Rattle.set_model.specs.Catalogue.{Map, map_of, has_key, value_of, put, take_out}
use Rattle.set_model.specs.CatalogueOf.{name_of, catalogue_of}
use Rattle.set_model.specs.Objects.{link, value}
use Rattle.section_work.specs.OwnWrites.{objects_of}
use Rattle.set_model.specs.Lawful.{IsLawful}
use Rattle.set_model.proofs.ObjectWords.{word, owned_in_range}
use Rattle.section_work.proofs.Objects.{IsIn, in_either, in-touches}
use Rattle.set_model.proofs.Ways.{IsVacant, AreVacant, Way}
use Rattle.list_set.specs.Places.{put_writes}
use Rattle.section_work.specs.Locking.{Rewritten}
use Rattle.tree_set.specs.Places.{IsLeaf, tree_add_writes, IsGrowPlace, grow_writes, IsBarePlace, bare_writes, IsCutPlace, tree_del_writes}
use Rattle.tree_set.specs.Calls.{IsAdd, IsDel, Gains, Loses}
use Rattle.tree_set.specs.Calls.IsAdd.{first_leaf, beside_leaf}
use Rattle.tree_set.specs.Calls.IsDel.{last_leaf, leaf_and_parent}
use Rattle.tree_set.specs.Walks.{IsDescent}
use Rattle.tree_set.proofs.Around.{at_in_range}
use Rattle.tree_set.proofs.Found.{found_has, found_leaf, found_words, found_value}
use Rattle.tree_set.proofs.TreeWays.{grow_way, tree_add_way, cut_way, bare_way, put_way}

pub both_vacant : (s : State) (m w : ℕ) → IsVacant s m → IsVacant s w → AreVacant s (m ∷ w ∷ [])
both_vacant s m w a b o (inl e) = subst (λ (u : ℕ). IsVacant s u) (sym e) a
both_vacant s m w a b o (inr (inl e)) = subst (λ (u : ℕ). IsVacant s u) (sym e) b
both_vacant s m w a b o (inr (inr e)) = absurd e

pub one_vacant : (s : State) (m : ℕ) → IsVacant s m → AreVacant s (m ∷ [])
one_vacant s m a o (inl e) = subst (λ (u : ℕ). IsVacant s u) (sym e) a
one_vacant s m a o (inr e) = absurd e

pub none_vacant : (s : State) → AreVacant s []
none_vacant s o e = absurd e

-- A put found the key's leaf, and its value.
pub record IsFoundLeaf (s : State) (root k l : ℕ) (words : List ℕ) : Type 0 where
  pub is : IsLeaf s root k l
  pub words_are : words ≡ words_at s l
  pub value_is : value_of k (map_of (name_of root) (catalogue_of s)) ≡ Some (word 5 words)

pub put_found : (s t : State) (root k g p l r : ℕ) (words : List ℕ) → s ≡ t → IsDescent s root k g p l r words → IsLawful t → 170 ≤ root → root < 180 →
    has_key k (map_of (name_of root) (catalogue_of t)) ≡ true → IsFoundLeaf t root k l words
put_found s t root k g p l r words same f law lo lt present =
    let e : word 2 words ≡ k = eqb-true (word 2 words) k (sym (found_has s t root k g p l r words same f law lo lt) ∙ present) in
    record {
      is = found_leaf s t root k g p l r words same f e;
      words_are = found_words s t root k g p l r words same f;
      value_is = found_value s t root k g p l r words same f law lo lt ∙ ap (λ (b : Bool). cond b (Some (word 5 words)) None) (eq-eqb (word 2 words) k e);
    }

pub put_within : (a b : InSection) (root k l : ℕ) → a.at ≤ length a.seat.seen → IsAsBefore a b → IsLeaf (state_of a) root k l →
    AreWithin ((l, []) ∷ []) (length (state_of b))
put_within a b root k l le same is o t =
    let e : l ≡ o = grind (arith, nat_tests) in
    subst (λ (u : State). o < length u) (sym (state_of-as_before a b le same))
    (subst (λ (n : ℕ). n < length (state_of a)) e (owned_in_range (state_of a) l root is.1))

pub no_other : (k v x : ℕ) (m : Map) → value_of k m ≡ Some x → x ≢ v → value_of k m ≡ Some v → ⊥
no_other k v x m e n f = n (let q : Some x ≡ Some v = sym e ∙ f in cc)

-- Any way to change the map of a tree.
module _ {Fits : Map → Type 0} {change : Map → Map} (root : ℕ) (w : Way root Fits change) (lt : root < 180) where
  pub way_distinct : (s : State) → IsLawful s → w.Place s → AreVacant s w.fresh → are_distinct (w.writes s) ≡ true
  way_distinct = w.distinct

  -- its objects are in range
  pub way_within : (a b : InSection) → a.at ≤ length a.seat.seen → IsAsBefore a b → IsLawful (state_of a) → w.Place (state_of a) →
      AreVacant (state_of a) w.fresh → AreWithin (w.writes (state_of a)) (length (state_of b))
  way_within a b le same l place vacant o t =
      let i : IsIn o (w.objects ++ w.fresh) = subst (λ (os : List ℕ). IsIn o os) (w.names (state_of a)) (in-touches (w.writes (state_of a)) o t) in
      let here : o < length (state_of a) = (elim (in_either w.objects w.fresh o i) [
        | inl j ↦ at_in_range (state_of a) root o l lt (w.owned (state_of a) l place o j)
        | inr j ↦ (vacant o j).1
      ]) in
      subst (λ (u : State). o < length u) (sym (state_of-as_before a b le same)) here

-- What the locks need.
module _ (a b : InSection) (root k : ℕ) (le : a.at ≤ length a.seat.seen) (same : IsAsBefore a b) (l : IsLawful (state_of a)) (lo : 170 ≤ root)
    (lt : root < 180) where
  pub tree_added_in_range : (m : ℕ) → k < 2 ^ 32 → link (state_of a) root ≡ 0 → IsVacant (state_of a) m →
      AreWithin ((root, []) ∷ (m, []) ∷ []) (length (state_of b))
  unfolding tree_add_way
  tree_added_in_range m fits e vm =
      way_within root (tree_add_way root k 0 m lo lt fits) lt a b le same l e (one_vacant (state_of a) m vm)

  pub grown_in_range : (p n m w : ℕ) → k < 2 ^ 32 → IsGrowPlace (state_of a) root k p n → IsVacant (state_of a) m → IsVacant (state_of a) w → m ≢ w →
      AreWithin ((p, []) ∷ (n, []) ∷ (m, []) ∷ (w, []) ∷ []) (length (state_of b))
  unfolding grow_way
  grown_in_range p n m w fits place vm vw ne =
      way_within root (grow_way root k 0 p n m w lo lt fits ne) lt a b le same l place (both_vacant (state_of a) m w vm vw)

  pub bared_in_range : (n : ℕ) → IsBarePlace (state_of a) root k n → AreWithin ((root, []) ∷ (n, []) ∷ []) (length (state_of b))
  unfolding bare_way
  bared_in_range n place =
      way_within root (bare_way root k (value (state_of a) n) n lo lt) lt a b le same l (place, refl) (none_vacant (state_of a))

  pub cut_in_range : (g p n : ℕ) → IsCutPlace (state_of a) root k g p n → AreWithin ((g, []) ∷ (p, []) ∷ (n, []) ∷ []) (length (state_of b))
  unfolding cut_way
  cut_in_range g p n place =
      way_within root (cut_way root k (value (state_of a) n) g p n lo lt) lt a b le same l (place, refl) (none_vacant (state_of a))

module _ (s : State) (root k : ℕ) (l : IsLawful s) (lo : 170 ≤ root) (lt : root < 180) where
  pub grown_distinct : (p n m w : ℕ) → k < 2 ^ 32 → IsGrowPlace s root k p n → IsVacant s m → IsVacant s w → m ≢ w →
      are_distinct ((p, []) ∷ (n, []) ∷ (m, []) ∷ (w, []) ∷ []) ≡ true
  unfolding grow_way
  grown_distinct p n m w fits place vm vw ne =
      way_distinct root (grow_way root k 0 p n m w lo lt fits ne) lt s l place (both_vacant s m w vm vw)

  pub bared_distinct : (n : ℕ) → IsBarePlace s root k n → are_distinct ((root, []) ∷ (n, []) ∷ []) ≡ true
  unfolding bare_way
  bared_distinct n place = way_distinct root (bare_way root k (value s n) n lo lt) lt s l (place, refl) (none_vacant s)

  pub cut_distinct : (g p n : ℕ) → IsCutPlace s root k g p n → are_distinct ((g, []) ∷ (p, []) ∷ (n, []) ∷ []) ≡ true
  unfolding cut_way
  cut_distinct g p n place = way_distinct root (cut_way root k (value s n) g p n lo lt) lt s l (place, refl) (none_vacant s)

-- the code's two answers to whether the key is there
pub has_true : (k j : ℕ) (b : Bool) → b ≡ eqb j k → j ≡ k → b ≡ true
has_true k j b e q = e ∙ eq-eqb j k q

pub has_false : (k j : ℕ) (b : Bool) → b ≡ eqb j k → j ≢ k → b ≡ false
has_false k j b e n = e ∙ ne_eqb j k n

-- A key more, or a key less.
pub way_gains : {Fits : Map → Type 0} (root k v : ℕ) (w : Way root Fits (put k v)) (a c : InSection) → IsLawful (state_of a) → w.Place (state_of a) →
    AreVacant (state_of a) w.fresh → Rewritten a c (objects_of (w.writes (state_of a))) (w.writes (state_of a)) → Gains a c root k v (w.writes (state_of a))
way_gains root k v w a c l place vacant r =
    let h = w.half (state_of a) l place vacant in
    record {
      change = r;
      lawful = subst (λ (u : State). IsLawful u) (sym r.state) h.keeps.lawful_after;
      catalogue = ap catalogue_of r.state ∙ h.leaves;
    }

pub way_loses : {Fits : Map → Type 0} (root k : ℕ) (w : Way root Fits (take_out k)) (a c : InSection) → IsLawful (state_of a) → w.Place (state_of a) →
    AreVacant (state_of a) w.fresh → Rewritten a c (objects_of (w.writes (state_of a))) (w.writes (state_of a)) → Loses a c root k (w.writes (state_of a))
way_loses root k w a c l place vacant r =
    let h = w.half (state_of a) l place vacant in
    record {
      change = r;
      lawful = subst (λ (u : State). IsLawful u) (sym r.state) h.keeps.lawful_after;
      catalogue = ap catalogue_of r.state ∙ h.leaves;
    }

-- What the code wrote is what the way writes.
pub made_as : (a c : InSection) (made ws : Writes) → made ≡ ws → Rewritten a c (objects_of made) made → Rewritten a c (objects_of ws) ws
made_as a c made ws e r = subst (λ (u : Writes). Rewritten a c (objects_of u) u) e r

-- What an add leaves.
module _ (a c : InSection) (root k v m w : ℕ) (l : IsLawful (state_of a)) (lo : 170 ≤ root) (lt : root < 180) (fits : k < 2 ^ 32)
    (vm : IsVacant (state_of a) m) where
  pub tree_added_gains : (made : Writes) → link (state_of a) root ≡ 0 → made ≡ tree_add_writes (state_of a) root k v m → Rewritten a c (objects_of made) made →
      (ws : Writes) × IsAdd (state_of a) root k v m w ws × Gains a c root k v ws
  unfolding tree_add_way
  tree_added_gains made e is r = (
    tree_add_writes (state_of a) root k v m,
    first_leaf e,
    way_gains root k v (tree_add_way root k v m lo lt fits) a c l e (one_vacant (state_of a) m vm)
        (made_as a c made (tree_add_writes (state_of a) root k v m) is r),
  )

  pub grown_gains : (p n : ℕ) (made : Writes) → IsVacant (state_of a) w → m ≢ w → IsGrowPlace (state_of a) root k p n →
      made ≡ grow_writes (state_of a) root k v p n m w → Rewritten a c (objects_of made) made →
      (ws : Writes) × IsAdd (state_of a) root k v m w ws × Gains a c root k v ws
  unfolding grow_way
  grown_gains p n made vw ne place is r = (
    grow_writes (state_of a) root k v p n m w,
    beside_leaf p n place,
    way_gains root k v (grow_way root k v p n m w lo lt fits ne) a c l place (both_vacant (state_of a) m w vm vw)
        (made_as a c made (grow_writes (state_of a) root k v p n m w) is r),
  )

-- the same for the nodes that the code names
pub took_as : (a c : InSection) (root k n p node inner : ℕ) → n ≡ node → p ≡ inner → (ws : Writes) × IsDel (state_of a) root k n p ws × Loses a c root k ws →
    (ws : Writes) × IsDel (state_of a) root k node inner ws × Loses a c root k ws
took_as a c root k n p node inner e f r =
    subst (λ (u : ℕ). (ws : Writes) × IsDel (state_of a) root k u inner ws × Loses a c root k ws) e
    (subst (λ (u : ℕ). (ws : Writes) × IsDel (state_of a) root k n u ws × Loses a c root k ws) f r)

-- What a del leaves.
module _ (a c : InSection) (root k : ℕ) (l : IsLawful (state_of a)) (lo : 170 ≤ root) (lt : root < 180) where
  pub bared_loses : (n : ℕ) (made : Writes) → IsBarePlace (state_of a) root k n → made ≡ bare_writes (state_of a) root n →
      Rewritten a c (objects_of made) made → (ws : Writes) × IsDel (state_of a) root k n 0 ws × Loses a c root k ws
  unfolding bare_way
  bared_loses n made place is r = (
    bare_writes (state_of a) root n,
    last_leaf n place,
    way_loses root k (bare_way root k (value (state_of a) n) n lo lt) a c l (place, refl) (none_vacant (state_of a))
        (made_as a c made (bare_writes (state_of a) root n) is r),
  )

  pub cut_loses : (g p n : ℕ) (made : Writes) → IsCutPlace (state_of a) root k g p n → made ≡ tree_del_writes (state_of a) g p n →
      Rewritten a c (objects_of made) made → (ws : Writes) × IsDel (state_of a) root k n p ws × Loses a c root k ws
  unfolding cut_way
  cut_loses g p n made place is r = (
    tree_del_writes (state_of a) g p n,
    leaf_and_parent g p n place,
    way_loses root k (cut_way root k (value (state_of a) n) g p n lo lt) a c l (place, refl) (none_vacant (state_of a))
        (made_as a c made (tree_del_writes (state_of a) g p n) is r),
  )

  -- What a put leaves.
  pub put_gains : (v n : ℕ) (made : Writes) → IsLeaf (state_of a) root k n → value (state_of a) n ≢ v → made ≡ put_writes (state_of a) n v →
      Rewritten a c (objects_of made) made → (m : ℕ) × IsLeaf (state_of a) root k m × Gains a c root k v (put_writes (state_of a) m v)
  unfolding put_way
  put_gains v n made is other e r = (
    n,
    is,
    way_gains root k v (put_way root k v n lo lt) a c l (is, other) (none_vacant (state_of a)) (made_as a c made (put_writes (state_of a) n v) e r),
  )
