-- What the change of one object's words does to the catalogue.
use Rattle.std.proofs.Common.{◌≡◌, ◌≢◌, ℕ, zero, suc, ◌+◌, ◌-◌, ◌<◌, ◌≤◌, ◌⊎◌, inl, inr, Bool, true, false}
use Rattle.std.proofs.Common.{cond, eqb, List, [], ◌∷◌, length, get_or, set, drop, refl, sym, ap, ◌∙◌, subst, arith, eqb-true, eq-eqb}
use Rattle.std.proofs.Common.{length-set, ext_get_or, set-set, ⊎_elim, get_or-set_same, get_or-set_other, get_or-drop, length-drop, Some}
use Rattle.std.proofs.lemmas.List.{get_or-map, drop-set-lt, drop-set-add, set-get_or}
use Rattle.std.proofs.lemmas.Bool.{cases_eq, cases_lt, false_from_ne_true}
use Rattle.std.proofs.lemmas.Bool.Decides.{nat_tests}
use Rattle.mv_history.specs.State.{State}
use Rattle.mv_history.specs.Meaning.{words_at}
use Rattle.set_model.specs.Catalogue.{Map, IsMap, has_key, put, take_out, map_of, value_of}
use Rattle.set_model.specs.CatalogueOf.{name_of, is_key_of, map_among, map_in, numbers, catalogue_of}
use Rattle.set_model.specs.Objects.{owner, key, value}
use Rattle.set_model.proofs.MapLemmas.{put-put, take_out-put, has_key-put, value_of-put}
use Rattle.set_model.proofs.MapLaws.{put_is_map}
use Rattle.set_model.proofs.ObjectWords.{word, owned_in_range}

-- A test of words, and two states that differ in one object.
pub map_among-same : (test : List ℕ → Bool) (s : State) (i : ℕ) (w : List ℕ) → test w ≡ test (words_at s i) → word 2 w ≡ word 2 (words_at s i)
    → word 5 w ≡ word 5 (words_at s i) → map_among test (set s i w) ≡ map_among test s
unfolding map_among
map_among-same test [] i w a b c = refl
map_among-same test (x ∷ s) zero w a b c =
    ap (λ t. cond t (put (word 2 w) (word 5 w) (map_among test s)) (map_among test s)) a
    ∙ ap (λ k. cond (test x) (put k (word 5 w) (map_among test s)) (map_among test s)) b
    ∙ ap (λ v. cond (test x) (put (word 2 x) v (map_among test s)) (map_among test s)) c
map_among-same test (x ∷ s) (suc i) w a b c =
    ap (λ m. cond (test x) (put (word 2 x) (word 5 x) m) m) (map_among-same test s i w a b c)

-- one picked object more, with a key that was not there
pub map_among-more : (test : List ℕ → Bool) (s : State) (i : ℕ) (w : List ℕ) → i < length s → test (words_at s i) ≡ false → test w ≡ true
    → has_key (word 2 w) (map_among test s) ≡ false → map_among test (set s i w) ≡ put (word 2 w) (word 5 w) (map_among test s)
unfolding map_among
map_among-more test [] i w l a b h = absurd (omega arith)
map_among-more test (x ∷ s) zero w l a b h =
    ap (λ t. cond t (put (word 2 w) (word 5 w) (map_among test s)) (map_among test s)) b
    ∙ ap (λ t. put (word 2 w) (word 5 w) (cond t (put (word 2 x) (word 5 x) (map_among test s)) (map_among test s))) (sym a)
map_among-more test (x ∷ s) (suc i) w l a b h =
    go (test x) h (map_among-more test s i w (omega arith) a b)
  where
    go : (t : Bool) → has_key (word 2 w) (cond t (put (word 2 x) (word 5 x) (map_among test s)) (map_among test s)) ≡ false
        → (has_key (word 2 w) (map_among test s) ≡ false → map_among test (set s i w) ≡ put (word 2 w) (word 5 w) (map_among test s))
        → cond t (put (word 2 x) (word 5 x) (map_among test (set s i w))) (map_among test (set s i w))
        ≡ put (word 2 w) (word 5 w) (cond t (put (word 2 x) (word 5 x) (map_among test s)) (map_among test s))
    go true g r =
        let e : has_key (word 2 w) (put (word 2 x) (word 5 x) (map_among test s)) ≡ cond (eqb (word 2 x) (word 2 w)) true
        (has_key (word 2 w) (map_among test s)) = has_key-put (word 2 w) (word 2 x) (word 5 x) (map_among test s) in
        let n : word 2 x ≢ word 2 w = grind (arith, nat_tests) in
        let f : has_key (word 2 w) (map_among test s) ≡ false = grind (arith, nat_tests) in
        ap (λ m. put (word 2 x) (word 5 x) m) (r f) ∙ put-put (word 2 x) (word 5 x) (word 2 w) (word 5 w) (map_among test s) n
    go false g r = r g

-- a key of the map is that of an object that is picked
pub map_among-has : (test : List ℕ → Bool) (s : State) (k : ℕ) → has_key k (map_among test s) ≡ true
    → (i : ℕ) × (test (words_at s i) ≡ true) × (word 2 (words_at s i) ≡ k)
unfolding map_among
map_among-has test [] k h = absurd (cc)
map_among-has test (x ∷ s) k h = go (test x) refl (map_among-has test s k) h
  where
    go : (t : Bool) → test x ≡ t → (has_key k (map_among test s) ≡ true → (i : ℕ) × (test (words_at s i) ≡ true) × (word 2 (words_at s i) ≡ k))
        → has_key k (cond t (put (word 2 x) (word 5 x) (map_among test s)) (map_among test s)) ≡ true
        → (i : ℕ) × (test (words_at (x ∷ s) i) ≡ true) × (word 2 (words_at (x ∷ s) i) ≡ k)
    go false e r g = let u = r g in (suc u.0, u.1, u.2)
    go true e r g = by_key (eqb (word 2 x) k) refl (sym (has_key-put k (word 2 x) (word 5 x) (map_among test s)) ∙ g)
      where
        by_key : (b : Bool) → eqb (word 2 x) k ≡ b → cond b true (has_key k (map_among test s)) ≡ true
            → (i : ℕ) × (test (words_at (x ∷ s) i) ≡ true) × (word 2 (words_at (x ∷ s) i) ≡ k)
        by_key true q _ = (0, e, eqb-true (word 2 x) k q)
        by_key false q f = let u = r f in (suc u.0, u.1, u.2)

-- a value of the map is that of an object that is picked
pub map_among-value : (test : List ℕ → Bool) (s : State) (k v : ℕ) → value_of k (map_among test s) ≡ Some v
    → (i : ℕ) × (test (words_at s i) ≡ true) × (word 2 (words_at s i) ≡ k) × (word 5 (words_at s i) ≡ v)
unfolding map_among
map_among-value test [] k v h = absurd (cc)
map_among-value test (x ∷ s) k v h = go (test x) refl (map_among-value test s k v) h
  where
    go : (t : Bool) → test x ≡ t
        → (value_of k (map_among test s) ≡ Some v → (i : ℕ) × (test (words_at s i) ≡ true) × (word 2 (words_at s i) ≡ k) × (word 5 (words_at s i) ≡ v))
        → value_of k (cond t (put (word 2 x) (word 5 x) (map_among test s)) (map_among test s)) ≡ Some v
        → (i : ℕ) × (test (words_at (x ∷ s) i) ≡ true) × (word 2 (words_at (x ∷ s) i) ≡ k) × (word 5 (words_at (x ∷ s) i) ≡ v)
    go false e r g = let u = r g in (suc u.0, u.1, u.2, u.3)
    go true e r g = by_key (eqb (word 2 x) k) refl (sym (value_of-put k (word 2 x) (word 5 x) (map_among test s)) ∙ g)
      where
        by_key : (b : Bool) → eqb (word 2 x) k ≡ b → cond b (Some (word 5 x)) (value_of k (map_among test s)) ≡ Some v
            → (i : ℕ) × (test (words_at (x ∷ s) i) ≡ true) × (word 2 (words_at (x ∷ s) i) ≡ k) × (word 5 (words_at (x ∷ s) i) ≡ v)
        by_key true q f = let same : word 5 x ≡ v = cc in (0, e, eqb-true (word 2 x) k q, same)
        by_key false q f = let u = r f in (suc u.0, u.1, u.2, u.3)

-- an object that is picked has its key in the map
pub has-map_among : (test : List ℕ → Bool) (s : State) (k i : ℕ) → i < length s → test (words_at s i) ≡ true → word 2 (words_at s i) ≡ k
    → has_key k (map_among test s) ≡ true
unfolding map_among
has-map_among test [] k i l e q = absurd (omega arith)
has-map_among test (x ∷ s) k zero l e q =
    ap (λ t. has_key k (cond t (put (word 2 x) (word 5 x) (map_among test s)) (map_among test s))) e ∙ has_key-put k (word 2 x) (word 5 x) (map_among test s)
    ∙ ap (λ b. cond b true (has_key k (map_among test s))) (eq-eqb (word 2 x) k q)
has-map_among test (x ∷ s) k (suc i) l e q =
    go (test x) (has-map_among test s k i (omega arith) e q)
  where
    go : (t : Bool) → has_key k (map_among test s) ≡ true → has_key k (cond t (put (word 2 x) (word 5 x) (map_among test s)) (map_among test s)) ≡ true
    go false r = r
    go true r = has_key-put k (word 2 x) (word 5 x) (map_among test s) ∙ by_key (eqb (word 2 x) k)
      where
        by_key : (b : Bool) → cond b true (has_key k (map_among test s)) ≡ true
        by_key true = refl
        by_key false = r

pub IsMap-map_among : (test : List ℕ → Bool) (s : State) → IsMap (map_among test s)
unfolding map_among
IsMap-map_among test [] = tt
IsMap-map_among test (x ∷ s) = go (test x) (IsMap-map_among test s)
  where
    go : (t : Bool) → IsMap (map_among test s) → IsMap (cond t (put (word 2 x) (word 5 x) (map_among test s)) (map_among test s))
    go true r = put_is_map (word 2 x) (word 5 x) (map_among test s) r
    go false r = r

-- an object that is picked neither before nor after
pub map_among-none : (test : List ℕ → Bool) (s : State) (i : ℕ) (w : List ℕ) → test (words_at s i) ≡ false → test w ≡ false
    → map_among test (set s i w) ≡ map_among test s
unfolding map_among
map_among-none test [] i w a b = refl
map_among-none test (x ∷ s) zero w a b =
    ap (λ t. cond t (put (word 2 w) (word 5 w) (map_among test s)) (map_among test s)) b
    ∙ ap (λ t. cond t (put (word 2 x) (word 5 x) (map_among test s)) (map_among test s)) (sym a)
map_among-none test (x ∷ s) (suc i) w a b =
    ap (λ m. cond (test x) (put (word 2 x) (word 5 x) m) m) (map_among-none test s i w a b)

-- one picked object less, whose key no other one has
pub map_among-less : (test : List ℕ → Bool) (s : State) (i : ℕ) (w : List ℕ) → i < length s → test (words_at s i) ≡ true → test w ≡ false
    → has_key (word 2 (words_at s i)) (map_among test (set s i w)) ≡ false → map_among test (set s i w) ≡ take_out (word 2 (words_at s i)) (map_among test s)
map_among-less test s i w l a b h =
    let x : List ℕ = words_at s i in
    let back : set (set s i w) i (words_at s i) ≡ s = set-set s i w (words_at s i) ∙ set-get_or s i [] in
    let there : words_at (set s i w) i ≡ w = get_or-set_same s i w [] l in
    let more : map_among test (set (set s i w) i (words_at s i)) ≡ put (word 2 (words_at s i)) (word 5 (words_at s i)) (map_among test (set s i w)) =
    map_among-more test (set s i w) i (words_at s i) (omega (arith, length-set s i w)) (ap test there ∙ b) a h in
    sym (ap (take_out (word 2 (words_at s i))) (sym (ap (map_among test) back) ∙ more)
    ∙ take_out-put (word 2 (words_at s i)) (word 5 (words_at s i)) (map_among test (set s i w)) h)

-- The same in the map of a name, where an object from 180 on changes.
pub drop-set_at : (s : State) (o : ℕ) (w : List ℕ) → 180 ≤ o → drop 180 (set s o w) ≡ set (drop 180 s) (o - 180) w
drop-set_at s o w lo =
    let e : 180 + (o - 180) ≡ o = omega arith in
    ap (λ i. drop 180 (set s i w)) (sym e) ∙ drop-set-add 180 s (o - 180) w

pub at-drop : (s : State) (o : ℕ) → 180 ≤ o → words_at (drop 180 s) (o - 180) ≡ words_at s o
at-drop s o lo = let e : 180 + (o - 180) ≡ o = omega arith in get_or-drop 180 s (o - 180) [] ∙ ap (words_at s) e

pub map_in-low : (s : State) (name o : ℕ) (w : List ℕ) → o < 180 → map_in (set s o w) name ≡ map_in s name
map_in-low s name o w lt = ap (map_among (is_key_of name)) (drop-set-lt 180 s o w lt)

pub map_in-same : (s : State) (name o : ℕ) (w : List ℕ) → is_key_of name w ≡ is_key_of name (words_at s o) → word 2 w ≡ key s o → word 5 w ≡ value s o
    → map_in (set s o w) name ≡ map_in s name
map_in-same s name o w a b c = ⊎_elim (λ lt. map_in-low s name o w lt) high (cases_lt o 180)
  where
    high : 180 ≤ o → map_in (set s o w) name ≡ map_in s name
    high lo =
        let e = at-drop s o lo in
        ap (map_among (is_key_of name)) (drop-set_at s o w lo)
        ∙ map_among-same (is_key_of name) (drop 180 s) (o - 180) w (a ∙ ap (is_key_of name) (sym e)) (b ∙ ap (word 2) (sym e)) (c ∙ ap (word 5) (sym e))

pub map_in-none : (s : State) (name o : ℕ) (w : List ℕ) → 180 ≤ o → is_key_of name (words_at s o) ≡ false → is_key_of name w ≡ false
    → map_in (set s o w) name ≡ map_in s name
map_in-none s name o w lo a b =
    ap (map_among (is_key_of name)) (drop-set_at s o w lo)
    ∙ map_among-none (is_key_of name) (drop 180 s) (o - 180) w (ap (is_key_of name) (at-drop s o lo) ∙ a) b

pub map_in-more : (s : State) (name o : ℕ) (w : List ℕ) → 180 ≤ o → o < length s → is_key_of name (words_at s o) ≡ false → is_key_of name w ≡ true
    → has_key (word 2 w) (map_in s name) ≡ false → map_in (set s o w) name ≡ put (word 2 w) (word 5 w) (map_in s name)
map_in-more s name o w lo lt a b h =
    ap (map_among (is_key_of name)) (drop-set_at s o w lo)
    ∙ map_among-more (is_key_of name) (drop 180 s) (o - 180) w (omega (arith, length-drop 180 s)) (ap (is_key_of name) (at-drop s o lo) ∙ a) b h

pub map_in-less : (s : State) (name o : ℕ) (w : List ℕ) → 180 ≤ o → o < length s → is_key_of name (words_at s o) ≡ true → is_key_of name w ≡ false
    → has_key (key s o) (map_in (set s o w) name) ≡ false → map_in (set s o w) name ≡ take_out (key s o) (map_in s name)
map_in-less s name o w lo lt a b h =
    let e = at-drop s o lo in
    let d = drop-set_at s o w lo in
    let k : word 2 (words_at (drop 180 s) (o - 180)) ≡ key s o = ap (word 2) e in
    ap (map_among (is_key_of name)) d ∙ map_among-less (is_key_of name) (drop 180 s) (o - 180) w (omega (arith, length-drop 180 s))
    (ap (is_key_of name) e ∙ a) b (ap (λ j. has_key j (map_among (is_key_of name) (set (drop 180 s) (o - 180) w))) k
    ∙ ap (λ m. has_key (key s o) (map_among (is_key_of name) m)) (sym d) ∙ h) ∙ ap (λ j. take_out j (map_in s name)) k

-- some node of the name has the key
abbrev pub Holds : State → ℕ → ℕ → Type 0
Holds s name k = (o : ℕ) × (180 ≤ o) × (is_key_of name (words_at s o) ≡ true) × (key s o ≡ k)

pub map_in-holds : (s : State) (name k : ℕ) → has_key k (map_in s name) ≡ true → Holds s name k
map_in-holds s name k h =
    let u = map_among-has (is_key_of name) (drop 180 s) k h in
    let e : words_at (drop 180 s) u.0 ≡ words_at s (180 + u.0) = get_or-drop 180 s u.0 [] in
    (180 + u.0, omega arith, ap (is_key_of name) (sym e) ∙ u.1, ap (word 2) (sym e) ∙ u.2)

pub is_key-from : (name : ℕ) (w : List ℕ) → is_key_of name w ≡ true → (0 < word 0 w) × (word 1 w ≢ 2) × (name_of (word 0 w - 1) ≡ name)
is_key-from name w e = grind (arith, eqb-true)

pub is_key-to : (name : ℕ) (w : List ℕ) → 0 < word 0 w → word 1 w ≢ 2 → name_of (word 0 w - 1) ≡ name → is_key_of name w ≡ true
is_key-to name w a b c = grind (arith, eq-eqb)

pub is_key-vacant : (name : ℕ) (w : List ℕ) → word 0 w ≡ 0 → is_key_of name w ≡ false
is_key-vacant name w e = grind (arith, eq-eqb)

pub holds-map_in : (s : State) (name k : ℕ) → Holds s name k → has_key k (map_in s name) ≡ true
holds-map_in s name k (o, lo, e, q) =
    let f = at-drop s o lo in
    let own : 0 < owner s o = (is_key-from name (words_at s o) e).0 in
    let here : o < length s = owned_in_range s o (owner s o - 1) (omega arith) in
    has-map_among (is_key_of name) (drop 180 s) k (o - 180) (omega (arith, length-drop 180 s)) (ap (is_key_of name) f ∙ e) (ap (word 2) f ∙ q)

-- a node of another head holds no key of the name
pub is_key-other : (name head : ℕ) (w : List ℕ) → word 0 w ≡ suc head → name ≢ name_of head → is_key_of name w ≡ false
is_key-other name head w e n = false_from_ne_true (is_key_of name w) (λ t.
    (let q : word 0 w - 1 ≡ head = omega arith in n (sym (is_key-from name w t).2 ∙ ap name_of q)))

-- The catalogue of a state has the map of each name.
pub map_of-catalogue_of : (s : State) (name : ℕ) → name < 30 → map_of name (catalogue_of s) ≡ map_in s name
unfolding catalogue_of
map_of-catalogue_of s name lt =
    get_or-map (λ n. map_in s n) (numbers 30 0) name 0 [] lt ∙ ap (λ n. map_in s n) (counted 30 0 name lt ∙ omega arith)
  where
    counted : (count n i : ℕ) → i < count → get_or (numbers count n) i 0 ≡ n + i
    counted zero n i h = absurd (omega arith)
    counted (suc c) n zero h = omega arith
    counted (suc c) n (suc i) h = let r : get_or (numbers c (suc n)) i 0 ≡ suc n + i = counted c (suc n) i (omega arith) in omega arith

pub length-catalogue_of : (s : State) → length (catalogue_of s) ≡ 30
unfolding catalogue_of
length-catalogue_of s = refl

-- a change of one name's map
pub catalogue_set : (s s' : State) (name : ℕ) (m : Map) → name < 30 → ((n : ℕ) → n ≢ name → map_in s' n ≡ map_in s n) → map_in s' name ≡ m
    → catalogue_of s' ≡ set (catalogue_of s) name m
catalogue_set s s' name m lt others here =
    ext_get_or [] (catalogue_of s') (set (catalogue_of s) name m)
    (length-catalogue_of s' ∙ sym (length-set (catalogue_of s) name m ∙ length-catalogue_of s))
    (λ i h. (let l : i < 30 = subst (λ (u : ℕ). i < u) (length-catalogue_of s') h in map_of-catalogue_of s' i l ∙ at_name i l (cases_eq i name)))
  where
    at_name : (i : ℕ) → i < 30 → (i ≡ name) ⊎ (i ≢ name) → map_in s' i ≡ get_or (set (catalogue_of s) name m) i []
    at_name i l (inr n) = others i n ∙ sym (get_or-set_other (catalogue_of s) name i m [] n ∙ map_of-catalogue_of s i l)
    at_name i l (inl e) =
        let r : name < length (catalogue_of s) = subst (λ (u : ℕ). name < u) (sym (length-catalogue_of s)) lt in
        ap (map_in s') e ∙ here ∙ sym (get_or-set_same (catalogue_of s) name m [] r) ∙ ap (λ (u : ℕ). get_or (set (catalogue_of s) name m) u []) (sym e)
