-- Maps: what put and take_out do.
use Rattle.std.proofs.Common.{◌≡◌, ◌≢◌, ℕ, ◌<◌, ◌≤◌, Bool, true, false, cond, eqb, eq-eqb, ne_eqb, ◌⊎◌, inl, inr, []}
use Rattle.std.proofs.Common.{◌∷◌, refl, sym, ap, ◌∙◌, arith, Option, Some, None}
use Rattle.std.proofs.lemmas.Bool.{cases_lt, cases_order}
use Rattle.std.proofs.lemmas.Bool.Decides.{nat_tests}
use Rattle.set_model.specs.Catalogue.{Map, IsMap, IsAboveKey, has_key, value_of, put, take_out}
use Rattle.set_model.proofs.MapLaws.{above_lower}

-- two keys may be put in either order
pub put-put : (j u k v : ℕ) (m : Map) → j ≢ k → put j u (put k v m) ≡ put k v (put j u m)
put-put j u k v [] n = grind (arith, nat_tests)
put-put j u k v (e ∷ m) n = grind (arith, nat_tests, put-put j u k v m n)

-- a key that was not there is put and taken out again
pub take_out-put : (k v : ℕ) (m : Map) → has_key k m ≡ false → take_out k (put k v m) ≡ m
take_out-put k v [] h = grind (arith, nat_tests)
take_out-put k v (e ∷ m) h = grind (arith, nat_tests, take_out-put k v m)

-- a key that all keys are above is not taken out
take_out-above : (k : ℕ) (m : Map) → IsAboveKey k m → take_out k m ≡ m
take_out-above k [] a = refl
take_out-above k (e ∷ m) a = let lt : k < e.0 = a.0 in let r = take_out-above k m a.1 in grind (arith, nat_tests)

-- a key that is taken out is put again
pub put-take_out : (k v : ℕ) (m : Map) → IsMap m → put k v (take_out k m) ≡ put k v m
put-take_out k v [] r = refl
put-take_out k v (e ∷ m) r = go (cases_order e.0 k) (put-take_out k v m r.1)
  where
    first : (m : Map) → IsAboveKey k m → put k v m ≡ (k, v) ∷ m
    first [] a = refl
    first (x ∷ m) a = let lt : k < x.0 = a.0 in grind (arith, nat_tests)

    go : (e.0 ≡ k) ⊎ ((e.0 < k) ⊎ (k < e.0)) → put k v (take_out k m) ≡ put k v m → put k v (take_out k (e ∷ m)) ≡ put k v (e ∷ m)
    go (inl q) i =
        let a : put k v m ≡ (k, v) ∷ m = first m (above_lower k e.0 m (omega arith) r.0) in grind (arith, nat_tests)
    go (inr (inl lt)) i = grind (arith, nat_tests)
    go (inr (inr gt)) i =
        let absent : take_out k m ≡ m = take_out-above k m (above_lower k e.0 m (omega arith) r.0) in grind (arith, nat_tests)

pub has_key-put : (j k v : ℕ) (m : Map) → has_key j (put k v m) ≡ cond (eqb k j) true (has_key j m)
has_key-put j k v [] = grind (arith, nat_tests)
has_key-put j k v (e ∷ m) = grind (arith, nat_tests, has_key-put j k v m)

-- a key that all keys are above is not there
pub has_key-above : (k : ℕ) (m : Map) → IsAboveKey k m → has_key k m ≡ false
has_key-above k [] a = refl
has_key-above k (e ∷ m) a =
    let lt : k < e.0 = a.0 in let r = has_key-above k m a.1 in grind (arith, nat_tests)

pub value_of-put : (j k v : ℕ) (m : Map) → value_of j (put k v m) ≡ cond (eqb k j) (Some v) (value_of j m)
value_of-put j k v [] = refl
value_of-put j k v (e ∷ m) = grind (arith, nat_tests, value_of-put j k v m)

pub value_of-above : (k : ℕ) (m : Map) → IsAboveKey k m → value_of k m ≡ None
value_of-above k [] a = refl
value_of-above k (e ∷ m) a =
    let lt : k < e.0 = a.0 in let r = value_of-above k m a.1 in grind (arith, nat_tests)

pub has_key-none : (k : ℕ) (m : Map) → value_of k m ≡ None → has_key k m ≡ false
has_key-none k [] e = refl
has_key-none k (x ∷ m) e = go (eqb x.0 k) (λ f. has_key-none k m f) e
  where
    go : (b : Bool) → (value_of k m ≡ None → has_key k m ≡ false) → cond b (Some x.1) (value_of k m) ≡ None → cond b true (has_key k m) ≡ false
    go true r f = absurd (cc)
    go false r f = r f

pub has_key-some : (k v : ℕ) (m : Map) → value_of k m ≡ Some v → has_key k m ≡ true
has_key-some k v [] e = absurd (cc)
has_key-some k v (x ∷ m) e = go (eqb x.0 k) (λ f. has_key-some k v m f) e
  where
    go : (b : Bool) → (value_of k m ≡ Some v → has_key k m ≡ true) → cond b (Some x.1) (value_of k m) ≡ Some v → cond b true (has_key k m) ≡ true
    go true r f = refl
    go false r f = r f

pub has_key-same : (k : ℕ) (m n : Map) → value_of k m ≡ value_of k n → has_key k m ≡ has_key k n
has_key-same k m n e = go (value_of k m) refl
  where
    go : (r : Option ℕ) → value_of k m ≡ r → has_key k m ≡ has_key k n
    go None q = has_key-none k m q ∙ sym (has_key-none k n (sym e ∙ q))
    go (Some v) q = has_key-some k v m q ∙ sym (has_key-some k v n (sym e ∙ q))

pub value_of-first : (k v : ℕ) (m : Map) → value_of k ((k, v) ∷ m) ≡ Some v
value_of-first k v m = ap (λ (b : Bool). cond b (Some v) (value_of k m)) (eq-eqb k k refl)

pub value_of-later : (j : ℕ) (e : ℕ × ℕ) (m : Map) → e.0 ≢ j → value_of j (e ∷ m) ≡ value_of j m
value_of-later j e m n = ap (λ (b : Bool). cond b (Some e.1) (value_of j m)) (ne_eqb e.0 j n)

-- maps in which each key has one value are equal
pub same_maps : (xs ys : Map) → IsMap xs → IsMap ys → ((k : ℕ) → value_of k xs ≡ value_of k ys) → xs ≡ ys
same_maps [] [] p q f = refl
same_maps [] (y ∷ ys) p q f = let a = f y.0 in let b = value_of-first y.0 y.1 ys in absurd (cc)
same_maps (x ∷ xs) [] p q f = let a = f x.0 in let b = value_of-first x.0 x.1 xs in absurd (cc)
same_maps (x ∷ xs) (y ∷ ys) p q f =
    let key : x.0 ≡ y.0 = elim (cases_order x.0 y.0) [
      | inl e ↦ e
      | inr (inl lt) ↦ absurd (none x y xs ys q lt (f x.0))
      | inr (inr lt) ↦ absurd (none y x ys xs p lt (sym (f y.0)))
    ] in
    let value : x.1 ≡ y.1 = value x.0 x.1 y.0 y.1 xs ys key (f x.0) in
    let rest : xs ≡ ys = same_maps xs ys p.1 q.1 (λ k. tails k key (cases_lt x.0 k)) in
    let first : x ≡ y = λ i. (key i, value i) in cc
  where
    none : (x y : ℕ × ℕ) (xs ys : Map) → IsMap (y ∷ ys) → x.0 < y.0 → value_of x.0 (x ∷ xs) ≡ value_of x.0 (y ∷ ys) → ⊥
    none x y xs ys r lt e =
        let a : value_of x.0 (x ∷ xs) ≡ Some x.1 = value_of-first x.0 x.1 xs in
        let b : value_of x.0 (y ∷ ys) ≡ None = value_of-above x.0 (y ∷ ys) (lt, above_lower x.0 y.0 ys (omega arith) r.0) in
        let c : Some x.1 ≡ None = sym a ∙ e ∙ b in cc

    value : (j u k v : ℕ) (xs ys : Map) → j ≡ k → value_of j ((j, u) ∷ xs) ≡ value_of j ((k, v) ∷ ys) → u ≡ v
    value j u k v xs ys e g =
        let a : value_of j ((j, u) ∷ xs) ≡ Some u = value_of-first j u xs in
        let b : value_of j ((k, v) ∷ ys) ≡ Some v = ap (λ z. value_of z ((k, v) ∷ ys)) e ∙ value_of-first k v ys in
        let c : Some u ≡ Some v = sym a ∙ g ∙ b in cc

    tails : (k : ℕ) → x.0 ≡ y.0 → (x.0 < k) ⊎ (k ≤ x.0) → value_of k xs ≡ value_of k ys
    tails k e (inl lt) = sym (value_of-later k x xs (omega arith)) ∙ f k ∙ value_of-later k y ys (omega arith)
    tails k e (inr le) =
        value_of-above k xs (above_lower k x.0 xs le p.0) ∙ sym (value_of-above k ys (above_lower k y.0 ys (omega arith) q.0))
