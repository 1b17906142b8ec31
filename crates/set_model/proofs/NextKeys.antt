-- The next key of a map, by the keys that it has.
use Rattle.std.proofs.Common.{◌≡◌, ℕ, ◌<◌, ◌≤◌, ◌⊎◌, inl, inr, Bool, true, false, cond, ltb, eqb, [], ◌∷◌, refl, arith}
use Rattle.std.proofs.Common.{Some, None, eqb-true, ltb-true, ltb-false}
use Rattle.std.proofs.lemmas.Bool.{cases_lt}
use Rattle.std.proofs.lemmas.Bool.Decides.{nat_tests}
use Rattle.set_model.specs.Catalogue.{Map, IsMap, IsAboveKey, has_key, next_key}

-- every key of a map is above one that all are above
has_above : (k j : ℕ) (m : Map) → IsAboveKey k m → has_key j m ≡ true → k < j
has_above k j [] a h = absurd (cc)
has_above k j (e ∷ m) a h = go (eqb e.0 j) refl h (has_above k j m a.1)
  where
    go : (b : Bool) → eqb e.0 j ≡ b → cond b true (has_key j m) ≡ true → (has_key j m ≡ true → k < j) → k < j
    go true q _ r = let same : e.0 ≡ j = eqb-true e.0 j q in let lt : k < e.0 = a.0 in omega arith
    go false q f r = r f

-- the least of the keys of a map that are not below k
pub record IsLeast (k : ℕ) (m : Map) (j : ℕ) : Type 0 where
  pub has : has_key j m ≡ true
  pub from : k ≤ j
  pub least : (i : ℕ) → has_key i m ≡ true → k ≤ i → j ≤ i

later : (k i : ℕ) (e : ℕ × ℕ) (m : Map) → e.0 < k → has_key i (e ∷ m) ≡ true → k ≤ i → has_key i m ≡ true
later k i e m lt h le = grind (arith, nat_tests)

pub next_is : (k : ℕ) (m : Map) (j : ℕ) → IsMap m → IsLeast k m j → next_key k m ≡ Some j
next_is k [] j r l = absurd (let h : false ≡ true = l.has in cc)
next_is k (e ∷ m) j r l = go (cases_lt e.0 k) (next_is k m j r.1)
  where
    go : (e.0 < k) ⊎ (k ≤ e.0) → (IsLeast k m j → next_key k m ≡ Some j) → next_key k (e ∷ m) ≡ Some j
    go (inl lt) f =
        let le : k ≤ j = l.from in
        let rest : next_key k m ≡ Some j = f (record {
          has = later k j e m lt l.has le;
          from = le;
          least = λ i h. l.least i (grind (arith, nat_tests));
        }) in grind (arith, nat_tests)
    go (inr ge) _ =
        let first : has_key e.0 (e ∷ m) ≡ true = grind (arith, nat_tests) in
        let upper : j ≤ e.0 = l.least e.0 first ge in
        let lower : e.0 ≤ j = at_least (eqb e.0 j) refl l.has in
        let same : e.0 ≡ j = omega arith in grind (arith, nat_tests)
      where
        at_least : (b : Bool) → eqb e.0 j ≡ b → cond b true (has_key j m) ≡ true → e.0 ≤ j
        at_least true q _ = let x : e.0 ≡ j = eqb-true e.0 j q in omega arith
        at_least false q h = let x : e.0 < j = has_above e.0 j m r.0 h in omega arith

pub next_none : (k : ℕ) (m : Map) → ((i : ℕ) → has_key i m ≡ true → i < k) → next_key k m ≡ None
next_none k [] f = refl
next_none k (e ∷ m) f =
    let first : has_key e.0 (e ∷ m) ≡ true = grind (arith, nat_tests) in
    let lt : e.0 < k = f e.0 first in
    let rest : next_key k m ≡ None = next_none k m (λ i h. f i (grind (arith, nat_tests))) in grind (arith, nat_tests)

pub least_from : (k : ℕ) (m : Map) (j : ℕ) → IsMap m → next_key k m ≡ Some j → IsLeast k m j
least_from k [] j r e = absurd (cc)
least_from k (e ∷ m) j r q = go (ltb e.0 k) refl q (least_from k m j r.1)
  where
    go : (b : Bool) → ltb e.0 k ≡ b → cond b (next_key k m) (Some e.0) ≡ Some j → (next_key k m ≡ Some j → IsLeast k m j) → IsLeast k (e ∷ m) j
    go true b f i =
        let lt : e.0 < k = ltb-true e.0 k b in
        let l = i f in record {
          has = (let h = l.has in grind (arith, nat_tests));
          from = l.from;
          least = λ u h le. l.least u (later k u e m lt h le) le;
        }
    go false b f i =
        let ge : k ≤ e.0 = ltb-false e.0 k b in
        let same : e.0 ≡ j = cc in record {
          has = grind (arith, nat_tests);
          from = omega arith;
          least = λ u h le. first u (eqb e.0 u) refl h same;
        }
      where
        first : (u : ℕ) (b : Bool) → eqb e.0 u ≡ b → cond b true (has_key u m) ≡ true → e.0 ≡ j → j ≤ u
        first u true x _ same = let y : e.0 ≡ u = eqb-true e.0 u x in omega arith
        first u false x h same = let y : e.0 < u = has_above e.0 u m r.0 h in omega arith

pub none_from : (k : ℕ) (m : Map) → next_key k m ≡ None → (i : ℕ) → has_key i m ≡ true → i < k
none_from k [] e i h = absurd (cc)
none_from k (e ∷ m) q i h = go (ltb e.0 k) refl q (none_from k m)
  where
    go : (b : Bool) → ltb e.0 k ≡ b → cond b (next_key k m) (Some e.0) ≡ None → (next_key k m ≡ None → (i : ℕ) → has_key i m ≡ true → i < k) → i < k
    go false b f r = absurd (cc)
    go true b f r = by (eqb e.0 i) refl h
      where
        by : (c : Bool) → eqb e.0 i ≡ c → cond c true (has_key i m) ≡ true → i < k
        by true x _ = let y : e.0 ≡ i = eqb-true e.0 i x in let lt : e.0 < k = ltb-true e.0 k b in omega arith
        by false x g = r f i g
