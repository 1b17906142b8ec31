-- The entries of a map from a key on: which comes first, and which comes next.
use Rattle.std.proofs.Common.{◌≡◌, ℕ, zero, suc, ◌+◌, ◌<◌, ◌≤◌, ◌⊎◌, inl, inr, [], ◌∷◌, drop, refl, sym, ap, ◌∙◌, arith, Some}
use Rattle.std.proofs.lemmas.Bool.{cases_lt}
use Rattle.std.proofs.lemmas.Bool.Decides.{nat_tests}
use Rattle.std.proofs.lemmas.List.{drop-drop}
use Rattle.set_model.specs.Catalogue.{Map, IsMap, IsAboveKey, value_of, next_key}
use Rattle.set_seats.specs.Walks.{entries_from, first_key}

-- they are the map without some entries at its front
pub behind : (k : ℕ) (m : Map) → (j : ℕ) × (entries_from k m ≡ drop j m)
behind k [] = (0, refl)
behind k (e ∷ m) = go (cases_lt e.0 k) (behind k m)
  where
    go : (e.0 < k) ⊎ (k ≤ e.0) → (j : ℕ) × (entries_from k m ≡ drop j m) → (j : ℕ) × (entries_from k (e ∷ m) ≡ drop j (e ∷ m))
    go (inl lt) i = (suc i.0, (let r = i.1 in grind (arith, nat_tests)))
    go (inr ge) i = (0, grind (arith, nat_tests))

-- the first of them has the next key
pub next_first : (k : ℕ) (m : Map) → next_key k m ≡ first_key (entries_from k m)
next_first k [] = refl
next_first k (e ∷ m) = let r = next_first k m in grind (arith, nat_tests)

-- what stands in a map is above what all of it is above
above_there : (k j : ℕ) (m rest : Map) (e : ℕ × ℕ) → IsAboveKey k m → drop j m ≡ e ∷ rest → k < e.0
above_there k zero [] rest e a q = absurd (cc)
above_there k zero (x ∷ m) rest e a q = let lt : k < x.0 = a.0 in let same : x.0 ≡ e.0 = cc in omega arith
above_there k (suc j) [] rest e a q = absurd (cc)
above_there k (suc j) (x ∷ m) rest e a q = above_there k j m rest e a.1 q

-- its value is that of its key
value_there : (j : ℕ) (m rest : Map) (e : ℕ × ℕ) → IsMap m → drop j m ≡ e ∷ rest → value_of e.0 m ≡ Some e.1
value_there zero [] rest e r q = absurd (cc)
value_there zero (x ∷ m) rest e r q = let a : x.0 ≡ e.0 = cc in let b : x.1 ≡ e.1 = cc in grind (arith, nat_tests)
value_there (suc j) [] rest e r q = absurd (cc)
value_there (suc j) (x ∷ m) rest e r q =
    let lt : x.0 < e.0 = above_there x.0 j m rest e r.0 q in let i = value_there j m rest e r.1 q in grind (arith, nat_tests)

-- from a key on that all keys are above, it is the whole map
whole_above : (k : ℕ) (m : Map) → IsAboveKey k m → entries_from (suc k) m ≡ m
whole_above k [] a = refl
whole_above k (e ∷ m) a = let lt : k < e.0 = a.0 in grind (arith, nat_tests)

-- from above an entry on, what comes behind it
next_there : (j : ℕ) (m rest : Map) (e : ℕ × ℕ) → IsMap m → drop j m ≡ e ∷ rest → entries_from (suc e.0) m ≡ rest
next_there zero [] rest e r q = absurd (cc)
next_there zero (x ∷ m) rest e r q =
    let a : x.0 ≡ e.0 = cc in let b : m ≡ rest = cc in
    let w : entries_from (suc x.0) m ≡ m = whole_above x.0 m r.0 in grind (arith, nat_tests)
next_there (suc j) [] rest e r q = absurd (cc)
next_there (suc j) (x ∷ m) rest e r q =
    let lt : x.0 < e.0 = above_there x.0 j m rest e r.0 q in let i = next_there j m rest e r.1 q in grind (arith, nat_tests)

-- none of them is below the key
pub from_there : (k : ℕ) (m rest : Map) (e : ℕ × ℕ) → entries_from k m ≡ e ∷ rest → k ≤ e.0
from_there k [] rest e q = absurd (cc)
from_there k (x ∷ m) rest e q = go (cases_lt x.0 k) (from_there k m rest e)
  where
    go : (x.0 < k) ⊎ (k ≤ x.0) → (entries_from k m ≡ e ∷ rest → k ≤ e.0) → k ≤ e.0
    go (inl lt) i = let same : entries_from k (x ∷ m) ≡ entries_from k m = grind (arith, nat_tests) in i (sym same ∙ q)
    go (inr ge) i =
        let same : entries_from k (x ∷ m) ≡ x ∷ m = grind (arith, nat_tests) in
        let both : x ∷ m ≡ e ∷ rest = sym same ∙ q in let first : x.0 ≡ e.0 = cc in omega arith

-- The same of the entries from a key on, of which this one stands at a place.
module _ (k n : ℕ) (m rest : Map) (e : ℕ × ℕ) (r : IsMap m) (q : drop n (entries_from k m) ≡ e ∷ rest) where
  place : drop ((behind k m).0 + n) m ≡ e ∷ rest
  place = sym (drop-drop n (behind k m).0 m) ∙ ap (drop n) (sym (behind k m).1) ∙ q

  pub value_at : value_of e.0 m ≡ Some e.1
  value_at = value_there ((behind k m).0 + n) m rest e r place

  pub next_at : entries_from (e.0 + 1) m ≡ drop (n + 1) (entries_from k m)
  next_at =
      let on : e.0 + 1 ≡ suc e.0 = omega arith in
      ap (λ (j : ℕ). entries_from j m) on ∙ next_there ((behind k m).0 + n) m rest e r place ∙ sym (ap (drop 1) q)
      ∙ drop-drop 1 n (entries_from k m)
