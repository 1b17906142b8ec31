-- Maps in two parts, one behind the other.
use Rattle.std.proofs.Common.{◌≡◌, ℕ, ◌<◌, ◌≤◌, ◌⊎◌, inl, inr, Bool, true, false, cond, eqb, [], ◌∷◌, ◌++◌, refl, ◌∙◌, arith, Some}
use Rattle.std.proofs.lemmas.Bool.Decides.{nat_tests}
use Rattle.set_model.specs.Catalogue.{Map, IsAboveKey, IsMap, has_key, value_of, next_key, put, take_out}
use Rattle.set_model.proofs.MapLemmas.{has_key-above}

-- every key is below this one
abbrev pub IsUnderKey : ℕ → Map → Type 0
IsUnderKey k [] = Unit {0}
IsUnderKey k (e ∷ m) = (e.0 < k) × IsUnderKey k m

-- no key is below this one
abbrev pub IsFromKey : ℕ → Map → Type 0
IsFromKey k [] = Unit {0}
IsFromKey k (e ∷ m) = (k ≤ e.0) × IsFromKey k m

pub under_append : (k : ℕ) (m n : Map) → IsUnderKey k m → IsUnderKey k n → IsUnderKey k (m ++ n)
under_append k [] n u w = w
under_append k (e ∷ m) n u w = (u.0, under_append k m n u.1 w)

pub above_append : (k : ℕ) (m n : Map) → IsAboveKey k m → IsAboveKey k n → IsAboveKey k (m ++ n)
above_append k [] n u w = w
above_append k (e ∷ m) n u w = (u.0, above_append k m n u.1 w)

pub from_append : (k : ℕ) (m n : Map) → IsFromKey k m → IsFromKey k n → IsFromKey k (m ++ n)
from_append k [] n u w = w
from_append k (e ∷ m) n u w = (u.0, from_append k m n u.1 w)

pub under_higher : (j k : ℕ) (m : Map) → j ≤ k → IsUnderKey j m → IsUnderKey k m
under_higher j k [] le u = tt
under_higher j k (e ∷ m) le u = let lt : e.0 < j = u.0 in (omega arith, under_higher j k m le u.1)

pub from_above : (j k : ℕ) (m : Map) → j < k → IsFromKey k m → IsAboveKey j m
from_above j k [] lt u = tt
from_above j k (e ∷ m) lt u = let le : k ≤ e.0 = u.0 in (omega arith, from_above j k m lt u.1)

pub IsMap-append : (d : ℕ) (m n : Map) → IsMap m → IsMap n → IsUnderKey d m → IsFromKey d n → IsMap (m ++ n)
IsMap-append d [] n p q u w = q
IsMap-append d (e ∷ m) n p q u w =
    (above_append e.0 m n p.0 (from_above e.0 d n u.0 w), IsMap-append d m n p.1 q u.1 w)

-- What is asked for behind the first part is found in the second.
pub has_key-behind : (k : ℕ) (m n : Map) → IsUnderKey k m → has_key k (m ++ n) ≡ has_key k n
has_key-behind k [] n u = refl
has_key-behind k (e ∷ m) n u =
    let lt : e.0 < k = u.0 in let r = has_key-behind k m n u.1 in grind (arith, nat_tests)

pub value_of-behind : (k : ℕ) (m n : Map) → IsUnderKey k m → value_of k (m ++ n) ≡ value_of k n
value_of-behind k [] n u = refl
value_of-behind k (e ∷ m) n u =
    let lt : e.0 < k = u.0 in let r = value_of-behind k m n u.1 in grind (arith, nat_tests)

pub put-behind : (k v : ℕ) (m n : Map) → IsUnderKey k m → put k v (m ++ n) ≡ m ++ put k v n
put-behind k v [] n u = refl
put-behind k v (e ∷ m) n u =
    let lt : e.0 < k = u.0 in let r = put-behind k v m n u.1 in grind (arith, nat_tests)

pub take_out-behind : (k : ℕ) (m n : Map) → IsUnderKey k m → take_out k (m ++ n) ≡ m ++ take_out k n
take_out-behind k [] n u = refl
take_out-behind k (e ∷ m) n u =
    let lt : e.0 < k = u.0 in let r = take_out-behind k m n u.1 in grind (arith, nat_tests)

pub next_key-behind : (k : ℕ) (m n : Map) → IsUnderKey k m → next_key k (m ++ n) ≡ next_key k n
next_key-behind k [] n u = refl
next_key-behind k (e ∷ m) n u =
    let lt : e.0 < k = u.0 in let r = next_key-behind k m n u.1 in grind (arith, nat_tests)

-- a value that the first part has
pub value_of-before : (k v : ℕ) (m n : Map) → value_of k m ≡ Some v → value_of k (m ++ n) ≡ Some v
value_of-before k v [] n e = absurd (cc)
value_of-before k v (x ∷ m) n e = go (eqb x.0 k) (value_of-before k v m n) e
  where
    go : (b : Bool) → (value_of k m ≡ Some v → value_of k (m ++ n) ≡ Some v) → cond b (Some x.1) (value_of k m) ≡ Some v
        → cond b (Some x.1) (value_of k (m ++ n)) ≡ Some v
    go true r f = f
    go false r f = r f

pub value_of-either : (k v : ℕ) (m n : Map) → value_of k (m ++ n) ≡ Some v → (value_of k m ≡ Some v) ⊎ (value_of k n ≡ Some v)
value_of-either k v [] n e = inr e
value_of-either k v (x ∷ m) n e = go (eqb x.0 k) (value_of-either k v m n) e
  where
    go : (b : Bool) → (value_of k (m ++ n) ≡ Some v → (value_of k m ≡ Some v) ⊎ (value_of k n ≡ Some v)) → cond b (Some x.1) (value_of k (m ++ n)) ≡ Some v
        → (cond b (Some x.1) (value_of k m) ≡ Some v) ⊎ (value_of k n ≡ Some v)
    go true r f = inl f
    go false r f = r f

-- A map parted at an entry: what is before it has lower keys, and what is behind it higher ones.
pub has_key-at : (k j v : ℕ) (m n : Map) → IsUnderKey k m → IsAboveKey k n → has_key k (m ++ (j, v) ∷ n) ≡ eqb j k
has_key-at k j v m n u a = has_key-behind k m ((j, v) ∷ n) u ∙ go (eqb j k)
  where
    go : (b : Bool) → cond b true (has_key k n) ≡ b
    go true = refl
    go false = has_key-above k n a

pub put-above : (k v : ℕ) (n : Map) → IsAboveKey k n → put k v n ≡ (k, v) ∷ n
put-above k v [] a = refl
put-above k v (e ∷ n) a = let lt : k < e.0 = a.0 in grind (arith, nat_tests)
