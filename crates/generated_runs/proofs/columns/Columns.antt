-- The values that a key has in the maps of all names: what a change of one map does to them, and that they make up the maps.
use Rattle.std.proofs.Common.{◌≡◌, ◌≢◌, ℕ, ◌<◌, ◌⊎◌, inl, inr, Bool, true, false, cond, eqb, eq-eqb, ne_eqb, [], ◌∷◌, length, set, refl, sym, ap}
use Rattle.std.proofs.Common.{◌∙◌, arith, Option, Some, None, is_some, get_or-set_same, get_or-set_other, ext_get_or}
use Rattle.std.proofs.lemmas.Bool.{cases_eq}
use Rattle.std.proofs.lemmas.Bool.Decides.{nat_tests}
use Rattle.set_model.specs.Catalogue.{Map, Maps, IsMap, has_key, value_of, put, take_out, map_of, with_key, without_key}
use Rattle.set_model.proofs.MapLemmas.{value_of-put, value_of-above, has_key-none, has_key-some, same_maps}

-- the value that a key has in the map of each name
abbrev pub Column : Type 0
Column = ℕ → Option ℕ

abbrev pub column : ℕ → Maps → Column
column key c name = value_of key (map_of name c)

-- a key is there where it has a value
pub has_key-is : (k : ℕ) (m : Map) → has_key k m ≡ is_some (value_of k m)
has_key-is k m = go (value_of k m) refl
  where
    go : (r : Option ℕ) → value_of k m ≡ r → has_key k m ≡ is_some r
    go None e = has_key-none k m e
    go (Some v) e = has_key-some k v m e

value_of-take_out : (j k : ℕ) (m : Map) → IsMap m → value_of j (take_out k m) ≡ cond (eqb k j) None (value_of j m)
value_of-take_out j k [] rising = grind (arith, nat_tests)
value_of-take_out j k (e ∷ m) rising =
    let rest = value_of-take_out j k m rising.1 in
    let above = value_of-above e.0 m rising.0 in grind (arith, nat_tests)

pub map_of-set : (c : Maps) (name n : ℕ) (m : Map) → name < length c → map_of n (set c name m) ≡ cond (eqb name n) m (map_of n c)
map_of-set c name n m lt = go (cases_eq n name)
  where
    go : (n ≡ name) ⊎ (n ≢ name) → map_of n (set c name m) ≡ cond (eqb name n) m (map_of n c)
    go (inl e) =
        ap (λ i. map_of i (set c name m)) e ∙ get_or-set_same c name m [] lt
        ∙ sym (ap (λ (b : Bool). cond b m (map_of n c)) (eq-eqb name n (sym e)))
    go (inr other) =
        get_or-set_other c name n m [] other ∙ sym (ap (λ (b : Bool). cond b m (map_of n c)) (ne_eqb name n (λ q. other (sym q))))

-- the key of a column is at this value in the map of this name
abbrev pub with_value : ℕ → Option ℕ → Column → Column
with_value name value f n = cond (eqb name n) value (f n)

column-set : (j name n : ℕ) (m : Map) (c : Maps) → name < length c → column j (set c name m) n ≡ cond (eqb name n) (value_of j m) (column j c n)
column-set j name n m c lt = ap (value_of j) (map_of-set c name n m lt) ∙ go (eqb name n)
  where
    go : (b : Bool) → value_of j (cond b m (map_of n c)) ≡ cond b (value_of j m) (value_of j (map_of n c))
    go true = refl
    go false = refl

-- where a map of a name changes at one key
module _ (j k name n : ℕ) (c : Maps) where
  column-edit : (value : Option ℕ) (m : Map) → name < length c → value_of j m ≡ cond (eqb k j) value (column j c name)
      → column j (set c name m) n ≡ cond (eqb k j) (with_value name value (column k c) n) (column j c n)
  column-edit value m lt is = column-set j name n m c lt ∙ ap (λ v. cond (eqb name n) v (column j c n)) is ∙ go (cases_eq name n) (cases_eq k j)
    where
      go : (name ≡ n) ⊎ (name ≢ n) → (k ≡ j) ⊎ (k ≢ j)
          → cond (eqb name n) (cond (eqb k j) value (column j c name)) (column j c n) ≡ cond (eqb k j) (cond (eqb name n) value (column k c n)) (column j c n)
      go (inl e) (inl q) = rw (eq-eqb name n e, eq-eqb k j q) refl
      go (inl e) (inr q) = rw (eq-eqb name n e, ne_eqb k j q) (ap (column j c) e)
      go (inr e) (inl q) = rw (ne_eqb name n e, eq-eqb k j q) (ap (λ i. column i c n) (sym q))
      go (inr e) (inr q) = rw (ne_eqb name n e, ne_eqb k j q) refl

  pub column-with_key : (v : ℕ) → name < length c
      → column j (with_key name k v c) n ≡ cond (eqb k j) (with_value name (Some v) (column k c) n) (column j c n)
  column-with_key v lt = column-edit (Some v) (put k v (map_of name c)) lt (value_of-put j k v (map_of name c))

  pub column-without_key : name < length c → IsMap (map_of name c)
      → column j (without_key name k c) n ≡ cond (eqb k j) (with_value name None (column k c) n) (column j c n)
  column-without_key lt rising = column-edit None (take_out k (map_of name c)) lt (value_of-take_out j k (map_of name c) rising)

-- maps in which each key has the same values are the same
pub same_columns : (c d : Maps) → length c ≡ length d → ((n : ℕ) → IsMap (map_of n c)) → ((n : ℕ) → IsMap (map_of n d))
    → ((j n : ℕ) → column j c n ≡ column j d n) → c ≡ d
same_columns c d same rising rising_too each =
    ext_get_or [] c d same (λ n lt. same_maps (map_of n c) (map_of n d) (rising n) (rising_too n) (λ k. each k n))
