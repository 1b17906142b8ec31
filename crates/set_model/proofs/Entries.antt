-- Whether a key is there with a value, and what its value is.
use Rattle.std.proofs.Common.{◌≡◌, ◌≢◌, ℕ, Bool, true, false, cond, eqb, eq-eqb, ne_eqb, [], ◌∷◌, refl, ap, ◌∙◌, arith, Some}
use Rattle.std.proofs.lemmas.Bool.Decides.{nat_tests}
use Rattle.set_model.specs.Catalogue.{Map, has_key, has_entry, value_of}

-- a key that is not there has no value
pub has_entry-absent : (k v : ℕ) (m : Map) → has_key k m ≡ false → has_entry k v m ≡ false
has_entry-absent k v [] e = refl
has_entry-absent k v (x ∷ m) e = grind (arith, nat_tests, has_entry-absent k v m)

-- a key is there with its value, and with no other
pub has_entry-value : (k u v : ℕ) (m : Map) → value_of k m ≡ Some u → has_entry k v m ≡ eqb u v
has_entry-value k u v [] f = absurd (cc)
has_entry-value k u v (x ∷ m) f = go (eqb x.0 k) (has_entry-value k u v m) f
  where
    go : (b : Bool) → (value_of k m ≡ Some u → has_entry k v m ≡ eqb u v) → cond b (Some x.1) (value_of k m) ≡ Some u
        → cond b (eqb x.1 v) (has_entry k v m) ≡ eqb u v
    go true r g = let q : x.1 ≡ u = cc in ap (λ z. eqb z v) q
    go false r g = r g

pub has_entry-other : (k u v : ℕ) (m : Map) → value_of k m ≡ Some u → u ≢ v → has_entry k v m ≡ false
has_entry-other k u v m e n = has_entry-value k u v m e ∙ ne_eqb u v n

pub has_entry-there : (k v : ℕ) (m : Map) → value_of k m ≡ Some v → has_entry k v m ≡ true
has_entry-there k v m e = has_entry-value k v v m e ∙ eq-eqb v v refl

-- a key has one value
pub value_once : (k u v : ℕ) (m : Map) → value_of k m ≡ Some u → value_of k m ≡ Some v → u ≡ v
value_once k u v m e f = cc
