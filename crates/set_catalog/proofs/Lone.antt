-- Whether an entry is there, by the value of its key.
use Rattle.std.proofs.Common.{◌≡◌, ℕ, false, ◌==◌, [], ◌∷◌, Some, None, refl, sym, arith}
use Rattle.std.proofs.lemmas.Bool.Decides.{nat_tests}
use Rattle.set_model.specs.Catalogue.{Map, has_key, has_entry, value_of}
use Rattle.set_catalog.proofs.EndFacts.{value_missing}

pub has_entry-value : (k v old : ℕ) (m : Map) → value_of k m ≡ Some old → has_entry k v m ≡ (old == v)
has_entry-value k v old [] e = absurd (cc)
has_entry-value k v old (x ∷ m) e = grind (arith, nat_tests, has_entry-value k v old m)

pub has_entry-none : (k v : ℕ) (m : Map) → value_of k m ≡ None → has_entry k v m ≡ false
has_entry-none k v [] e = refl
has_entry-none k v (x ∷ m) e = grind (arith, nat_tests, has_entry-none k v m)

pub has_entry-missing : (k v : ℕ) (m : Map) → has_key k m ≡ false → has_entry k v m ≡ false
has_entry-missing k v m h = has_entry-none k v m (sym (value_missing k m h))
