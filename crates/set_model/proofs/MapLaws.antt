-- To put a key into a map, or to take one out, leaves a map whose keys and values fit their types.
use Rattle.std.proofs.Common.{◌≡◌, ℕ, ◌<◌, ◌≤◌, ◌^◌, Bool, not, [], ◌∷◌, length, get_or, set, Result, Ok, Err, OnOk, IfOk, OnErr}
use Rattle.std.proofs.Common.{length-set, sym, ap, ◌∙◌, subst, arith}
use Rattle.std.specs.declared.alloc.AllocError.{AllocError}
use Rattle.std.proofs.lemmas.Bool.Decides.{nat_tests}
use Rattle.std.proofs.lemmas.List.{get_or_default, set-get_or}
use Rattle.std.proofs.lemmas.List.Elements.{All-set}
use Rattle.set_model.specs.Catalogue.{Map, Maps, IsMap, IsAboveKey, FitsTypes, IsCatalogue, put, take_out, map_of, has_key}

-- what is above a key is above each one that is not above it
pub above_lower : (i j : ℕ) (m : Map) → i ≤ j → IsAboveKey j m → IsAboveKey i m
above_lower i j [] le above = tt
above_lower i j (e ∷ m) le above = let lt : j < e.0 = above.0 in (omega arith, above_lower i j m le above.1)

pub above_put : (j k v : ℕ) (m : Map) → j < k → IsAboveKey j m → IsAboveKey j (put k v m)
above_put j k v [] lt above = (lt, tt)
above_put j k v (e ∷ m) lt above = grind (arith, nat_tests, above_put j k v m lt above.1)

pub above_take_out : (j k : ℕ) (m : Map) → IsAboveKey j m → IsAboveKey j (take_out k m)
above_take_out j k [] above = tt
above_take_out j k (e ∷ m) above = grind (arith, nat_tests, above_take_out j k m above.1)

pub put_is_map : (k v : ℕ) (m : Map) → IsMap m → IsMap (put k v m)
put_is_map k v [] is_map = (tt, tt)
put_is_map k v (e ∷ m) is_map = grind (arith, nat_tests, above_lower k e.0 m, above_put e.0 k v m, put_is_map k v m is_map.1)

pub take_out_is_map : (k : ℕ) (m : Map) → IsMap m → IsMap (take_out k m)
take_out_is_map k [] is_map = tt
take_out_is_map k (e ∷ m) is_map = grind (arith, nat_tests, above_take_out e.0 k m is_map.0, take_out_is_map k m is_map.1)

pub put_fits : (k v : ℕ) (m : Map) → k < 2 ^ 32 → v < 2 ^ 64 → FitsTypes m → FitsTypes (put k v m)
put_fits k v [] small fits all = (small, fits, tt)
put_fits k v (e ∷ m) small fits all = grind (arith, nat_tests, put_fits k v m small fits all.2)

pub take_out_fits : (k : ℕ) (m : Map) → FitsTypes m → FitsTypes (take_out k m)
take_out_fits k [] all = tt
take_out_fits k (e ∷ m) all = grind (arith, nat_tests, take_out_fits k m all.2)

-- a catalogue stays one where a map of it is replaced by one of rising keys that fits
pub set_is_catalogue : (c : Maps) (name : ℕ) (m : Map) → IsCatalogue c → IsMap m → FitsTypes m → IsCatalogue (set c name m)
set_is_catalogue c name m lawful is_map fits =
    record {
      whole = length-set c name m ∙ lawful.whole;
      rising = All-set IsMap c name m is_map lawful.rising;
      fits = All-set FitsTypes c name m fits lawful.fits;
    }

-- a catalogue after an insert or a removal at the map that was read at a name
module _ (c : Maps) (name : ℕ) (lawful : IsCatalogue c) (within : name < 30) (before : Map) (read : before ≡ get_or c name before) (key : ℕ) where
  in_range : name < length c
  in_range = omega (arith, lawful.whole)

  is_map : IsMap before
  is_map = subst IsMap (sym read) (lawful.rising name before in_range)

  fits : FitsTypes before
  fits = subst FitsTypes (sym read) (lawful.fits name before in_range)

  pub inserted_is_catalogue : (value : ℕ) (after : Map) (result : Result Bool AllocError) → key < 2 ^ 32 → value < 2 ^ 64
      → OnOk result (after ≡ put key value before) → OnErr result (after ≡ before) → IsCatalogue (set c name after)
  inserted_is_catalogue value after (Ok added) key_fits value_fits ok err =
      rw ok (set_is_catalogue c name _ lawful (put_is_map key value before is_map) (put_fits key value before key_fits value_fits fits))
  inserted_is_catalogue value after (Err error) key_fits value_fits ok err = rw err (set_is_catalogue c name _ lawful is_map fits)

  pub removed_is_catalogue : IsCatalogue (set c name (take_out key before))
  removed_is_catalogue = set_is_catalogue c name _ lawful (take_out_is_map key before is_map) (take_out_fits key before fits)

  -- what was read is the map of the name
  read_is : before ≡ map_of name c
  read_is = read ∙ get_or_default c name before [] in_range

  -- the key has the value, and else nothing changed
  pub inserted_put : (value : ℕ) (after : Map) (d : Maps) (result : Result Bool AllocError) → c ≡ d → OnOk result (after ≡ put key value before)
      → OnOk result (set c name after ≡ set d name (put key value (map_of name d)))
  inserted_put value after d (Ok added) same ok =
      subst (λ (u : Maps). set c name after ≡ set u name (put key value (map_of name u))) same (ap (set c name) (ok ∙ ap (put key value) read_is))
  inserted_put value after d (Err error) same ok = tt

  -- the answer says whether the key was not there
  pub inserted_added : (d : Maps) (result : Result Bool AllocError) → c ≡ d → IfOk result (λ added. added ≡ not (has_key key before))
      → IfOk result (λ added. added ≡ not (has_key key (map_of name d)))
  inserted_added d (Ok added) same is = is ∙ ap (λ (m : Map). not (has_key key m)) (read_is ∙ ap (map_of name) same)
  inserted_added d (Err error) same is = tt

  -- a map that stayed leaves the catalogue
  pub inserted_unchanged : (after : Map) (d : Maps) (result : Result Bool AllocError) → c ≡ d → OnErr result (after ≡ before)
      → OnErr result (set c name after ≡ d)
  inserted_unchanged after d (Ok added) same err = tt
  inserted_unchanged after d (Err error) same err =
      ap (set c name) (err ∙ read) ∙ set-get_or c name before ∙ same
