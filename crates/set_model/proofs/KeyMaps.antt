-- A map kept as its keys and its values in step: what a place among the keys says of it, and what an edit there does to it.
use Rattle.std.proofs.Common.{◌≡◌, ℕ, zero, suc, ◌<◌, ◌≤◌, true, false, List, [], ◌∷◌, length, get_or, set, Ok, Err, refl, subst, ◌∙◌, length-set, arith}
use Rattle.std.specs.List.{insert, remove, zip}
use Rattle.std.specs.List.Sorted.{IsBinarySearchResult}
use Rattle.std.specs.Ordering.{nat_cmp}
use Rattle.std.proofs.lemmas.Bool.Decides.{nat_tests}
use Rattle.std.proofs.lemmas.List.Edits.{length-insert, length-remove}
use Rattle.std.proofs.lemmas.List.Sorted.{searched}
use Rattle.set_model.specs.Catalogue.{Map, IsMap, IsAboveKey, put, take_out, has_key}
use Rattle.set_model.proofs.MapLaws.{put_is_map, take_out_is_map}

-- the key stands at this place, and lower ones before it
pub record IsPlace (keys : List ℕ) (key at : ℕ) : Type 0 where
  pub within : at < length keys
  pub here : get_or keys at 0 ≡ key
  pub below : (j : ℕ) → j < at → get_or keys j 0 < key

-- the key would stand at this place: lower ones before it, and greater ones from it on
pub record IsGap (keys : List ℕ) (key at : ℕ) : Type 0 where
  pub within : at ≤ length keys
  pub below : (j : ℕ) → j < at → get_or keys j 0 < key
  pub above : (j : ℕ) → at ≤ j → j < length keys → key < get_or keys j 0

above_each : (k : ℕ) (keys values : List ℕ) → length values ≡ length keys → IsAboveKey k (zip keys values) → (j : ℕ) → j < length keys → k < get_or keys j 0
above_each k [] values n above j lt = absurd (omega arith)
above_each k (key ∷ keys) [] n above j lt = absurd (omega arith)
above_each k (key ∷ keys) (value ∷ values) n above zero lt = above.0
above_each k (key ∷ keys) (value ∷ values) n above (suc j) lt = above_each k keys values (omega arith) above.1 j (omega arith)

-- the keys of a map rise
keys_rise : (keys values : List ℕ) → length values ≡ length keys → IsMap (zip keys values) → (i j : ℕ) → i < j → j < length keys
    → get_or keys i 0 < get_or keys j 0
keys_rise [] values n m i j lt in_range = absurd (omega arith)
keys_rise (key ∷ keys) [] n m i j lt in_range = absurd (omega arith)
keys_rise (key ∷ keys) (value ∷ values) n m i zero lt in_range = absurd (omega arith)
keys_rise (key ∷ keys) (value ∷ values) n m zero (suc j) lt in_range = above_each key keys values (omega arith) m.0 j (omega arith)
keys_rise (key ∷ keys) (value ∷ values) n m (suc i) (suc j) lt in_range = keys_rise keys values (omega arith) m.1 i j (omega arith) (omega arith)

-- the keys and the values of a map, in step
abbrev pub InStep : List ℕ → List ℕ → Type 0
InStep keys values = (length values ≡ length keys) × IsMap (zip keys values)

module _ (keys values : List ℕ) (in_step : InStep keys values) (key at : ℕ) where
  keys_do_not_fall : (i j : ℕ) → i ≤ j → j < length keys → get_or keys i 0 ≤ get_or keys j 0
  keys_do_not_fall i j le in_range = grind (arith, keys_rise keys values in_step.0 in_step.1 i j)

  -- a search that answers a place found the key there
  pub place_found : (read : List ℕ) → read ≡ keys → at < length read → IsBinarySearchResult (λ y. nat_cmp y key) read (Ok at) → IsPlace keys key at
  place_found read same in_range found =
      let within : at < length keys = rw (← same) in_range in
      let parts = searched keys key (Ok at) (rw same at found) keys_do_not_fall in
      record { within = within; here = parts.1; below = λ j lt. omega (arith, keys_rise keys values in_step.0 in_step.1 j at lt within, parts.1) }

  -- a search that answers a gap found where the key would stand
  pub gap_found : (read : List ℕ) → read ≡ keys → IsBinarySearchResult (λ y. nat_cmp y key) read (Err at) → IsGap keys key at
  gap_found read same found =
      let parts = searched keys key (Err at) (rw same at found) keys_do_not_fall in
      record { within = parts.0; below = parts.1; above = parts.2 }

place_rest : (k : ℕ) (keys : List ℕ) (key at : ℕ) → IsPlace (k ∷ keys) key (suc at) → IsPlace keys key at
place_rest k keys key at place = record { within = omega (arith, place.within); here = place.here; below = λ j lt. place.below (suc j) (omega arith) }

gap_rest : (k : ℕ) (keys : List ℕ) (key at : ℕ) → IsGap (k ∷ keys) key (suc at) → IsGap keys key at
gap_rest k keys key at gap =
    record {
      within = omega (arith, gap.within);
      below = λ j lt. gap.below (suc j) (omega arith);
      above = λ j le lt. gap.above (suc j) (omega arith) (omega arith);
    }

-- a key at its place is there
pub has_at_place : (keys values : List ℕ) (key at : ℕ) → length values ≡ length keys → IsPlace keys key at → has_key key (zip keys values) ≡ true
has_at_place [] values key at n place = absurd (omega (arith, place.within))
has_at_place (k ∷ keys) [] key at n place = absurd (omega arith)
has_at_place (k ∷ keys) (v ∷ values) key zero n place = grind (arith, nat_tests, place.here)
has_at_place (k ∷ keys) (v ∷ values) key (suc at) n place =
    grind (arith, nat_tests, place.below 0 (omega arith), has_at_place keys values key at (omega arith) (place_rest k keys key at place))

-- to put a key that is there writes its value
pub put_at_place : (keys values : List ℕ) (key value at : ℕ) → length values ≡ length keys → IsPlace keys key at
    → put key value (zip keys values) ≡ zip keys (set values at value)
put_at_place [] values key value at n place = absurd (omega (arith, place.within))
put_at_place (k ∷ keys) [] key value at n place = absurd (omega arith)
put_at_place (k ∷ keys) (v ∷ values) key value zero n place = grind (arith, nat_tests, place.here)
put_at_place (k ∷ keys) (v ∷ values) key value (suc at) n place =
    grind (arith, nat_tests, place.below 0 (omega arith), put_at_place keys values key value at (omega arith) (place_rest k keys key at place))

-- to take out a key that is there takes it and its value out
pub take_out_at_place : (keys values : List ℕ) (key at : ℕ) → length values ≡ length keys → IsPlace keys key at
    → take_out key (zip keys values) ≡ zip (remove keys at) (remove values at)
take_out_at_place [] values key at n place = absurd (omega (arith, place.within))
take_out_at_place (k ∷ keys) [] key at n place = absurd (omega arith)
take_out_at_place (k ∷ keys) (v ∷ values) key zero n place = grind (arith, nat_tests, place.here)
take_out_at_place (k ∷ keys) (v ∷ values) key (suc at) n place =
    grind (arith, nat_tests, place.below 0 (omega arith), take_out_at_place keys values key at (omega arith) (place_rest k keys key at place))

-- a key with a gap is not there
pub not_in_gap : (keys values : List ℕ) (key at : ℕ) → length values ≡ length keys → IsGap keys key at → has_key key (zip keys values) ≡ false
not_in_gap [] values key at n gap = refl
not_in_gap (k ∷ keys) [] key at n gap = absurd (omega arith)
not_in_gap (k ∷ keys) (v ∷ values) key zero n gap =
    grind (
      arith,
      nat_tests,
      gap.above 0 (omega arith) (omega arith),
      not_in_gap keys values key zero (omega arith)
          (record { within = omega arith; below = λ j lt. absurd (omega arith); above = λ j le lt. gap.above (suc j) (omega arith) (omega arith) }),
    )
not_in_gap (k ∷ keys) (v ∷ values) key (suc at) n gap =
    grind (arith, nat_tests, gap.below 0 (omega arith), not_in_gap keys values key at (omega arith) (gap_rest k keys key at gap))

-- to put a key that is not there puts it and its value into its gap
pub put_in_gap : (keys values : List ℕ) (key value at : ℕ) → length values ≡ length keys → IsGap keys key at
    → put key value (zip keys values) ≡ zip (insert keys at key) (insert values at value)
put_in_gap [] [] key value zero n gap = refl
put_in_gap [] [] key value (suc at) n gap = absurd (omega (arith, gap.within))
put_in_gap [] (v ∷ values) key value at n gap = absurd (omega arith)
put_in_gap (k ∷ keys) [] key value at n gap = absurd (omega arith)
put_in_gap (k ∷ keys) (v ∷ values) key value zero n gap = grind (arith, nat_tests, gap.above 0 (omega arith) (omega arith))
put_in_gap (k ∷ keys) (v ∷ values) key value (suc at) n gap =
    grind (arith, nat_tests, gap.below 0 (omega arith), put_in_gap keys values key value at (omega arith) (gap_rest k keys key at gap))

-- to take out a key that is not there changes nothing
pub take_out_absent : (key : ℕ) (m : Map) → has_key key m ≡ false → take_out key m ≡ m
take_out_absent key [] absent = refl
take_out_absent key (e ∷ m) absent = grind (arith, nat_tests, take_out_absent key m)

module _ (keys values : List ℕ) (in_step : InStep keys values) (key at : ℕ) where
  -- they stay in step where the value of a key is written
  pub in_step_after_set : (value : ℕ) → IsPlace keys key at → InStep keys (set values at value)
  in_step_after_set value place =
      (length-set values at value ∙ in_step.0, subst IsMap (put_at_place keys values key value at in_step.0 place) (put_is_map key value _ in_step.1))

  -- where a key goes into its gap
  pub in_step_after_insert : (value : ℕ) → IsGap keys key at → InStep (insert keys at key) (insert values at value)
  in_step_after_insert value gap =
      let keys_more = length-insert keys at key gap.within in
      let values_more = length-insert values at value (omega (arith, gap.within, in_step.0)) in
      (omega (arith, in_step.0), subst IsMap (put_in_gap keys values key value at in_step.0 gap) (put_is_map key value _ in_step.1))

  -- and where a key is removed
  pub in_step_after_remove : IsPlace keys key at → InStep (remove keys at) (remove values at)
  in_step_after_remove place =
      let keys_less = length-remove keys at place.within in
      let values_less = length-remove values at (omega (arith, place.within, in_step.0)) in
      (omega (arith, in_step.0), subst IsMap (take_out_at_place keys values key at in_step.0 place) (take_out_is_map key _ in_step.1))
