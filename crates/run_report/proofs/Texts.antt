-- One step of each loop that writes a text.
use Rattle.std.proofs.Common.{
  ◌≡◌,
  ℕ,
  ◌+◌,
  ◌<◌,
  ◌≤◌,
  List,
  [],
  ◌∷◌,
  ◌++◌,
  map,
  length,
  get_or,
  take,
  drop,
  refl,
  ap,
  ◌∙◌,
  add-one,
  append_assoc,
  codes,
  Result,
  Ok,
  Err,
  OnOk,
  is_ok,
  if◌then◌else◌,
  arith,
}
use Rattle.std.specs.declared.alloc.AllocError.{AllocError}
use Rattle.std.specs.List.{flat_map, zip}
use Rattle.std.proofs.lemmas.List.{at_drop_more, take_more, take_all, flat_map_more}
use Rattle.std.proofs.lemmas.Slice.Zip.{length-zip, get_or-zip}
use Rattle.mv_history.specs.declared.answers.LogTable.{LogTable}
use Rattle.set_model.specs.Catalogue.{Map}
use Rattle.set_model.specs.Names.{name_text}
use Rattle.run_report.specs.Text.{text_of_key, text_of_set, text_of_table, text_of_tables}

-- the keys of a map beside its values are the map
pub zip_of_parts : (m : Map) → zip (map (λ (e : ℕ × ℕ). e.0) m) (map (λ (e : ℕ × ℕ). e.1) m) ≡ m
zip_of_parts [] = refl
zip_of_parts (e ∷ m) = ap (λ (rest : Map). e ∷ rest) (zip_of_parts m)

-- one key more
pub keys_more : (keys values old before now : List ℕ) (i : ℕ) → i < length keys → length values ≡ length keys
    → before ≡ old ++ flat_map text_of_key (take i (zip keys values)) → now ≡ before ++ text_of_key (get_or keys i 0, get_or values i 0)
    → now ≡ old ++ flat_map text_of_key (take (i + 1) (zip keys values))
keys_more keys values old before now i lt n told grown =
    let within : i < length (zip keys values) = rw (length-zip keys values, n) (omega arith) in
    let more = take_more (zip keys values) i (0, 0) within in
    let pair = get_or-zip keys values i (0, 0) lt (omega (arith, n)) in
    grown ∙ rw (told, more, pair) (flat_map_more text_of_key old (take i (zip keys values)) (get_or keys i 0, get_or values i 0))

-- no key is left
pub keys_all : (keys values old now : List ℕ) (i : ℕ) → length keys ≤ i → length values ≡ length keys
    → now ≡ old ++ flat_map text_of_key (take i (zip keys values)) → now ≡ old ++ flat_map text_of_key (zip keys values)
keys_all keys values old now i past n told = rw (take_all i (zip keys values) (rw (length-zip keys values, n) (omega arith))) at told

-- the text of a set that isn't empty
set_whole : (name : ℕ) (m : Map) (keys values old : List ℕ) → keys ≡ map (λ (e : ℕ × ℕ). e.0) m → values ≡ map (λ (e : ℕ × ℕ). e.1) m → 0 < length keys
    → ((old ++ name_text name) ++ flat_map text_of_key (zip keys values)) ++ codes "\n" ≡ old ++ text_of_set name m
set_whole name [] keys values old first second some = absurd (omega (arith, ap length first))
set_whole name (e ∷ m) keys values old first second some =
    let all : zip keys values ≡ e ∷ m = rw (first, second) (zip_of_parts (e ∷ m)) in
    rw all (simp append_assoc)

pub set_told : (name : ℕ) (m : Map) (keys values old named keyed now : List ℕ) (result : Result (Unit {0}) AllocError) → keys ≡ map (λ (e : ℕ × ℕ). e.0) m
    → values ≡ map (λ (e : ℕ × ℕ). e.1) m → 0 < length keys → named ≡ old ++ name_text name → keyed ≡ named ++ flat_map text_of_key (zip keys values)
    → now ≡ (if is_ok result then keyed ++ codes "\n" else keyed) → OnOk result (now ≡ old ++ text_of_set name m)
set_told name m keys values old named keyed now (Ok u) first second some name_told keys_told end_told = end_told
    ∙ rw (keys_told, name_told) (set_whole name m keys values old first second some)
set_told name m keys values old named keyed now (Err e) first second some name_told keys_told end_told = tt

-- one table more
pub tables_more : (tables : List LogTable) (seat : ℕ) (table : LogTable) → seat < length tables → table ≡ get_or tables seat table
    → text_of_tables seat (drop seat tables) ≡ text_of_table seat table ++ text_of_tables (seat + 1) (drop (seat + 1) tables)
tables_more tables seat table lt read = at_drop_more (text_of_tables seat) tables seat table lt ∙ rw (← read, add-one seat) refl
