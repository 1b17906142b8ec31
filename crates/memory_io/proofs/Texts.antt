-- The text of a name, at the first place that has it.
use Rattle.std.proofs.Common.{◌≡◌, ℕ, ◌<◌, ◌+◌, ◌++◌, take, ◌∷◌, List, length, get_or, drop, map, true, refl, sym, ap}
use Rattle.std.proofs.Common.{◌∙◌, ◌-◌, min, arith, length-drop, IfSome, Option, Some, string_bytes, slice_get}
use Rattle.std.specs.Str.{bytes_eq}
use Rattle.std.specs.Option.{option_map}
use Rattle.std.proofs.lemmas.List.{at_drop_more, take-append-drop, take_at, drop-drop, nil_from_length}
use Rattle.std.specs.Io.KnownBytes.{Consumes, IsAtEnd}
use Rattle.std.proofs.lemmas.Option.{slice_get-map, slice_get_read}
use Rattle.memory_io.specs.declared.memory.MemText.{MemText}
use Rattle.memory_io.specs.Memory.{text_of, named, left_from}

head_is : (t : MemText) (ts : List MemText) (name : List ℕ) → bytes_eq (string_bytes t.name) name ≡ true
    → text_of (map named (t ∷ ts)) name ≡ Some t.bytes.items
head_is t ts name e = rw e

pub text_of_at : (ts : List MemText) (name : List ℕ) (i : ℕ) (t : MemText) → i < length ts → t ≡ get_or ts i t → bytes_eq (string_bytes t.name) name ≡ true
    → text_of (map named ts) name ≡ text_of (map named (drop i ts)) name
    → text_of (map named ts) name ≡ option_map (λ u. drop 0 u.1) (slice_get (map named ts) i)
text_of_at ts name i t lt at e inv =
    let here : text_of (map named (drop i ts)) name ≡ Some t.bytes.items =
    at_drop_more (λ us. text_of (map named us) name) ts i t lt
    ∙ (let e2 : bytes_eq (string_bytes (get_or ts i t).name) name ≡ true = (rw (sym at) e) in head_is (get_or ts i t) _ name e2
    ∙ ap (λ (u : MemText). Some u.bytes.items) (sym at)) in
    let there : option_map (λ (u : List ℕ × List ℕ). drop 0 u.1) (slice_get (map named ts) i) ≡ Some t.bytes.items =
    ap (option_map (λ (u : List ℕ × List ℕ). drop 0 u.1)) (slice_get-map named ts i ∙ ap (option_map named) (slice_get_read ts _ i t refl lt at)) in
    inv ∙ here ∙ sym there

pub moved_whole : (bs part into : List ℕ) (p n : ℕ) → length part ≡ n → part ≡ take n (drop p bs) → drop p bs ≡ take n (part ++ drop n into) ++ drop (p + n) bs
moved_whole bs part into p n len e =
    let back : drop p bs ≡ take n (drop p bs) ++ drop n (drop p bs) = sym (take-append-drop n (drop p bs)) in
    let front : take n (part ++ drop n into) ≡ take n (drop p bs) = take_at part (drop n into) n len ∙ e in
    let rest : drop n (drop p bs) ≡ drop (p + n) bs = drop-drop n p bs in
    back ∙ (rw (front, rest) refl)

pub left_at : (ts : List MemText) (i p : ℕ) (t : MemText) → i < length ts → t ≡ get_or ts i t
    → left_from (map named ts) (Some i) p ≡ Some (drop p t.bytes.items)
left_at ts i p t lt at =
    ap (option_map (λ (u : List ℕ × List ℕ). drop p u.1)) (slice_get-map named ts i ∙ ap (option_map named) (slice_get_read ts _ i t refl lt at))

-- the bytes that a read of n moved
pub consumed : (old new : Option (List ℕ)) (bs got : List ℕ) (p n most room : ℕ) → old ≡ Some (drop p bs) → new ≡ Some (drop (p + n) bs)
    → drop p bs ≡ got ++ drop (p + n) bs → n ≡ min (length bs - p) (min most room) → 0 < most → Consumes old new got × (n ≡ 0 → 0 < room → IsAtEnd new)
consumed old new bs got p n most room o w e count pos =
    rw (o, w) (e, λ (none : n ≡ 0) (some : 0 < room). nil_from_length (drop (p + n) bs) (omega (arith, length-drop (p + n) bs)))

pub counted : (old : Option (List ℕ)) (bs : List ℕ) (p n most room : ℕ) → old ≡ Some (drop p bs) → n ≡ min (length bs - p) (min most room)
    → IfSome old (λ left. n ≡ min (length left) (min most room))
counted old bs p n most room o count = rw (o, length-drop p bs) count
