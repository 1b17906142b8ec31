-- Entries that are written into a room one after another.
use Rattle.std.proofs.Common.{◌≡◌, ◌≢◌, ℕ, suc, ◌+◌, ◌-◌, ◌<◌, ◌≤◌, List, [], ◌∷◌, ◌++◌, map, take, drop, set, length, get_or, Option, Some, None}
use Rattle.std.proofs.Common.{refl, sym, ap, ◌∙◌, arith}
use Rattle.std.proofs.lemmas.List.{append_assoc, map-append, length-map, length-drop, length-take-le, set_at, drop_more, take_more, take_all, drop_all}
use Rattle.set_model.specs.Catalogue.{Map, IsMap}
use Rattle.set_seats.specs.declared.walk.KeyValue.{KeyValue}
use Rattle.set_seats.specs.Walks.{Writes, as_entry, entries_from, first_entry, first_key}
use Rattle.set_seats.proofs.EntriesFrom.{next_at}

-- so many of the entries stand in the room, and this one comes next
pub record IsFilled (m : Map) (before after : List KeyValue) (done : ℕ) (next : Option KeyValue) : Type 0 where
  pub few : done ≤ length before
  pub some : done ≤ length m
  pub written : after ≡ map as_entry (take done m) ++ drop done before
  pub next_is : next ≡ first_entry (drop done m)

-- which entry is the first
first_is : (x : KeyValue) (f : Map) → Some x ≡ first_entry f → (e : ℕ × ℕ) × (rest : Map) × (f ≡ e ∷ rest) × (x ≡ as_entry e)
first_is x [] q = absurd (cc)
first_is x (e ∷ rest) q = (e, rest, refl, cc)

-- one more entry is written
module _ (all : Map) (before after : List KeyValue) (n : ℕ) (x : KeyValue) (i : IsFilled all before after n (Some x)) (more : n < length before)
    (e : ℕ × ℕ) (rest : Map) (q : drop n all ≡ e ∷ rest) (is : x ≡ as_entry e) where
  pub within : n < length all
  within = let long : length all - n ≡ suc (length rest) = sym (length-drop n all) ∙ ap length q in omega arith

  entry_there : get_or all n e ≡ e
  entry_there = let both : get_or all n e ∷ drop (n + 1) all ≡ e ∷ rest = sym (drop_more all n e within) ∙ q in cc

  taken : map as_entry (take (n + 1) all) ≡ map as_entry (take n all) ++ x ∷ []
  taken =
      ap (map as_entry) (take_more all n e within) ∙ map-append as_entry (take n all) (get_or all n e ∷ [])
      ∙ ap (λ (y : KeyValue). map as_entry (take n all) ++ y ∷ []) (ap as_entry entry_there ∙ sym is)

  long : length (map as_entry (take n all)) ≡ n
  long = length-map (take n all) as_entry ∙ length-take-le n all i.some

  pub one_more : set after n x ≡ map as_entry (take (n + 1) all) ++ drop (n + 1) before
  one_more =
      ap (λ (xs : List KeyValue). set xs n x) (i.written ∙ ap (λ (ys : List KeyValue). map as_entry (take n all) ++ ys) (drop_more before n x more))
      ∙ set_at (map as_entry (take n all)) (get_or before n x) (drop (n + 1) before) x n long
      ∙ sym (append_assoc (map as_entry (take n all)) (x ∷ []) (drop (n + 1) before))
      ∙ ap (λ (xs : List KeyValue). xs ++ drop (n + 1) before) (sym taken)

-- One more entry is written, and the next one is known.
pub filled_more : (k : ℕ) (m now : Map) (before after : List KeyValue) (n : ℕ) (x : KeyValue) (next : Option KeyValue) → IsMap m
    → IsFilled (entries_from k m) before after n (Some x) → n ≢ length before → now ≡ m → next ≡ first_entry (entries_from (x.key + 1) now)
    → IsFilled (entries_from k m) before (set after n x) (n + 1) next
filled_more k m now before after n x next r i apart same is =
    let few : n ≤ length before = i.few in
    let more : n < length before = omega arith in
    let all : Map = entries_from k m in
    let h = first_is x (drop n all) i.next_is in
    let lt : n < length all = within all before after n x i more h.0 h.1 h.2 h.3 in
    let keys : x.key ≡ h.0.0 = ap (λ (y : KeyValue). y.key) h.3 in
    record {
      few = omega (arith, more);
      some = omega (arith, lt);
      written = one_more all before after n x i more h.0 h.1 h.2 h.3;
      next_is = is ∙ ap (λ (u : Map). first_entry (entries_from (x.key + 1) u)) same ∙ ap (λ (j : ℕ). first_entry (entries_from (j + 1) m)) keys
          ∙ ap first_entry (next_at k n m h.1 h.0 r h.2);
    }

none_left : (f : Map) → None ≡ first_entry f → f ≡ []
none_left [] q = refl
none_left (e ∷ f) q = absurd (cc)

key_of_first : (x : KeyValue) (f : Map) → Some x ≡ first_entry f → Some x.key ≡ first_key f
key_of_first x [] q = absurd (cc)
key_of_first x (e ∷ f) q = let same : x ≡ as_entry e = cc in ap (λ (y : KeyValue). Some y.key) same

-- All entries were written.
pub filled_all : (m : Map) (before after : List KeyValue) (n : ℕ) → IsFilled m before after n None → Writes m before after n None
filled_all m before after n i =
    let none : drop n m ≡ [] = none_left (drop n m) i.next_is in
    let long : length m - n ≡ 0 = sym (length-drop n m) ∙ ap length none in
    let some : n ≤ length m = i.some in
    let few : n ≤ length before = i.few in
    let end : n ≡ length m = omega arith in
    record {
      written = i.written
          ∙ ap (λ (t : Map). map as_entry t ++ drop n before) (take_all n m (omega arith) ∙ sym (take_all (length before) m (omega arith)))
          ∙ ap (λ (j : ℕ). map as_entry (take (length before) m) ++ drop j before) end;
      count = omega arith;
      more = ap first_key (sym (drop_all (length before) m (omega arith)));
    }

-- The room is full, and an entry is left.
pub filled_room : (m : Map) (before after : List KeyValue) (n : ℕ) (x : KeyValue) → IsFilled m before after n (Some x) → n ≡ length before
    → Writes m before after n (Some x.key)
filled_room m before after n x i full =
    let some : n ≤ length m = i.some in
    record {
      written = i.written ∙ ap (λ (j : ℕ). map as_entry (take j m) ++ drop n before) full
          ∙ ap (λ (xs : List KeyValue). map as_entry (take (length before) m) ++ xs)
          (drop_all n before (omega arith) ∙ sym (drop_all (length m) before (omega arith)));
      count = omega arith;
      more = key_of_first x (drop n m) i.next_is ∙ ap (λ (j : ℕ). first_key (drop j m)) full;
    }
