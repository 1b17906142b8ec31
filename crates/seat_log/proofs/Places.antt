-- The notes from a place on, and one note, as loops and stores change them.
use Rattle.std.proofs.Common.{◌≡◌, ◌≢◌, ◌⊎◌, ℕ, zero, suc, ◌+◌, ◌-◌, ◌<◌, ◌≤◌, List, [], ◌∷◌, ◌++◌}
use Rattle.std.proofs.Common.{length, drop, refl, sym, ap, ◌∙◌, subst, inl, inr, ⊎_elim, arith, Some, slice_get, slice_index_or}
use Rattle.std.specs.Prelude.{slice_set}
use Rattle.std.proofs.lemmas.List.{length-map, length-set}
use Rattle.seat_log.specs.declared.version.Note.{Note}
use Rattle.seat_log.specs.Notes.{from_place, at_place}

-- one turn of a loop from a place on
pub from_step : (f : Note → Note) (i : ℕ) (ns : List Note) (d : Note) → i < length ns
    → from_place f i ns ≡ from_place f (suc i) (slice_set ns i (f (slice_index_or ns i d)))
from_step f zero [] d lt = absurd (omega arith)
from_step f zero (n ∷ ns) d lt = refl
from_step f (suc i) [] d lt = absurd (omega arith)
from_step f (suc i) (n ∷ ns) d lt = ap (λ l. n ∷ l) (from_step f i ns d (omega arith))

-- nothing is left at the end
pub from_end : (f : Note → Note) (ns : List Note) → from_place f (length ns) ns ≡ ns
from_end f [] = refl
from_end f (n ∷ ns) = ap (λ l. n ∷ l) (from_end f ns)

-- there are as many notes
pub length-from_place : (f : Note → Note) (k : ℕ) (ns : List Note) → length (from_place f k ns) ≡ length ns
length-from_place f zero ns = length-map ns f
length-from_place f (suc k) [] = refl
length-from_place f (suc k) (n ∷ ns) = ap suc (length-from_place f k ns)

-- a store of one
pub at_set : (f : Note → Note) (i : ℕ) (ns : List Note) (d : Note) → i < length ns → slice_set ns i (f (slice_index_or ns i d)) ≡ at_place f i ns
at_set f i [] d lt = absurd (omega arith)
at_set f zero (n ∷ ns) d lt = refl
at_set f (suc i) (n ∷ ns) d lt = ap (λ l. n ∷ l) (at_set f i ns d (omega arith))

pub length-at_place : (f : Note → Note) (i : ℕ) (ns : List Note) → length (at_place f i ns) ≡ length ns
length-at_place f i [] = refl
length-at_place f zero (n ∷ ns) = refl
length-at_place f (suc i) (n ∷ ns) = ap suc (length-at_place f i ns)

-- the note at a place from k on is f of the one before, and before k it is that one
pub from_before : (f : Note → Note) (k i : ℕ) (ns : List Note) (m : Note) → slice_get (from_place f k ns) i ≡ Some m
    → (n : Note) × (slice_get ns i ≡ Some n) × (((k ≤ i) × (m ≡ f n)) ⊎ ((i < k) × (m ≡ n)))
from_before f zero i [] m e = absurd (cc)
from_before f zero zero (n ∷ ns) m e = let g : Some (f n) ≡ Some m = e in (n, refl, inl (omega arith, cc))
from_before f zero (suc i) (n ∷ ns) m e =
    let r = from_before f zero i ns m e in
    (r.0, r.1, ⊎_elim (λ a. inl (omega arith, a.1)) (λ b. let lt = b.0 in absurd (omega arith)) r.2)
from_before f (suc k) i [] m e = absurd (cc)
from_before f (suc k) zero (n ∷ ns) m e = (n, refl, inr (omega arith, (let g : Some n ≡ Some m = e in cc)))
from_before f (suc k) (suc i) (n ∷ ns) m e =
    let r = from_before f k i ns m e in
    (r.0, r.1, ⊎_elim (λ a. let le = a.0 in inl (omega arith, a.1)) (λ b. let lt = b.0 in inr (omega arith, b.1)) r.2)

-- the note at a changed place is f of the one before, and elsewhere it is that one
pub at_before : (f : Note → Note) (k i : ℕ) (ns : List Note) (m : Note) → slice_get (at_place f k ns) i ≡ Some m
    → (n : Note) × (slice_get ns i ≡ Some n) × (((i ≡ k) × (m ≡ f n)) ⊎ ((i ≢ k) × (m ≡ n)))
at_before f k i [] m e = absurd (cc)
at_before f zero zero (n ∷ ns) m e = let g : Some (f n) ≡ Some m = e in (n, refl, inl (refl, cc))
at_before f zero (suc i) (n ∷ ns) m e = (m, e, inr ((λ z. omega arith), refl))
at_before f (suc k) zero (n ∷ ns) m e = (n, refl, inr ((λ z. omega arith), (let g : Some n ≡ Some m = e in cc)))
at_before f (suc k) (suc i) (n ∷ ns) m e =
    let r = at_before f k i ns m e in
    (r.0, r.1, ⊎_elim (λ a. inl (ap suc a.0, a.1)) (λ b. inr ((λ z. b.0 (omega arith)), b.1)) r.2)

-- the note at a place with one more at the end
pub push_before : (ns : List Note) (y : Note) (i : ℕ) (m : Note) → slice_get (ns ++ y ∷ []) i ≡ Some m
    → ((i < length ns) × (slice_get ns i ≡ Some m)) ⊎ ((i ≡ length ns) × (m ≡ y))
push_before [] y zero m e = let g : Some y ≡ Some m = e in inr (refl, cc)
push_before [] y (suc i) m e = absurd (cc)
push_before (n ∷ ns) y zero m e = inl (omega arith, e)
push_before (n ∷ ns) y (suc i) m e = ⊎_elim (λ a. let lt = a.0 in inl (omega arith, a.1)) (λ b. inr (ap suc b.0, b.1)) (push_before ns y i m e)

-- a place with a note is one of the list
pub get_within : (ns : List Note) (i : ℕ) (m : Note) → slice_get ns i ≡ Some m → i < length ns
get_within [] i m e = absurd (cc)
get_within (n ∷ ns) zero m e = omega arith
get_within (n ∷ ns) (suc i) m e = let lt = get_within ns i m e in omega arith

-- the note at a place of what is left
pub get_dropped : (k i : ℕ) (ns : List Note) → slice_get (drop k ns) i ≡ slice_get ns (k + i)
get_dropped zero i ns = ap (slice_get ns) (let e : i ≡ 0 + i = omega arith in e)
get_dropped (suc k) i [] = ap (slice_get []) (let e : suc (k + i) ≡ suc k + i = omega arith in e)
get_dropped (suc k) i (n ∷ ns) = get_dropped k i ns ∙ ap (slice_get (n ∷ ns)) (let e : suc (k + i) ≡ suc k + i = omega arith in e)

-- so a note from k on is one of what is left
pub get_left : (k i : ℕ) (ns : List Note) (n : Note) → k ≤ i → slice_get ns i ≡ Some n → slice_get (drop k ns) (i - k) ≡ Some n
get_left k i ns n le e = get_dropped k (i - k) ns ∙ ap (slice_get ns) (let place : k + (i - k) ≡ i = omega arith in place) ∙ e

-- a loop that sets f of each note from a place on: what it has to do still from i on comes to what it is to do in all
pub record GoesFrom (f : Note → Note) (from : ℕ) (before : List Note) (i : ℕ) (ns : List Note) : Type 0 where
  pub left : from_place f i ns ≡ from_place f from before
  pub long : length ns ≡ length before
  pub within : i ≤ length ns

-- it begins there
pub goes_first : (f : Note → Note) (from : ℕ) (before : List Note) → from ≤ length before → GoesFrom f from before from before
goes_first f from before le = record { left = refl; long = refl; within = le }

-- each turn, by the note that was there
pub goes_on : (f : Note → Note) (from : ℕ) (before : List Note) (i : ℕ) (ns : List Note) (n : Note) → n ≡ slice_index_or ns i n → i < length before
    → GoesFrom f from before i ns → GoesFrom f from before (i + 1) (slice_set ns i (f n))
goes_on f from before i ns n there lt g =
    let same = g.long in
    let step = from_step f i ns n (omega arith) in
    subst (λ (m : Note). GoesFrom f from before (i + 1) (slice_set ns i (f m))) (sym there) (record {
      left = ap (λ (j : ℕ). from_place f j (slice_set ns i (f (slice_index_or ns i n)))) (let e : i + 1 ≡ suc i = omega arith in e) ∙ sym step ∙ g.left;
      long = length-set ns i (f (slice_index_or ns i n)) ∙ g.long;
      within = (let e = length-set ns i (f (slice_index_or ns i n)) in omega arith);
    })

-- and the end
pub goes_last : (f : Note → Note) (from : ℕ) (before : List Note) (i : ℕ) (ns : List Note) → length before ≤ i → GoesFrom f from before i ns
    → ns ≡ from_place f from before
goes_last f from before i ns late g =
    let long = g.long in
    let within = g.within in
    let end : i ≡ length ns = omega arith in
    sym (from_end f ns) ∙ ap (λ (j : ℕ). from_place f j ns) (sym end) ∙ g.left
