-- Ids in which the numbers of a seat don't fall, and which count as those of a script, are in order those of the script.
use Rattle.std.proofs.Common.{◌≡◌, ◌≢◌, ℕ, zero, suc, ◌+◌, ◌<◌, ◌≤◌, inl, inr, Bool, true, false, ◌&&◌, cond, eqb, eqb-true, eq-eqb, ne_eqb, List, [], ◌∷◌}
use Rattle.std.proofs.Common.{filter, refl, ap, arith}
use Rattle.std.specs.Prelude.{count_by, slice_index_or}
use Rattle.std.specs.List.{AllByRecursion}
use Rattle.std.proofs.lemmas.Bool.{cases_order, and_left, and_right, and_from, eqb-false}
use Rattle.std.proofs.lemmas.List.Sums.{sum_by-append}
use Rattle.set_model.specs.declared.commands.Command.{Command}
use Rattle.run_report.specs.Legal.{ids_from, ids_of}
use Rattle.generated_runs.specs.OneAfterAnother.{one_if}
use Rattle.generated_runs.proofs.told.Counted.{count_cons}

-- a seat and a number
abbrev pub Id : Type 0
Id = ℕ × ℕ

-- whether an id is of this seat, and whether it is this one
abbrev pub is_of : ℕ → Id → Bool
is_of seat id = eqb id.0 seat

abbrev pub is_id : ℕ → ℕ → Id → Bool
is_id seat number id = eqb id.0 seat && eqb id.1 number

-- how often an id is there
abbrev pub times : ℕ → ℕ → List Id → ℕ
times seat number ids = count_by (is_id seat number) ids

pub other_seat : (seat number : ℕ) (id : Id) → id.0 ≢ seat → one_if (is_id seat number id) ≡ 0
other_seat seat number id other = ap one_if (and_left (eqb id.0 seat) (eqb id.1 number) (ne_eqb id.0 seat other))

other_number : (seat number : ℕ) (id : Id) → id.1 ≢ number → one_if (is_id seat number id) ≡ 0
other_number seat number id other = ap one_if (and_right (eqb id.0 seat) (eqb id.1 number) (ne_eqb id.1 number other))

itself : (seat number : ℕ) (id : Id) → id.0 ≡ seat → id.1 ≡ number → one_if (is_id seat number id) ≡ 1
itself seat number id is at =
    ap one_if (and_from (eqb id.0 seat) (eqb id.1 number) (eq-eqb id.0 seat is) (eq-eqb id.1 number at))

-- the ids of a script begin with its first number
none_before : (seat number n : ℕ) (commands : List Command) → n < number → times seat n (ids_from seat number commands) ≡ 0
none_before seat number n [] lt = refl
none_before seat number n (x ∷ xs) lt =
    omega (
      arith,
      count_cons (is_id seat n) (seat, number) (ids_from seat (suc number) xs),
      other_number seat n (seat, number) (λ q. absurd (omega (arith, q, lt))),
      none_before seat (suc number) n xs (omega (arith, lt)),
    )

-- they are of its seat alone
pub none_elsewhere : (seat other number n : ℕ) (commands : List Command) → other ≢ seat → times seat n (ids_from other number commands) ≡ 0
none_elsewhere seat other number n [] differ = refl
none_elsewhere seat other number n (x ∷ xs) differ =
    omega (
      arith,
      count_cons (is_id seat n) (other, number) (ids_from other (suc number) xs),
      other_seat seat n (other, number) differ,
      none_elsewhere seat other (suc number) n xs differ,
    )

-- an id of a seat has no higher number than this one has
abbrev pub IsNoLower : ℕ → ℕ → Id → Type 0
IsNoLower seat number id = id.0 ≡ seat → number ≤ id.1

-- the numbers of a seat don't fall
abbrev pub Rises : ℕ → List Id → Type 0
Rises seat [] = Unit {0}
Rises seat (id ∷ ids) = (id.0 ≡ seat → AllByRecursion (IsNoLower seat id.1) ids) × Rises seat ids

-- no id is below all of them
none_lower : (seat number n : ℕ) (ids : List Id) → n < number → AllByRecursion (IsNoLower seat number) ids → times seat n ids ≡ 0
none_lower seat number n [] lt above = refl
none_lower seat number n (id ∷ ids) lt above = go (is_of seat id) refl (none_lower seat number n ids lt above.1)
  where
    go : (b : Bool) → is_of seat id ≡ b → times seat n ids ≡ 0 → times seat n (id ∷ ids) ≡ 0
    go true e rest =
        let le : number ≤ id.1 = above.0 (eqb-true id.0 seat e) in
        omega (arith, count_cons (is_id seat n) id ids, other_number seat n id (λ q. absurd (omega (arith, q, le, lt))), rest)
    go false e rest = omega (arith, count_cons (is_id seat n) id ids, other_seat seat n id (eqb-false id.0 seat e), rest)

-- the first id of a script is there once more
first_once : (seat number : ℕ) (x : Command) (xs : List Command) → times seat number (ids_from seat number (x ∷ xs)) ≡ 1
first_once seat number x xs =
    omega (
      arith,
      count_cons (is_id seat number) (seat, number) (ids_from seat (suc number) xs),
      itself seat number (seat, number) refl refl,
      none_before seat (suc number) number xs (omega arith),
    )

pub in_order : (seat number : ℕ) (commands : List Command) (ids : List Id) → Rises seat ids
    → ((n : ℕ) → times seat n ids ≡ times seat n (ids_from seat number commands)) → filter (is_of seat) ids ≡ ids_from seat number commands
in_order seat number [] [] rises same = refl
in_order seat number (x ∷ xs) [] rises same = absurd (omega (arith, first_once seat number x xs, same number))
in_order seat number commands (id ∷ ids) rises same = go (is_of seat id) refl (λ from cs like. in_order seat from cs ids rises.1 like)
  where
    skipped : id.0 ≢ seat → (n : ℕ) → times seat n ids ≡ times seat n (ids_from seat number commands)
    skipped other n = omega (arith, same n, count_cons (is_id seat n) id ids, other_seat seat n id other)

    first : id.0 ≡ seat → (cs : List Command) → ((n : ℕ) → times seat n (id ∷ ids) ≡ times seat n (ids_from seat number cs))
        → ((xs : List Command) → ((n : ℕ) → times seat n ids ≡ times seat n (ids_from seat (suc number) xs))
        → filter (is_of seat) ids ≡ ids_from seat (suc number) xs)
        → id ∷ filter (is_of seat) ids ≡ ids_from seat number cs
    first is [] same rest = absurd (omega (arith, same id.1, count_cons (is_id seat id.1) id ids, itself seat id.1 id is refl))
    first is (x ∷ xs) same rest = elim (cases_order id.1 number) [
      | inl at ↦
          let here : id ≡ (seat, number) = λ i. (is i, at i) in
          let others = rest xs (λ n. omega (
            arith,
            same n,
            count_cons (is_id seat n) id ids,
            count_cons (is_id seat n) (seat, number) (ids_from seat (suc number) xs),
            ap (λ j. one_if (is_id seat n j)) here,
          )) in
          (λ i. here i ∷ others i)
      | inr (inl low) ↦
          absurd (omega (arith, same id.1, count_cons (is_id seat id.1) id ids, itself seat id.1 id is refl, none_before seat number id.1 (x ∷ xs) low))
      | inr (inr high) ↦
          absurd (omega (
            arith,
            same number,
            first_once seat number x xs,
            count_cons (is_id seat number) id ids,
            other_number seat number id (λ q. absurd (omega (arith, q, high))),
            none_lower seat id.1 number ids high (rises.0 is),
          ))
    ]

    go : (b : Bool) → is_of seat id ≡ b
        → ((from : ℕ) (cs : List Command) → ((n : ℕ) → times seat n ids ≡ times seat n (ids_from seat from cs))
        → filter (is_of seat) ids ≡ ids_from seat from cs)
        → cond b (id ∷ filter (is_of seat) ids) (filter (is_of seat) ids) ≡ ids_from seat number commands
    go true e rest = first (eqb-true id.0 seat e) commands same (rest (suc number))
    go false e rest = rest number commands (skipped (eqb-false id.0 seat e))

-- the ids of later scripts are of later seats
none_later : (seat from n : ℕ) (scripts : List (List Command)) → seat < from → times seat n (ids_of from scripts) ≡ 0
none_later seat from n [] lt = refl
none_later seat from n (script ∷ scripts) lt =
    omega (
      arith,
      sum_by-append (λ id. cond (is_id seat n id) 1 0) (ids_from from 1 script) (ids_of (suc from) scripts),
      none_elsewhere seat from 1 n script (λ q. absurd (omega (arith, q, lt))),
      none_later seat (suc from) n scripts (omega (arith, lt)),
    )

-- so the ids of a seat among those of the scripts are those of its script
pub times_of : (seat from i n : ℕ) (scripts : List (List Command)) → seat ≡ from + i
    → times seat n (ids_of from scripts) ≡ times seat n (ids_from seat 1 (slice_index_or scripts i []))
times_of seat from i n [] is = refl
times_of seat from zero n (script ∷ scripts) is =
    let same : from ≡ seat = omega (arith, is) in
    omega (
      arith,
      sum_by-append (λ id. cond (is_id seat n id) 1 0) (ids_from from 1 script) (ids_of (suc from) scripts),
      ap (λ s. times seat n (ids_from s 1 script)) same,
      none_later seat (suc from) n scripts (omega (arith, is)),
    )
times_of seat from (suc i) n (script ∷ scripts) is =
    omega (
      arith,
      sum_by-append (λ id. cond (is_id seat n id) 1 0) (ids_from from 1 script) (ids_of (suc from) scripts),
      none_elsewhere seat from 1 n script (λ q. absurd (omega (arith, q, is))),
      times_of seat (suc from) i n scripts (omega (arith, is)),
    )
