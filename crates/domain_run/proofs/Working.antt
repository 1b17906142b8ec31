-- What workers need, and what they did.
use Rattle.std.proofs.Common.{◌≡◌, ℕ, zero, suc, ◌+◌, ◌<◌, List, [], ◌∷◌, ◌++◌, length, map, take, drop, get_or, All, refl, sym, ap, ◌∙◌, subst, arith}
use Rattle.std.specs.List.{AllZip}
use Rattle.std.proofs.lemmas.List.{take_at}
use Rattle.std.proofs.lemmas.List.Elements.{All-nil, All-cons}
use mathlib.Core.Option.{some}
use lib.ListN.{get_elem?}
use Rattle.mv_core.proofs.Terms.{some-injective}
use Rattle.mv_history.specs.Meaning.{Seat}
use Rattle.mvrlu.specs.Whole.{Whole}
use Rattle.domain_loan.specs.Met.{AllContinue, HasMet}
use Rattle.domain_loan.specs.New.{AreFrom}
use Rattle.domain_run.specs.Runs.{AllDid, AreReady, HasRun}

all_ready : {T : Type 0} (ready : Seat → T → Type 0) (of_number : ℕ → Seat) (number : ℕ) (seats : List Seat) (ts : List T)
    → AreFrom of_number number seats → length ts ≡ length seats
    → ((k : ℕ) (t : T) → get_elem? ts k ≡ some t → ready (of_number (number + k)) t) → AllZip ready seats ts
all_ready ready of_number number [] [] new many are = tt
all_ready ready of_number number [] (t ∷ ts) new many are = absurd (omega (arith, many))
all_ready ready of_number number (s ∷ seats) [] new many are = absurd (omega (arith, many))
all_ready ready of_number number (s ∷ seats) (t ∷ ts) new many are =
    let here : of_number (number + 0) ≡ s = (let same : number + 0 ≡ number = omega arith in ap of_number same ∙ sym new.0) in (
      subst (λ r. ready r t) here (are 0 t refl),
      all_ready ready of_number (suc number) seats ts new.1 (omega (arith, many)) (λ k u e.
          let next : number + suc k ≡ suc number + k = omega arith in
          subst (λ n. ready (of_number n) u) next (are (suc k) u e)),
    )

-- each task is ready for the seat of its place
pub seats_ready : {T : Type 0} (ready : Seat → T → Type 0) (of_number : ℕ → Seat) (seats : List Seat) (ts : List T) → AreFrom of_number 0 seats
    → length ts ≡ length seats → AreReady ready of_number ts → AllZip ready seats ts
seats_ready ready of_number seats ts new many are =
    all_ready ready of_number 0 seats ts new many (λ k t e.
    let same : k ≡ 0 + k = omega arith in
    subst (λ n. ready (of_number n) t) same (are k t e))

-- one for each
pub zip_long : {A B : Type 0} (R : A → B → Type 0) (xs : List A) (ys : List B) → AllZip R xs ys → length ys ≡ length xs
zip_long R [] [] are = refl
zip_long R [] (y ∷ ys) are = absurd are
zip_long R (x ∷ xs) [] are = absurd are
zip_long R (x ∷ xs) (y ∷ ys) are = omega (arith, zip_long R xs ys are.1)

module _ {W S T : Type 0} (store : W → S) (task : W → T) (seat_of : S → Seat) where
  -- so each worker may run
  pub workers_ready : (ready : Seat → T → Type 0) (ws : List W) → AllZip ready (map seat_of (map store ws)) (map task ws)
      → All (λ w. ready (seat_of (store w)) (task w)) ws
  workers_ready ready [] are = All-nil (λ w. ready (seat_of (store w)) (task w))
  workers_ready ready (w ∷ ws) are = All-cons (λ v. ready (seat_of (store v)) (task v)) w ws are.0 (workers_ready ready ws are.1)

  module _ (did : Seat → Seat → T → T → Type 0) where
    -- the seats of workers that have run went on
    pub workers_went_on : (os ns : List W) → AllZip (λ o n. HasRun did (seat_of (store o)) (seat_of (store n)) (task o) (task n)) os ns
        → AllContinue (map seat_of (map store os)) (map seat_of (map store ns))
    workers_went_on [] [] ran = tt
    workers_went_on [] (n ∷ ns) ran = absurd ran
    workers_went_on (o ∷ os) [] ran = absurd ran
    workers_went_on (o ∷ os) (n ∷ ns) ran = (ran.0.0, workers_went_on os ns ran.1)

    -- and each task did what it says
    pub workers_did : (os ns : List W) → AllZip (λ o n. HasRun did (seat_of (store o)) (seat_of (store n)) (task o) (task n)) os ns
        → AllDid did (map seat_of (map store os)) (map seat_of (map store ns)) (map task os) (map task ns)
    workers_did [] [] ran = tt
    workers_did [] (n ∷ ns) ran = absurd ran
    workers_did (o ∷ os) [] ran = absurd ran
    workers_did (o ∷ os) (n ∷ ns) ran = (ran.0.1, workers_did os ns ran.1)

-- two rows stand so to each other whose places do
pub each_zip : {X : Type 0} (P : X → X → Type 0) (os ns : List X) → length ns ≡ length os
    → ((i : ℕ) (d : X) → i < length os → P (get_or os i d) (get_or ns i d)) → AllZip P os ns
each_zip P [] [] len h = tt
each_zip P [] (n ∷ ns) len h = absurd (omega (arith, len))
each_zip P (o ∷ os) [] len h = absurd (omega (arith, len))
each_zip P (o ∷ os) (n ∷ ns) len h = (h 0 o (omega arith), each_zip P os ns (omega (arith, len)) (λ i d lt. h (suc i) d (omega (arith, lt))))

-- what a slice of all of a row leaves of it
pub written_back : {A : Type 0} (ns ws : List A) (n : ℕ) → n ≡ length ws → length ns ≡ length ws → take n (ns ++ drop (length ns) ws) ≡ ns
written_back ns ws n e len = take_at ns (drop (length ns) ws) n (len ∙ sym e)

module _ {T : Type 0} (did : Seat → Seat → T → T → Type 0) where
  -- each task comes back
  pub did_long : (firsts met : List Seat) (olds news : List T) → AllDid did firsts met olds news → length news ≡ length olds
  did_long [] [] [] [] ran = refl
  did_long [] [] [] (n ∷ news) ran = absurd ran
  did_long [] [] (o ∷ olds) news ran = absurd ran
  did_long [] (s ∷ met) olds news ran = absurd ran
  did_long (f ∷ firsts) [] olds news ran = absurd ran
  did_long (f ∷ firsts) (s ∷ met) [] news ran = absurd ran
  did_long (f ∷ firsts) (s ∷ met) (o ∷ olds) [] ran = absurd ran
  did_long (f ∷ firsts) (s ∷ met) (o ∷ olds) (n ∷ news) ran = omega (arith, did_long firsts met olds news ran.1)

  -- and for each there is a seat
  pub did_each : (firsts met : List Seat) (olds news : List T) → AllDid did firsts met olds news → length met ≡ length olds
  did_each [] [] [] [] ran = refl
  did_each [] [] [] (n ∷ news) ran = absurd ran
  did_each [] [] (o ∷ olds) news ran = absurd ran
  did_each [] (s ∷ met) olds news ran = absurd ran
  did_each (f ∷ firsts) [] olds news ran = absurd ran
  did_each (f ∷ firsts) (s ∷ met) [] news ran = absurd ran
  did_each (f ∷ firsts) (s ∷ met) (o ∷ olds) [] ran = absurd ran
  did_each (f ∷ firsts) (s ∷ met) (o ∷ olds) (n ∷ news) ran = omega (arith, did_each firsts met olds news ran.1)

  -- the task of a number, on the seat of that number
  pub did_at : (of_number : ℕ → Seat) (w : Whole) (number : ℕ) (firsts met : List Seat) (olds news : List T) → AreFrom of_number number firsts
      → AllZip (HasMet w) firsts met → AllDid did firsts met olds news
      → (k : ℕ) (n : T) (s : Seat) → get_elem? news k ≡ some n → get_elem? met k ≡ some s
      → (o : T) × (get_elem? olds k ≡ some o) × HasMet w (of_number (number + k)) s × did (of_number (number + k)) s o n
  did_at of_number w number [] [] [] [] new has ran k n s e f = absurd (cc)
  did_at of_number w number [] [] [] (m ∷ news) new has ran k n s e f = absurd ran
  did_at of_number w number [] [] (o ∷ olds) news new has ran k n s e f = absurd ran
  did_at of_number w number [] (r ∷ met) olds news new has ran k n s e f = absurd has
  did_at of_number w number (g ∷ firsts) [] olds news new has ran k n s e f = absurd has
  did_at of_number w number (g ∷ firsts) (r ∷ met) [] news new has ran k n s e f = absurd ran
  did_at of_number w number (g ∷ firsts) (r ∷ met) (o ∷ olds) [] new has ran k n s e f = absurd ran
  did_at of_number w number (g ∷ firsts) (r ∷ met) (o ∷ olds) (m ∷ news) new has ran zero n s e f =
      let here : g ≡ of_number (number + 0) = (let same : number ≡ number + 0 = omega arith in new.0 ∙ ap of_number same) in
      let its = some-injective r s f in (
        o,
        refl,
        subst (λ t. HasMet w (of_number (number + 0)) t) its (subst (λ h. HasMet w h r) here has.0),
        subst (λ t. did (of_number (number + 0)) t o n) its
            (subst (λ t. did (of_number (number + 0)) r o t) (some-injective m n e) (subst (λ h. did h r o m) here ran.0)),
      )
  did_at of_number w number (g ∷ firsts) (r ∷ met) (o ∷ olds) (m ∷ news) new has ran (suc k) n s e f =
      let at = did_at of_number w (suc number) firsts met olds news new.1 has.1 ran.1 k n s e f in
      let next : suc number + k ≡ number + suc k = omega arith in (
        at.0,
        at.1,
        subst (λ j. HasMet w (of_number j) s) next at.2,
        subst (λ j. did (of_number j) s at.0 n) next at.3,
      )
