-- Commands of four seats in any order are replayed as the four scripts one after another.
use Rattle.std.proofs.Common.{◌≡◌, ◌≢◌, ℕ, suc, ◌≤◌, Bool, true, false, not, cond, eqb-true, List, [], ◌∷◌, filter, refl, sym, ap}
use Rattle.std.proofs.Common.{◌∙◌, arith}
use Rattle.std.specs.List.{AllByRecursion}
use Rattle.std.proofs.lemmas.Bool.{eqb-false}
use Rattle.set_model.specs.declared.commands.Command.{Command}
use Rattle.generated_runs.specs.OneAfterAnother.{Tally, replayed, all_replayed}
use Rattle.generated_runs.proofs.small.Keeping.{IsSmall}
use Rattle.generated_runs.proofs.sifted.Sifting.{seat_of, IsKnown, is_own, is_other, sift, replayed_small, replayed-append}

-- These are the scripts of the seats from this one on, and there are no other commands.
abbrev pub Parts : ℕ → List (List Command) → List Command → Type 0
Parts seat [] xs = xs ≡ []
Parts seat (script ∷ scripts) xs = (filter (is_own seat) xs ≡ script) × Parts (suc seat) scripts (filter (is_other seat) xs)

filter_known : (p : Command → Bool) (P : Command → Type 0) (xs : List Command) → AllByRecursion P xs → AllByRecursion P (filter p xs)
filter_known p P [] known = tt
filter_known p P (x ∷ xs) known = go (p x) (filter_known p P xs known.1)
  where
    go : (b : Bool) → AllByRecursion P (filter p xs) → AllByRecursion P (cond b (x ∷ filter p xs) (filter p xs))
    go true rest = (known.0, rest)
    go false rest = rest

-- The commands are replayed as the scripts one after another.
pub gathered : (capacity : ℕ) → 10230 ≤ capacity → (seat : ℕ) (scripts : List (List Command)) (xs : List Command) (t : Tally)
    → AllByRecursion IsKnown xs → IsSmall t.maps → Parts seat scripts xs → replayed capacity xs t ≡ all_replayed capacity scripts t
gathered capacity room seat [] xs t known small parts = ap (λ ys. replayed capacity ys t) parts
gathered capacity room seat (script ∷ scripts) xs t known small parts =
    sift capacity room seat xs t known small
    ∙ replayed-append capacity (filter (is_own seat) xs) (filter (is_other seat) xs) t
    ∙ gathered capacity room (suc seat) scripts (filter (is_other seat) xs) (replayed capacity (filter (is_own seat) xs) t)
    (filter_known (is_other seat) IsKnown xs known)
    (replayed_small capacity room (filter (is_own seat) xs) t (filter_known (is_own seat) IsKnown xs known) small) parts.1
    ∙ ap (λ ys. all_replayed capacity scripts (replayed capacity ys t)) parts.0

-- the commands of a seat are among those that are of no other
passed : (seat other : ℕ) (xs : List Command) → seat ≢ other → filter (is_own seat) (filter (is_other other) xs) ≡ filter (is_own seat) xs
passed seat other [] differ = refl
passed seat other (x ∷ xs) differ = go (is_own other x) refl (passed seat other xs differ)
  where
    not_own : is_own other x ≡ true → is_own seat x ≡ false
    not_own e = go_own (is_own seat x) refl
      where
        go_own : (b : Bool) → is_own seat x ≡ b → b ≡ false
        go_own true f = absurd (differ (sym (eqb-true (seat_of x) seat f) ∙ eqb-true (seat_of x) other e))
        go_own false f = refl

    go : (b : Bool) → is_own other x ≡ b → filter (is_own seat) (filter (is_other other) xs) ≡ filter (is_own seat) xs
        → filter (is_own seat) (cond (not b) (x ∷ filter (is_other other) xs) (filter (is_other other) xs))
        ≡ cond (is_own seat x) (x ∷ filter (is_own seat) xs) (filter (is_own seat) xs)
    go true e rest = rest ∙ sym (ap (λ (b : Bool). cond b (x ∷ filter (is_own seat) xs) (filter (is_own seat) xs)) (not_own e))
    go false e rest = ap (λ ys. cond (is_own seat x) (x ∷ ys) ys) rest

-- what is of no earlier seat
abbrev IsFrom : ℕ → Command → Type 0
IsFrom seat command = seat ≤ seat_of command

others_from : (seat : ℕ) (xs : List Command) → AllByRecursion (IsFrom seat) xs → AllByRecursion (IsFrom (suc seat)) (filter (is_other seat) xs)
others_from seat [] from = tt
others_from seat (x ∷ xs) from = go (is_own seat x) refl (others_from seat xs from.1)
  where
    go : (b : Bool) → is_own seat x ≡ b → AllByRecursion (IsFrom (suc seat)) (filter (is_other seat) xs)
        → AllByRecursion (IsFrom (suc seat)) (cond (not b) (x ∷ filter (is_other seat) xs) (filter (is_other seat) xs))
    go true e rest = rest
    go false e rest =
        let le : seat ≤ seat_of x = from.0 in
        let other : seat_of x ≢ seat = eqb-false (seat_of x) seat e in (omega (arith, le, other), rest)

all_from : (xs : List Command) → AllByRecursion (IsFrom 0) xs
all_from [] = tt
all_from (x ∷ xs) = (omega arith, all_from xs)

none_from : (xs : List Command) → AllByRecursion (IsFrom 4) xs → xs ≡ []
none_from [] from = refl
none_from (x ∷ xs) from = let le : 4 ≤ seat_of x = from.0 in absurd (omega (arith, le))

-- four scripts are the parts of commands where each is the commands of its seat
pub four_parts : (a b c d xs : List Command) → filter (is_own 0) xs ≡ a → filter (is_own 1) xs ≡ b → filter (is_own 2) xs ≡ c
    → filter (is_own 3) xs ≡ d → Parts 0 (a ∷ b ∷ c ∷ d ∷ []) xs
four_parts a b c d xs at_0 at_1 at_2 at_3 =
    let one = filter (is_other 0) xs in
    let two = filter (is_other 1) one in
    let three = filter (is_other 2) two in
    let not_1 = passed 1 0 xs (λ q. absurd (omega (arith, q))) in
    let not_2 = passed 2 1 one (λ q. absurd (omega (arith, q))) ∙ passed 2 0 xs (λ q. absurd (omega (arith, q))) in
    let not_3 = passed 3 2 two (λ q. absurd (omega (arith, q))) ∙ passed 3 1 one (λ q. absurd (omega (arith, q)))
    ∙ passed 3 0 xs (λ q. absurd (omega (arith, q))) in
    let none = none_from (filter (is_other 3) three)
    (others_from 3 three (others_from 2 two (others_from 1 one (others_from 0 xs (all_from xs))))) in
    (at_0, (not_1 ∙ at_1, (not_2 ∙ at_2, (not_3 ∙ at_3, none))))
