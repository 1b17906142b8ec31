-- The commits of a history, by the seats that made them.
use Rattle.std.proofs.Common.{◌≡◌, ℕ, zero, suc, ◌+◌, ◌<◌, cond, eqb, List, [], ◌∷◌, length, All, refl, ap, ◌∙◌, arith}
use Rattle.std.specs.Prelude.{sum_by}
use Rattle.std.proofs.lemmas.Bool.Decides.{nat_tests}
use Rattle.std.proofs.lemmas.List.Elements.{All-head, All-tail}
use Rattle.std.proofs.lemmas.List.Sums.{sum_by-cons}
use mathlib.Core.Option.{some}
use lib.ListN.{get_elem?}
use Rattle.mv_history.specs.State.{maker_of, commits_of}
use Rattle.mv_history.specs.declared.history.Commit.{Commit}
use Rattle.mv_history.specs.declared.history.Entry.{Entry}
use Rattle.mv_history.specs.declared.history.Entry.TheVariants.{Rest, Change}
use Rattle.mv_client.specs.Invariants.{count_changes}

-- the sum of the first n numbers that h gives
abbrev sum_first : (ℕ → ℕ) → ℕ → ℕ
sum_first h zero = 0
sum_first h (suc n) = h 0 + sum_first (λ k. h (suc k)) n

sum_none : (h : ℕ → ℕ) (n : ℕ) → ((k : ℕ) → h k ≡ 0) → sum_first h n ≡ 0
sum_none h zero none = refl
sum_none h (suc n) none = omega (arith, none 0, sum_none (λ k. h (suc k)) n (λ k. none (suc k)))

-- one of the numbers is greater by one
sum_one : (g h : ℕ → ℕ) (n at : ℕ) → at < n → ((k : ℕ) → h k ≡ cond (eqb at k) 1 0 + g k) → sum_first h n ≡ 1 + sum_first g n
sum_one g h zero at lt more = absurd (omega arith)
sum_one g h (suc n) zero lt more =
    let here : h 0 ≡ 1 + g 0 = more 0 ∙ grind (arith, nat_tests) in
    let rest = sum_same (λ k. g (suc k)) (λ k. h (suc k)) n (λ k. more (suc k) ∙ grind (arith, nat_tests)) in
    omega (arith, here, rest)
  where
    sum_same : (g h : ℕ → ℕ) (n : ℕ) → ((k : ℕ) → h k ≡ g k) → sum_first h n ≡ sum_first g n
    sum_same g h zero same = refl
    sum_same g h (suc n) same = omega (arith, same 0, sum_same (λ k. g (suc k)) (λ k. h (suc k)) n (λ k. same (suc k)))
sum_one g h (suc n) (suc at) lt more =
    let here : h 0 ≡ g 0 = more 0 ∙ grind (arith, nat_tests) in
    let rest = sum_one (λ k. g (suc k)) (λ k. h (suc k)) n at (omega arith) (λ k. more (suc k) ∙ grind (arith, nat_tests)) in
    omega (arith, here, rest)

commits_one : (c : Commit) (es : List Entry) (k : ℕ) → length (commits_of k (Change c ∷ es)) ≡ cond (eqb c.seat k) 1 0 + length (commits_of k es)
commits_one c es k = grind (arith, nat_tests)

sum_commits : (n : ℕ) (es : List Entry) → All (λ e. maker_of e < n) es → sum_first (λ k. length (commits_of k es)) n ≡ count_changes es
sum_commits n [] makers = sum_none (λ k. 0) n (λ k. refl)
sum_commits n (Rest by ∷ es) makers = sum_commits n es (All-tail (λ e. maker_of e < n) (Rest by) es makers)
sum_commits n (Change c ∷ es) makers =
    sum_one (λ k. length (commits_of k es)) (λ k. length (commits_of k (Change c ∷ es))) n c.seat (All-head (λ e. maker_of e < n) (Change c) es makers)
    (commits_one c es)
    ∙ ap (λ (m : ℕ). 1 + m) (sum_commits n es (All-tail (λ e. maker_of e < n) (Change c) es makers))

sum_row : {X : Type 0} (f : X → ℕ) (h : ℕ → ℕ) (xs : List X) → ((k : ℕ) (x : X) → get_elem? xs k ≡ some x → f x ≡ h k) → sum_by f xs ≡ sum_first h (length xs)
sum_row f h [] is = refl
sum_row f h (x ∷ xs) is = omega (arith, sum_by-cons f x xs, is 0 x refl, sum_row f (λ k. h (suc k)) xs (λ k y e. is (suc k) y e))

-- Where each entry is by one of these, and each tells how many commits of its number there are, all that is told is all that there are.
pub told_in_all : {X : Type 0} (f : X → ℕ) (xs : List X) (es : List Entry) → All (λ e. maker_of e < length xs) es
    → ((k : ℕ) (x : X) → get_elem? xs k ≡ some x → f x ≡ length (commits_of k es)) → sum_by f xs ≡ count_changes es
told_in_all f xs es makers is = sum_row f (λ k. length (commits_of k es)) xs is ∙ sum_commits (length xs) es makers
