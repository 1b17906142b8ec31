-- How many steps of a trail pass a test, and how many aborts it has, after steps that lock nothing and give nothing up.
use Rattle.std.proofs.Common.{◌≡◌, ◌≢◌, ℕ, ◌+◌, ◌&&◌, not, Bool, true, false, count_by, List, [], ◌∷◌, ◌++◌, All, refl, ap, ◌∙◌, arith}
use Rattle.std.proofs.lemmas.List.Elements.{All-nil, All-cons, All-head, All-tail}
use Rattle.std.proofs.lemmas.List.Sums.{sum_by-cons, sum_by-append}
use Rattle.mv_history.specs.declared.Step.{Step}
use Rattle.reader_marks.proofs.mv_core_lemmas.logs.Counts.{one_if}
use Rattle.seat_log.specs.Stands.{is_won_lock, is_unlock, ends_unlocking, unlocks_after, aborts_in}

-- none of these steps passes a test
none_pass : (test : Step → Bool) (steps : List Step) → All (λ s. test s ≡ false) steps → count_by test steps ≡ 0
none_pass test [] all = refl
none_pass test (s ∷ steps) all =
    let rest = none_pass test steps (All-tail (λ t. test t ≡ false) s steps all) in
    let first : one_if (test s) ≡ 0 = ap one_if (All-head (λ t. test t ≡ false) s steps all) in
    let more : count_by test (s ∷ steps) ≡ one_if (test s) + count_by test steps = sum_by-cons (λ t. one_if (test t)) s steps in
    omega arith

-- as many steps pass it after they were made
pub none_more : (test : Step → Bool) (before after steps : List Step) → after ≡ before ++ steps → All (λ s. test s ≡ false) steps
    → count_by test after ≡ count_by test before
none_more test before after steps is all =
    let none = none_pass test steps all in
    let more : count_by test (before ++ steps) ≡ count_by test before + count_by test steps = sum_by-append (λ t. one_if (test t)) before steps in
    ap (count_by test) is ∙ omega arith

-- steps after others, where the first ones tell what stands before them
ends_append : (before : Bool) (xs ys : List Step) → ends_unlocking before (xs ++ ys) ≡ ends_unlocking (ends_unlocking before xs) ys
ends_append before [] ys = refl
ends_append before (x ∷ xs) ys = ends_append (is_unlock x) xs ys

unlocks_append : (before : Bool) (xs ys : List Step)
    → unlocks_after before (xs ++ ys) ≡ unlocks_after before xs + unlocks_after (ends_unlocking before xs) ys
unlocks_append before [] ys = let same : unlocks_after before ys ≡ 0 + unlocks_after before ys = omega arith in same
unlocks_append before (x ∷ xs) ys =
    let more = unlocks_append (is_unlock x) xs ys in
    let first : ℕ = one_if (is_unlock x && not before) in
    omega arith

-- steps that give nothing up
abbrev NoneUnlock : List Step → Type 0
NoneUnlock steps = All (λ s. is_unlock s ≡ false) steps

unlocks_none : (before : Bool) (steps : List Step) → NoneUnlock steps → unlocks_after before steps ≡ 0
unlocks_none before [] all = refl
unlocks_none before (s ∷ steps) all =
    let first : is_unlock s ≡ false = All-head (λ t. is_unlock t ≡ false) s steps all in
    let rest = unlocks_none (is_unlock s) steps (All-tail (λ t. is_unlock t ≡ false) s steps all) in
    let none : one_if (is_unlock s && not before) ≡ 0 = ap (λ b. one_if (b && not before)) first in
    omega arith

ends_none : (steps : List Step) → NoneUnlock steps → ends_unlocking false steps ≡ false
ends_none [] all = refl
ends_none (s ∷ steps) all =
    ap (λ b. ends_unlocking b steps) (All-head (λ t. is_unlock t ≡ false) s steps all) ∙ ends_none steps (All-tail (λ t. is_unlock t ≡ false) s steps all)

-- The later steps are the earlier ones and such as lock nothing and give nothing up: as many locked and as many aborted, and no abort is under
-- way where none was.
pub record KeepsLocks (before after : List Step) : Type 0 where
  pub locks : count_by is_won_lock after ≡ count_by is_won_lock before
  pub aborts : aborts_in after ≡ aborts_in before
  pub settled : ends_unlocking false before ≡ false → ends_unlocking false after ≡ false

-- no step was made
pub keeps_same : (steps : List Step) → KeepsLocks steps steps
keeps_same steps = record { locks = refl; aborts = refl; settled = λ e. e }

-- and further ones of the kind
pub keeps_then : (before mid after : List Step) → KeepsLocks before mid → KeepsLocks mid after → KeepsLocks before after
keeps_then before mid after a b = record { locks = b.locks ∙ a.locks; aborts = b.aborts ∙ a.aborts; settled = λ e. b.settled (a.settled e) }

-- steps that lock nothing and give nothing up
pub keeps_more : (before after steps : List Step) → after ≡ before ++ steps → All (λ s. is_won_lock s ≡ false) steps → All (λ s. is_unlock s ≡ false) steps
    → KeepsLocks before after
keeps_more before after steps is unlocked ungiven =
    let split = unlocks_append false before steps in
    let none = unlocks_none (ends_unlocking false before) steps ungiven in
    let same : aborts_in (before ++ steps) ≡ aborts_in before = omega arith in
    record {
      locks = none_more is_won_lock before after steps is unlocked;
      aborts = ap aborts_in is ∙ same;
      settled = λ e.
          ap (ends_unlocking false) is ∙ ends_append false before steps ∙ ap (λ b. ends_unlocking b steps) e ∙ ends_none steps ungiven;
    }

-- one such step
pub keeps_one : (steps : List Step) (s : Step) → is_won_lock s ≡ false → is_unlock s ≡ false → KeepsLocks steps (steps ++ s ∷ [])
keeps_one steps s unlocked ungiven =
    keeps_more steps (steps ++ s ∷ []) (s ∷ []) refl (All-cons (λ t. is_won_lock t ≡ false) s [] unlocked (All-nil (λ t. is_won_lock t ≡ false)))
    (All-cons (λ t. is_unlock t ≡ false) s [] ungiven (All-nil (λ t. is_unlock t ≡ false)))

-- whether an abort is under way after a step
pub ends_last : (steps : List Step) (s : Step) → ends_unlocking false (steps ++ s ∷ []) ≡ is_unlock s
ends_last steps s = ends_append false steps (s ∷ [])

-- as many were aborted after a step that gives nothing up, as the lock of an object
pub aborts_kept : (steps : List Step) (s : Step) → is_unlock s ≡ false → aborts_in (steps ++ s ∷ []) ≡ aborts_in steps
aborts_kept steps s ungiven =
    let all : NoneUnlock (s ∷ []) = All-cons (λ t. is_unlock t ≡ false) s [] ungiven (All-nil (λ t. is_unlock t ≡ false)) in
    let split = unlocks_append false steps (s ∷ []) in
    let none = unlocks_none (ends_unlocking false steps) (s ∷ []) all in
    omega arith

-- steps that give an object up, each, behind one that does
unlocks_all : (steps : List Step) → All (λ s. is_unlock s ≡ true) steps → (unlocks_after true steps ≡ 0) × (ends_unlocking true steps ≡ true)
unlocks_all [] all = (refl, refl)
unlocks_all (s ∷ steps) all =
    let first : is_unlock s ≡ true = All-head (λ t. is_unlock t ≡ true) s steps all in
    let rest = unlocks_all steps (All-tail (λ t. is_unlock t ≡ true) s steps all) in
    let none : one_if (is_unlock s && not true) ≡ 0 = ap (λ b. one_if (b && not true)) first in
    let more : unlocks_after (is_unlock s) steps ≡ 0 = ap (λ b. unlocks_after b steps) first ∙ rest.0 in
    ((omega arith), ap (λ b. ends_unlocking b steps) first ∙ rest.1)

-- some steps that each give an object up are one abort, where none was under way
pub aborts_more : (before after steps : List Step) → after ≡ before ++ steps → steps ≢ [] → All (λ s. is_unlock s ≡ true) steps
    → ends_unlocking false before ≡ false → aborts_in after ≡ aborts_in before + 1
aborts_more before after [] is some all settled = absurd (some refl)
aborts_more before after (s ∷ steps) is some all settled =
    let first : is_unlock s ≡ true = All-head (λ t. is_unlock t ≡ true) s steps all in
    let rest = unlocks_all steps (All-tail (λ t. is_unlock t ≡ true) s steps all) in
    let split = unlocks_append false before (s ∷ steps) in
    let one : one_if (is_unlock s && not (ends_unlocking false before)) ≡ 1 = (λ i. one_if (first i && not (settled i))) in
    let more : unlocks_after (is_unlock s) steps ≡ 0 = ap (λ b. unlocks_after b steps) first ∙ rest.0 in
    let same : aborts_in (before ++ s ∷ steps) ≡ aborts_in before + 1 = omega arith in
    ap aborts_in is ∙ same
