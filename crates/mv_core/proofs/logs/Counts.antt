-- How many versions of a log are held, and how many slots pass any test, after one slot was written and after all were mapped.
use Rattle.std.proofs.Common.{◌≡◌, ℕ, ◌+◌, ◌<◌, Bool, true, false, cond, count_by, List, [], ◌∷◌, length, map, refl, sym, ap, ◌∙◌, arith}
use Rattle.std.specs.Prelude.{slice_set}
use Rattle.std.proofs.lemmas.List.Sums.{sum_by-set, sum_by-cons}
use Rattle.std.proofs.Math.ListN.{get_or}
use Rattle.mv_core.proofs.Terms.{Ring, Slot, Free, slot_at, put_slot, is_held, held_count}

-- 1 for what passes, and else 0
abbrev pub one_if : Bool → ℕ
one_if b = cond b 1 0

-- how many pass a test, after one was replaced
pub count_put : {X : Type 0} (p : X → Bool) (xs : List X) (i : ℕ) (y d : X) → i < length xs
    → count_by p (slice_set xs i y) + one_if (p (get_or xs i d)) ≡ count_by p xs + one_if (p y)
count_put p xs i y d within = sum_by-set (λ x. one_if (p x)) xs i y d within

pub count_mapped : {X : Type 0} (p : X → Bool) (f : X → X) → ((x : X) → p (f x) ≡ p x) → (xs : List X) → count_by p (map f xs) ≡ count_by p xs
count_mapped p f same [] = refl
count_mapped p f same (x ∷ xs) =
    sum_by-cons (λ y. one_if (p y)) (f x) (map f xs) ∙ (λ i. one_if (same x i) + count_mapped p f same xs i) ∙ sym (sum_by-cons (λ y. one_if (p y)) x xs)

module _ (r : Ring) (k : ℕ) (x : Slot) (within : k < length r.slots) where
  -- as many slots pass a test, where both do or neither does
  pub count_same : (test : Slot → Bool) → test x ≡ test (slot_at r k) → count_by test (put_slot r k x).slots ≡ count_by test r.slots
  count_same test e = let n = count_put test r.slots k x Free within in let same = ap one_if e in omega arith

  -- one more, where the new one does and the old one didn't
  pub count_more : (test : Slot → Bool) → test (slot_at r k) ≡ false → test x ≡ true → count_by test (put_slot r k x).slots ≡ count_by test r.slots + 1
  count_more test was is = let n = count_put test r.slots k x Free within in let before = ap one_if was in let now = ap one_if is in omega arith

  -- one less, where the old one did and the new one doesn't
  pub count_less : (test : Slot → Bool) → test (slot_at r k) ≡ true → test x ≡ false → count_by test (put_slot r k x).slots + 1 ≡ count_by test r.slots
  count_less test was is = let n = count_put test r.slots k x Free within in let before = ap one_if was in let now = ap one_if is in omega arith

  -- the same of what is held
  pub held_same : is_held x ≡ is_held (slot_at r k) → held_count (put_slot r k x) ≡ held_count r
  held_same e = count_same is_held e

  pub held_more : is_held (slot_at r k) ≡ false → is_held x ≡ true → held_count (put_slot r k x) ≡ held_count r + 1
  held_more was is = count_more is_held was is

-- as many after a map that keeps what is held
pub held_mapped : (f : Slot → Slot) → ((x : Slot) → is_held (f x) ≡ is_held x) → (r : Ring) → held_count (record r { slots = map f r.slots }) ≡ held_count r
held_mapped f same r = count_mapped is_held f same r.slots
