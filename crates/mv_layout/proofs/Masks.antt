-- The remainder by a power of two is a mask.
use Rattle.std.proofs.Common.{◌≡◌, ◌⊎◌, inl, inr, ℕ, zero, suc, ◌+◌, ◌-◌, ◌%◌, ◌^◌, ◌<◌, ◌≤◌, min, bit_and, ap, sym, ◌∙◌, arith}
use Rattle.std.specs.Int.{bit_at}
use Rattle.std.proofs.Math.Nat.{div-eq_of_lt-le, eq-or-lt_of_le, two-pow-succ}
use Rattle.std.proofs.lemmas.Bool.{cases_lt}
use Rattle.std.proofs.lemmas.Nat.{and_mask}
use Rattle.std.proofs.lemmas.Nat.Bits.{bit_at_and, bit_at-zero}

-- the highest bit of a number from `2 ^ k` up to twice that
highest : (k n : ℕ) → 2 ^ k ≤ n → n < 2 ^ k + 2 ^ k → bit_at n k ≡ 1
highest k n low top = ap (λ (x : ℕ). x % 2) (div-eq_of_lt-le {k = 1} (2 ^ k) {m = n} (omega arith) (omega arith))

-- such a number shares that bit with the number before it, but for `2 ^ k`
of_power : (k p s : ℕ) → (2 ^ k ≡ s) ⊎ (2 ^ k < s) → s < 2 ^ k + 2 ^ k → bit_and s (s - 1) ≡ 0 → bit_and p (s - 1) ≡ p % s
of_power k p s (inl is) top apart = rw (← is) (and_mask p k)
of_power k p s (inr above) top apart =
    let one : bit_at s k ≡ 1 = highest k s (omega arith) top in
    let before : bit_at (s - 1) k ≡ 1 = highest k (s - 1) (omega arith) (omega arith) in
    let shared : min (bit_at s k) (bit_at (s - 1) k) ≡ 0 = sym (bit_at_and s (s - 1) k) ∙ ap (λ (x : ℕ). bit_at x k) apart ∙ bit_at-zero k in
    let none : min 1 1 ≡ 0 = rw (one, before) at shared in
    absurd (omega (arith, none))

below : (k p s : ℕ) → 0 < s → s < 2 ^ k → bit_and s (s - 1) ≡ 0 → bit_and p (s - 1) ≡ p % s
below zero p s some lt apart = absurd (omega arith)
below (suc k) p s some lt apart = elim (cases_lt s (2 ^ k)) [
  | inl less ↦ below k p s some less apart
  | inr low ↦ of_power k p s (eq-or-lt_of_le low) (rw (two-pow-succ k) at lt) apart
]

-- the remainder by a number that shares no bit with the one before it
pub mask_is_rest : (p s : ℕ) → 0 < s → s ≤ 4096 → bit_and s (s - 1) ≡ 0 → bit_and p (s - 1) ≡ p % s
mask_is_rest p s some few apart = below 13 p s some (omega arith) apart
