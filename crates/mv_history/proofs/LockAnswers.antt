-- Answers of a lock are told apart.
use Rattle.std.proofs.Common.{◌≡◌, ℕ, Bool, true, false}
use Rattle.mv_history.specs.declared.answers.LockAnswer.TheVariants.{Held, Busy, Stale, SetFull, LogFull}

-- an object is not both held and free
pub held_or_free : (b : Bool) → b ≡ true → b ≡ false → ⊥
held_or_free b held free = absurd cc

-- `Held` is no other answer
pub held_not_busy : (seat : ℕ) → Held ≡ Busy seat → ⊥
held_not_busy seat e = absurd cc

pub held_not_stale : (time : ℕ) → Held ≡ Stale time → ⊥
held_not_stale time e = absurd cc

pub held_not_set_full : Held ≡ SetFull → ⊥
held_not_set_full e = absurd cc

pub held_not_log_full : Held ≡ LogFull → ⊥
held_not_log_full e = absurd cc

-- nor is `SetFull`
pub set_full_not_busy : (seat : ℕ) → SetFull ≡ Busy seat → ⊥
set_full_not_busy seat e = absurd cc

pub set_full_not_stale : (time : ℕ) → SetFull ≡ Stale time → ⊥
set_full_not_stale time e = absurd cc

pub set_full_not_log_full : SetFull ≡ LogFull → ⊥
set_full_not_log_full e = absurd cc
