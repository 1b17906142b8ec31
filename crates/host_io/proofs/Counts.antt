-- What a fault leaves of a count.
use Rattle.std.proofs.Common.{◌≡◌, ◌<◌, ◌^◌, ℕ, Err, arith}
use Rattle.host_io.specs.Outside.{HasCause, next_count}

-- a fault is counted
pub has_cause : {T E : Type 0} (e : E) (old faults new : ℕ) → faults ≡ old → faults < 2 ^ 64 → new ≡ next_count faults → HasCause {T = T} old new (Err e)
has_cause e old faults new same small counted = record { later = omega (arith, same, small, counted); failed = omega (arith, same, small, counted) }
