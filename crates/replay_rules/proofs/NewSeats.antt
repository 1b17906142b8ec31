-- How many seats a replay begins with.
use Rattle.std.proofs.Common.{◌≡◌, ℕ, zero, suc, ◌+◌, List, length, refl, ap}
use Rattle.replay_rules.specs.declared.plan.CallOf.{CallOf}
use Rattle.replay_rules.specs.Runs.{new_seats}

-- they are as many as their numbers
pub seats_long : (calls : List CallOf) (first count : ℕ) → length (new_seats calls first count) ≡ count
seats_long calls first zero = refl
seats_long calls first (suc count) = ap suc (seats_long calls (first + 1) count)
