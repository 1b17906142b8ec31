-- What a section reads stays what it is while others commit.
use Rattle.std.proofs.Common.{◌≡◌, ◌≤◌, length, sym, subst}
use Rattle.mv_history.specs.State.{State}
use Rattle.mv_history.specs.Meaning.{InSection, state_of}
use Rattle.mv_history.specs.Calls.{IsAsBefore}
use Rattle.mv_history.proofs.Holding.{state_of-as_before}

-- what holds of the state that a section reads holds of it after a call that only reads
pub still : (P : State → Type 0) (a b : InSection) → a.at ≤ length a.seat.seen → IsAsBefore a b → P (state_of a) → P (state_of b)
still P a b l same p = subst P (sym (state_of-as_before a b l same)) p
