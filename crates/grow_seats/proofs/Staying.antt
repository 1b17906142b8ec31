-- What stays of a seat through a call.
use Rattle.std.proofs.Common.{◌≡◌, ℕ, ◌≤◌, sym, ◌∙◌, subst, arith}
use Rattle.mv_history.specs.Calls.{Continues}
use Rattle.mvrlu.specs.Meant.{IsSeatOf, seat_of}
use Rattle.mvrlu.specs.declared.domain.Domain.{Domain}
use Rattle.mvrlu.specs.declared.domain.Seat.{Seat}

-- what holds from what was lent to what came back holds from the old to the new
pub between : {X Y : Type 0} (R : X → Y → Type 0) (old lent : X) (back new : Y) → lent ≡ old → new ≡ back → R lent back → R old new
between R old lent back new e f r = subst (λ x. R x new) e (subst (λ y. R lent y) (sym f) r)

module _ {P : Type 0} {rules : _} (d : Domain P) (s t : Seat P rules) (on : Continues (seat_of s) (seat_of t)) where
  pub still_of : IsSeatOf d s → IsSeatOf d t
  still_of of = (on.home ∙ of.0, on.start ∙ of.1)

  pub still_room : (most : ℕ) → most ≤ (seat_of s).write_max → most ≤ (seat_of t).write_max
  still_room most le = omega (arith, on.write_max, le)
