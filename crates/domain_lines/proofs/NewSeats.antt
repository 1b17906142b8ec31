-- The seats of a domain that nobody has used yet are numbered in order, and so are the handles that they are lent.
use Rattle.mvrlu.specs.declared.domain.Seat.{Seat}
use Rattle.mvrlu.specs.declared.handle.Handle.{Handle}
use Rattle.script_workers.specs.Workers.{AreNumbered}
use Rattle.domain_loan.proofs.Seats.{new_may_hold}
use Rattle.domain_lines.proofs.Terms.{◌≡◌, ◌≤◌, ◌∷◌, ◌∙◌, ℕ, suc, List, [], length, map, All, sym, ap, subst, length-map, numbers_of, seat_of, handled, Domain}
use Rattle.domain_lines.proofs.Terms.{AreNewFrom}
use Rattle.mv_history.specs.Meaning as history

-- new seats are numbered in order
pub new_numbered : {P : Type 0} (d : Domain P) (number : ℕ) (seats : List history.Seat) → AreNewFrom d number seats → AreNumbered number seats
new_numbered d number [] new = tt
new_numbered d number (s ∷ seats) new = (ap (λ (r : history.Seat). r.number) new.0, new_numbered d (suc number) seats new.1)

-- Handles that seats were lent.
module _ {P : Type 0} {rules : _} (seats : List (Seat P rules)) (handles : List (Handle P rules))
    (lent : map (λ h. handled h) handles ≡ map (λ s. seat_of s) seats) where
  -- they are as many
  pub lent_length : length seats ≡ length handles
  lent_length = sym (length-map seats seat_of) ∙ sym (ap length lent) ∙ length-map handles handled

  module _ (d : Domain P) (new : AreNewFrom d 0 (map (λ s. seat_of s) seats)) where
    -- those of new seats are numbered in order,
    pub lent_numbered : AreNumbered 0 (map (λ h. handled h) handles)
    lent_numbered = subst (λ ss. AreNumbered 0 ss) (sym lent) (new_numbered d 0 (map (λ s. seat_of s) seats) new)

    -- and may hold as many objects as the domain's numbers say
    pub lent_may_hold : (most : ℕ) → most ≤ (numbers_of d).write_max → All (λ h. most ≤ (handled h).write_max) handles
    lent_may_hold most le = new_may_hold d most 0 handles le (subst (λ ss. AreNewFrom d 0 ss) (sym lent) new)
