-- What is left of seats that were lent.
use Rattle.std.specs.Prelude.{◌≡◌, ℕ, ◌≤◌, [], vec_capacity}
use Rattle.domain_loan.specs.declared.lending.Left.{Left}

-- the row is empty, and has room for so many seats
pub record IsLeft {P : Type 0} {rules : _} (left : Left P rules) (count : ℕ) : Type 0 where
  pub no_seat : left.seats.items ≡ []
  pub seats : count ≤ vec_capacity left.seats
