-- What closing a seat tells C.
use Rattle.std.specs.Prelude.{ℕ, ◌+◌, length, Option, Some, None}
use Rattle.mvrlu.specs.Meant.{whole_of}
use Rattle.shared_domain.specs.declared.gathering.Closed.{Closed}
use Rattle.shared_domain.specs.declared.gathering.Closed.TheVariants.{Met, Left, Unmet}
use Rattle.c_answers.specs.declared.status.Status.{Status}
use Rattle.c_answers.specs.declared.status.Status.TheVariants as status

module _ {P : Type 0} where
  -- the status of what closing came to; none for a handle that was closed already
  abbrev pub status_of_close : Option (Closed P) → Status
  status_of_close None = status.Closed
  status_of_close (Some (Met closing)) = status.Done
  status_of_close (Some Left) = status.No
  status_of_close (Some Unmet) = status.No

  -- the time of the last entry, where all seats met, and else what stood there
  abbrev pub last_told : ℕ → Option (Closed P) → ℕ
  last_told before None = before
  last_told before (Some (Met closing)) = (whole_of closing).base + length (whole_of closing).history
  last_told before (Some Left) = before
  last_told before (Some Unmet) = before
