-- What a call on a seat in the hands of C leaves, by the number that it answers.
use Rattle.std.specs.Prelude.{◌≡◌, ℤ, true, false, Result}
use Rattle.crossbeam_utils.specs.Padded.{padded_value}
use Rattle.object_seats.specs.declared.position.Position.{Position}
use Rattle.object_seats.specs.declared.position.Misuse.{Misuse}
use Rattle.mvrlu_c.specs.declared.object_handle.MvrluSeat.{MvrluSeat}
use Rattle.c_answers.specs.declared.status.Status.{Status}
use Rattle.c_answers.specs.declared.status.Status.TheVariants.{Closed}
use Rattle.c_answers.specs.Statuses.{code_of, status_of}

-- The call was made on the seat, and its answer is told by this number: an open seat is open still, and this is what the call did to its
-- position; a closed one is as it was.
abbrev pub Tells : {A : Type 0} → (A → Status) → MvrluSeat → MvrluSeat → (Position → Position → Result A Misuse → Type 0) → ℤ → Type 0
Tells {A} made old new Call code =
    (old.is_open ≡ false → (code ≡ code_of Closed) × (new ≡ old))
    × (old.is_open ≡ true → (new.is_open ≡ true)
    × ((answer : Result A Misuse) × Call (padded_value old.state).position (padded_value new.state).position answer × (code ≡ code_of (status_of made answer))))
