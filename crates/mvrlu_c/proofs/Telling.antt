-- What a call tells of a seat, by what it answered.
use Rattle.std.proofs.Common.{◌≡◌, ℤ, Bool, true, false, Option, Some, None, Result, MatchOption, ap, ◌∙◌, w32, to_z, of_z}
use Rattle.crossbeam_utils.specs.Padded.{padded_value}
use Rattle.object_seats.specs.declared.position.Position.{Position}
use Rattle.object_seats.specs.declared.position.Misuse.{Misuse}
use Rattle.mvrlu_c.specs.declared.object_handle.MvrluSeat.{MvrluSeat}
use Rattle.c_answers.specs.declared.status.Status.{Status}
use Rattle.c_answers.specs.declared.status.Status.TheVariants as status
use Rattle.c_answers.proofs.Numbers.{reads_back}
use Rattle.mvrlu_c.specs.OnHandle.{TellsCall}
use Rattle.c_answers.specs.Statuses.{code_of, told_by}
use Rattle.mvrlu_c.specs.Told.{Tells}

-- what was done on the seat, if it is open, is told by the number of its status
pub tells_by : {A : Type 0} (made : A → Status) (old new : MvrluSeat) (Call : Position → Position → Result A Misuse → Type 0)
    (answer : Option (Result A Misuse)) (code : ℤ) (Said : Result A Misuse → Type 0)
    → ((a : Result A Misuse) → Said a → Call (padded_value old.state).position (padded_value new.state).position a)
    → (old.is_open ≡ false → (answer ≡ None) × (new ≡ old)) → (old.is_open ≡ true → (new.is_open ≡ true) × MatchOption answer ⊥ Said)
    → code ≡ code_of (told_by made answer) → Tells made old new Call code
tells_by made old new Call None code Said says shut done is = (λ x. (is, (shut x).1), λ x. absurd ((done x).1))
tells_by made old new Call (Some a) code Said says shut done is =
    (λ x. let none : Some a ≡ None = (shut x).0 in absurd (cc), λ x. ((done x).0, (a, says a (done x).1, is)))

-- What a call on a handle tells is told by the number that it hands on, where each of its answers has a number that is read back.
module _ {H S A Out : Type 0} (opened : H → Bool) (seat_in : H → S) (Call : S → S → A → Type 0) (number : A → ℤ) (told : A → Out)
    (back : (answer : A) → to_z w32 (of_z w32 (number answer)) ≡ number answer) where
  pub call_back : (old new : H) (before after : Out) (code : ℤ) → TellsCall opened seat_in Call number told old new before after code
      → TellsCall opened seat_in Call number told old new before after (to_z w32 (of_z w32 code))
  call_back old new before after code tells = (
    λ shut. let r = tells.0 shut in (ap (λ z. to_z w32 (of_z w32 z)) r.0 ∙ reads_back status.Closed, r.1, r.2),
    λ is. let t = tells.1 is in
        (t.0, (t.1.0, t.1.1, t.1.2, ap (λ z. to_z w32 (of_z w32 z)) t.1.3 ∙ back t.1.0)),
  )
