-- What a call on a handle of C leaves, of whatever kind, by the number that it answers.
use Rattle.std.specs.Prelude.{◌≡◌, ℤ, Bool, true, false}
use Rattle.c_answers.specs.declared.status.Status.{Status}
use Rattle.c_answers.specs.declared.status.Status.TheVariants.{Closed}
use Rattle.c_answers.specs.Statuses.{code_of}

-- nothing was done, for this reason
abbrev pub IsRefused : {H Out : Type 0} → Status → H → H → Out → Out → ℤ → Type 0
IsRefused why old new before after code = (code ≡ code_of why) × (new ≡ old) × (after ≡ before)

module _ {H S : Type 0} (opened : H → Bool) (seat_in : H → S) where
  -- The call was made on the seat, and this is told: an open seat is open still, the call did this to it, and its answer is told by what was written
  -- for the caller and by the number; a closed one is as it was.
  abbrev pub TellsCall : {A Out : Type 0} → (S → S → A → Type 0) → (A → ℤ) → (A → Out) → H → H → Out → Out → ℤ → Type 0
  TellsCall {A} Call number told old new before after code =
      (opened old ≡ false → IsRefused Closed old new before after code)
      × (opened old ≡ true → (opened new ≡ true)
      × ((answer : A) × Call (seat_in old) (seat_in new) answer × (after ≡ told answer) × (code ≡ number answer)))
