-- What closing a handle of C tells, by the number that it answers.
use Rattle.std.specs.Prelude.{◌≡◌, ℕ, ◌+◌, ℤ, List, length}
use Rattle.mv_history.specs.State.{State, Writes}
use Rattle.mvrlu.specs.Whole.{Whole}
use Rattle.shared_domain.specs.Met.{HasMet}
use Rattle.shared_domain.specs.declared.gathering.Gathering.{Gathering}
use Rattle.c_answers.specs.declared.status.Status.{Status}
use Rattle.c_answers.specs.declared.status.Status.TheVariants as status
use Rattle.c_answers.specs.Statuses.{code_of}

module _ {P : Type 0} {rules : _} where
  -- Done: all seats of the domain have met, each once, the law of the whole holds of them, and the time of their last entry was written. No: they
  -- have not met by this call, and nothing was written.
  abbrev pub ClosesAs : (State → Type 0) → (List ℕ → State → Writes → Type 0) → Gathering P rules → ℕ → ℕ → Status → Type 0
  ClosesAs starts allows g before after status.Done = (w : Whole) × HasMet starts allows g w × (after ≡ w.base + length w.history)
  ClosesAs starts allows g before after status.No = after ≡ before
  ClosesAs starts allows g before after other = ⊥

  -- The same, by the number that is answered.
  abbrev pub TellsClose : (State → Type 0) → (List ℕ → State → Writes → Type 0) → Gathering P rules → ℕ → ℕ → ℤ → Type 0
  TellsClose starts allows g before after code = (told : Status) × (code ≡ code_of told) × ClosesAs starts allows g before after told
