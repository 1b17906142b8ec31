-- What closing a handle came to is told by its status.
use Rattle.std.proofs.Common.{◌≡◌, ℕ, ℤ, List, Option, Some, None, MatchOption}
use Rattle.mv_history.specs.State.{State, Writes}
use Rattle.mvrlu.specs.Meant.{whole_of}
use Rattle.shared_domain.specs.Met.{Closes}
use Rattle.shared_domain.specs.declared.gathering.Closed.{Closed}
use Rattle.shared_domain.specs.declared.gathering.Closed.TheVariants.{Met, Left, Unmet}
use Rattle.shared_domain.specs.declared.gathering.Gathering.{Gathering}
use Rattle.c_answers.specs.declared.status.Status.TheVariants as status
use Rattle.c_answers.specs.Closings.{status_of_close, last_told}
use Rattle.mvrlu_c.specs.Closing.{TellsClose}
use Rattle.c_answers.specs.Statuses.{code_of}

module _ {P : Type 0} {rules : _} (starts : State → Type 0) (allows : List ℕ → State → Writes → Type 0) (g : Gathering P rules) where
  -- an open handle is told as the last one where all seats met, and as another one where they didn't
  pub tells_close : (answer : Option (Closed P)) (before after : ℕ) (code : ℤ) → MatchOption answer ⊥ (λ r. Closes starts allows g r)
      → code ≡ code_of (status_of_close answer) → after ≡ last_told before answer → TellsClose starts allows g before after code
  tells_close None before after code none is last = absurd none
  tells_close (Some (Met closing)) before after code met is last = (status.Done, is, (whole_of closing, met, last))
  tells_close (Some Left) before after code met is last = (status.No, is, last)
  tells_close (Some Unmet) before after code met is last = (status.No, is, last)
