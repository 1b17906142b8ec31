-- Tasks on the seats of a domain that was just opened.
use Rattle.std.proofs.Common.{◌≡◌, ℕ, List, sym, ap, ◌∙◌, subst}
use Rattle.mv_history.specs.State.{State, Writes}
use Rattle.mv_history.specs.Meaning as history
use Rattle.mv_layout.specs.declared.Config.{Config}
use Rattle.mvrlu.specs.declared.domain.Domain.{Domain}
use Rattle.mvrlu.specs.declared.domain.Seat.{Seat}
use Rattle.mvrlu.specs.Meant.{numbers_of, name_of, opening_of}
use Rattle.mvrlu.specs.Opened.{IsOpened, new_seat}
use Rattle.mvrlu.specs.Whole.{Whole}
use Rattle.domain_loan.specs.New.{fresh}
use Rattle.domain_run.specs.Runs.{AreReady, IsRun}

module _ {P : Type 0} {rules : _} (d : Domain P) where
  -- a task is ready for each seat of the domain where it is for those of any name
  pub opened_ready : (c : Config) (start : State) (seats : List (Seat P rules)) → IsOpened c start d seats
      → {T : Type 0} (ready : history.Seat → T → Type 0) (tasks : List T)
      → ((home : List ℕ) → AreReady ready (new_seat home c start) tasks) → AreReady ready (fresh d) tasks
  opened_ready c start seats o ready tasks are k t e =
      let is : fresh d k ≡ new_seat (name_of d) c start k =
      (ap (λ (x : Config). new_seat (name_of d) x (opening_of d) k) o.numbers ∙ ap (λ (s : State). new_seat (name_of d) c s k) o.opening) in
      subst (λ s. ready s t) (sym is) (are (name_of d) k t e)

  -- a run on a domain that was opened with these numbers and this opening state
  pub run_opened : (c : Config) (start : State) (seats : List (Seat P rules)) → IsOpened c start d seats
      → {T : Type 0} (did : history.Seat → history.Seat → T → T → Type 0) (allows : List ℕ → State → Writes → Type 0)
      (olds news : List T) (met : List history.Seat) (w : Whole) → IsRun did allows (name_of d) (numbers_of d) (opening_of d) olds news met w
      → IsRun did allows (name_of d) c start olds news met w
  run_opened c start seats o did allows olds news met w ran =
      subst (λ (s : State). IsRun did allows (name_of d) c s olds news met w) o.opening
      (subst (λ (x : Config). IsRun did allows (name_of d) x (opening_of d) olds news met w) o.numbers ran)
