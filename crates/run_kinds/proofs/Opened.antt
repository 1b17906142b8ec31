-- What a run over a domain that was just opened hands back.
use Rattle.std.proofs.Common.{◌≡◌, List, map, Result, Ok, Err}
use Rattle.std.specs.Result.{IfErr}
use Rattle.mv_history.specs.State.{State}
use Rattle.mv_layout.specs.declared.config.Config.{Config}
use Rattle.mvrlu.specs.declared.domain.Domain.{Domain}
use Rattle.mvrlu.specs.declared.domain.Seat.{Seat}
use Rattle.mvrlu.specs.Meant.{seat_of}
use Rattle.mvrlu.specs.Meeting.{AreAll}
use Rattle.mvrlu.specs.Opened.{IsOpened}
use Rattle.domain_loan.proofs.Opened.{refused_all}

-- it can meet, where it is the domain and its seats
pub back_meets : {P T E : Type 0} {rules : _} (d : Domain P) (seats : List (Seat P rules)) (c : Config) (start : State) → IsOpened c start d seats
    → (r : Result T E) (domain : E → Domain P) (back : E → List (Seat P rules))
    → IfErr r (λ e. (domain e ≡ d) × (map seat_of (back e) ≡ map seat_of seats)) → IfErr r (λ e. AreAll (domain e) (back e))
back_meets d seats c start o (Ok t) domain back is = tt
back_meets d seats c start o (Err e) domain back is = refused_all d c start seats o (domain e) (back e) is.0 is.1
