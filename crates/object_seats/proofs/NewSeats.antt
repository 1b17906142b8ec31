-- What a domain and its seats are that were just opened.
use Rattle.std.proofs.Common.{◌≡◌, ℕ, suc, List, [], ◌∷◌, ap, refl, subst, map, replicate, Result, Ok, Err, IfOk}
use Rattle.std.specs.List.{All}
use Rattle.std.proofs.lemmas.List.Elements.{All-nil, All-cons}
use mathlib.Core.Option.{some}
use lib.ListN.{get_elem?}
use Rattle.mv_history.specs.Meaning as history
use Rattle.mvrlu.specs.Meant.{IsSeatOf}
use Rattle.mv_history.specs.declared.rules.AnyRules.{AnyRules}
use Rattle.mv_layout.specs.declared.Config.{Config}
use Rattle.mvrlu.specs.Opened.{IsNewSeatOf, IsOpened}
use Rattle.mvrlu.specs.declared.domain.Domain.{Domain}
use Rattle.mvrlu.specs.declared.domain.Seat.{Seat}
use Rattle.object_seats.specs.Opening.{AreOpened, Shares, no_words, position_of}
use Rattle.object_seats.specs.declared.position.Position.TheVariants.{Outside}
use Rattle.object_seats.specs.declared.seat.ObjectSeat.{ObjectSeat}

-- new seats of a domain are of it
module _ {P : Type 0} {rules : _} (d : Domain P) where
  pub new_are_of : (number : ℕ → ℕ) (seats : List (Seat P rules))
      → ((k : ℕ) (s : Seat P rules) → get_elem? seats k ≡ some s → IsNewSeatOf d.shared (number k) s)
      → All (λ s. IsSeatOf d s) seats
  new_are_of number [] each = All-nil (λ s. IsSeatOf d s)
  new_are_of number (s ∷ seats) each =
      All-cons (λ s. IsSeatOf d s) s seats (ap (λ (r : history.Seat). r.home) (each 0 s refl).0, ap (λ (r : history.Seat). r.start) (each 0 s refl).0)
      (new_are_of (λ k. number (suc k)) seats (λ k t is. each (suc k) t is))

-- the shares of all the seats of a domain that was just opened are what opening gives
pub are_opened : {V E : Type 0} (items : V → List ObjectSeat) (c : Config) (d e : Domain AnyRules) (own : List _) (r : Result V E)
    → IsOpened c (replicate c.objects no_words) d own → e ≡ d → IfOk r (λ v. map position_of (items v) ≡ map Outside own)
    → IfOk r (λ v. All (Shares e) (items v)) → IfOk r (λ v. AreOpened c (items v))
are_opened items c d e own (Ok v) opened same outside shared = record {
  domain = d;
  own = own;
  opened = opened;
  outside = outside;
  shared = subst (λ x. All (Shares x) (items v)) same shared;
}
are_opened items c d e own (Err x) opened same outside shared = tt
