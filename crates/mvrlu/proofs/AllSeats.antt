-- The seats of a new domain, in order of number, are all its seats, each once; and so are seats that came of them.
use Rattle.std.proofs.Common.{◌≡◌, ◌≢◌, ℕ, suc, ◌+◌, List, [], ◌∷◌, length, All, refl, sym, ap, ◌∙◌, arith}
use Rattle.std.specs.Prelude.{AllPairs}
use mathlib.Core.Option.{some}
use lib.ListN.{get_elem?}
use Rattle.std.proofs.lemmas.List.Elements.{All-nil, All-cons}
use Rattle.std.proofs.lemmas.List.Kept.{AllPairs-cons}
use Rattle.mv_history.specs.State.{State}
use Rattle.mv_history.specs.Meaning as history
use Rattle.mv_layout.specs.declared.Config.{Config}
use Rattle.mvrlu.specs.declared.domain.Domain.{Domain}
use Rattle.mvrlu.specs.declared.domain.Seat.{Seat}
use Rattle.mvrlu.specs.Meant.{numbers_of, seat_of, IsSeatOf}
use Rattle.mvrlu.specs.Meeting.{AreAll}
use Rattle.mvrlu.specs.Opened.{IsOpened}

module _ {X : Type 0} where
  pub all_from_places : (P : X → Type 0) (xs : List X) → ((k : ℕ) (x : X) → get_elem? xs k ≡ some x → P x) → All P xs
  all_from_places P [] each = All-nil P
  all_from_places P (x ∷ xs) each = All-cons P x xs (each 0 x refl) (all_from_places P xs (λ k y e. each (suc k) y e))

  -- no two have one number, where the numbers rise by one from the first on
  apart_from : (f : X → ℕ) (first : ℕ) (xs : List X) → ((k : ℕ) (x : X) → get_elem? xs k ≡ some x → f x ≡ first + k) → AllPairs (λ x y. f x ≢ f y) xs
  apart_from f first [] each = λ i j d lt within. absurd (omega arith)
  apart_from f first (x ∷ xs) each =
      AllPairs-cons (λ y z. f y ≢ f z) x xs
      (all_from_places (λ y. f x ≢ f y) xs (λ k y e same. let a = each 0 x refl in let b = each (suc k) y e in absurd (omega arith)))
      (apart_from f (first + 1) xs (λ k y e. let b = each (suc k) y e in omega arith))

module _ {P : Type 0} {rules : _} (d : Domain P) (seats : List (Seat P rules)) where
  -- as many seats as the domain has, each of it, in order of number
  pub all_in_order : length seats ≡ (numbers_of d).seats
      → ((k : ℕ) (s : Seat P rules) → get_elem? seats k ≡ some s → IsSeatOf d s × ((seat_of s).number ≡ k)) → AreAll d seats
  all_in_order many each = record {
    many = many;
    own = all_from_places (λ s. IsSeatOf d s) seats (λ k s e. (each k s e).0);
    apart = apart_from (λ s. (seat_of s).number) 0 seats (λ k s e. let number = (each k s e).1 in omega arith);
  }

  pub opened_all : (c : Config) (start : State) → IsOpened c start d seats → AreAll d seats
  opened_all c start o =
      all_in_order (o.many ∙ ap (λ (e : Config). e.seats) (sym o.numbers))
      (λ k s e. let is = (o.each k s e).0 in (
        (ap (λ (t : history.Seat). t.home) is, ap (λ (t : history.Seat). t.start) is),
        ap (λ
            (t : history.Seat). t.number) is,
      ))
