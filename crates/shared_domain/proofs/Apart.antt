-- Seats of different numbers, gathered from the last number down.
use Rattle.std.proofs.Common.{◌≡◌, ◌≢◌, ℕ, ◌+◌, ◌≤◌, List, [], ◌∷◌, ◌++◌, All, AllPairs, arith}
use Rattle.std.proofs.lemmas.List.Elements.{All-push, All-weaker}
use Rattle.std.proofs.lemmas.List.Quantifiers.{all_pairs_push}
use Rattle.mvrlu.specs.declared.domain.Seat.{Seat}
use Rattle.mvrlu.specs.Meant.{seat_of}

module _ {P : Type 0} {rules : _} (row : List (Seat P rules)) (n : ℕ) (above : All (λ s. n + 1 ≤ (seat_of s).number) row) where
  -- each of the row, and the seat of the next number
  pub above_next : (seat : Seat P rules) → (seat_of seat).number ≡ n → All (λ s. n ≤ (seat_of s).number) (row ++ seat ∷ [])
  above_next seat is =
      All-push (λ s. n ≤ (seat_of s).number) row seat
      (All-weaker (λ s. n + 1 ≤ (seat_of s).number) (λ s. n ≤ (seat_of s).number) (λ s le. omega (arith, le)) row above) (omega (arith, is))

  -- the row, with no seat of the next number
  pub above_more : All (λ s. n ≤ (seat_of s).number) row
  above_more = All-weaker (λ s. n + 1 ≤ (seat_of s).number) (λ s. n ≤ (seat_of s).number) (λ s le. omega (arith, le)) row above

  -- no two are of one number
  pub apart_next : (seat : Seat P rules) → (seat_of seat).number ≡ n → AllPairs (λ s t. (seat_of s).number ≢ (seat_of t).number) row
      → AllPairs (λ s t. (seat_of s).number ≢ (seat_of t).number) (row ++ seat ∷ [])
  apart_next seat is apart =
      all_pairs_push (λ s t. (seat_of s).number ≢ (seat_of t).number) row seat apart
      (λ k d lt same. let le = above k d lt in omega (arith, le, is, same))
