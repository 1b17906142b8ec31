-- The seats of a domain, new and gone on: they are of the domain, and stand in order of number.
use Rattle.mv_history.specs.CallLaws.{Continues-itself}
use Rattle.mv_history.specs.Calls.{Continues}
use Rattle.mvrlu.specs.declared.handle.Handle.{Handle}
use Rattle.mvrlu.proofs.AllSeats.{all_from_places, all_in_order}
use Rattle.domain_loan.proofs.Terms.{◌≡◌, ◌+◌, ◌<◌, ◌≤◌, ◌∷◌, ◌∙◌, ℕ, zero, suc, List, [], length, map, All, sym, ap, subst, arith, length-map, All-nil}
use Rattle.domain_loan.proofs.Terms.{All-cons, length_all_zip, some, get_elem?, some-injective, numbers_of, seat_of, handled, IsSeatOf, AreAll, Domain, Seat}
use Rattle.domain_loan.proofs.Terms.{AllContinue, AreNewFrom}
use Rattle.domain_loan.specs.Lending.{IsLeft}
use Rattle.domain_loan.specs.declared.lending.Left.{Left}
use Rattle.domain_loan.proofs.Rows.{place_below}
use Rattle.mv_history.specs.Meaning as history

-- each seat goes on as itself
pub all_itself : (seats : List history.Seat) → AllContinue seats seats
all_itself [] = tt
all_itself (s ∷ seats) = (Continues-itself s, all_itself seats)

module _ {P : Type 0} {rules : _} (d : Domain P) where
  in_order : (number : ℕ) (firsts : List history.Seat) (seats : List (Seat P rules)) → AreNewFrom d number firsts
      → AllContinue firsts (map (λ s. seat_of s) seats) → (k : ℕ) (s : Seat P rules) → get_elem? seats k ≡ some s
      → IsSeatOf d s × ((seat_of s).number ≡ number + k)
  in_order number [] [] new on k s e = absurd (cc)
  in_order number [] (x ∷ seats) new on k s e = absurd on
  in_order number (f ∷ firsts) [] new on k s e = absurd on
  in_order number (f ∷ firsts) (x ∷ seats) new on zero s e =
      let here : number ≡ number + 0 = omega arith in
      subst (λ t. IsSeatOf d t × ((seat_of t).number ≡ number + 0)) (some-injective x s e) (
        (on.0.home ∙ ap (λ (r : history.Seat). r.home) new.0, on.0.start ∙ ap (λ (r : history.Seat). r.start) new.0),
        on.0.number ∙ ap (λ (r : history.Seat). r.number) new.0 ∙ here,
      )
  in_order number (f ∷ firsts) (x ∷ seats) new on (suc k) s e =
      let is = in_order (suc number) firsts seats new.1 on.1 k s e in (is.0, omega (arith, is.1))

  module _ (firsts : List history.Seat) (seats : List (Seat P rules)) (new : AreNewFrom d 0 firsts) (on : AllContinue firsts (map (λ s. seat_of s) seats)) where
    -- seats that went on are of the domain
    pub all_own : All (λ s. IsSeatOf d s) seats
    all_own = all_from_places (λ s. IsSeatOf d s) seats (λ k s e. (in_order 0 firsts seats new on k s e).0)

    -- they are all its seats, where they are as many
    pub all_back : length seats ≡ (numbers_of d).seats → AreAll d seats
    all_back many = all_in_order d seats many (λ k s e. let is = in_order 0 firsts seats new on k s e in (is.0, omega (arith, is.1)))

    -- and no number is above their count
    pub all_below : All (λ s. (seat_of s).number < length seats) seats
    all_below =
        all_from_places (λ s. (seat_of s).number < length seats) seats
        (λ k s e. let is = (in_order 0 firsts seats new on k s e).1 in let below = place_below seats k s e in omega (arith, is, below))

  -- so are seats that nobody has used yet
  pub new_own : (seats : List (Seat P rules)) → AreNewFrom d 0 (map (λ s. seat_of s) seats) → All (λ s. IsSeatOf d s) seats
  new_own seats new = all_own (map (λ s. seat_of s) seats) seats new (all_itself (map (λ s. seat_of s) seats))

  -- their handles may hold as many objects as the domain's numbers say
  pub new_may_hold : (most number : ℕ) (handles : List (Handle P rules)) → most ≤ (numbers_of d).write_max
      → AreNewFrom d number (map (λ h. handled h) handles) → All (λ h. most ≤ (handled h).write_max) handles
  new_may_hold most number [] le new = All-nil (λ h. most ≤ (handled h).write_max)
  new_may_hold most number (h ∷ handles) le new =
      All-cons (λ h. most ≤ (handled h).write_max) h handles (omega (arith, le, ap (λ (r : history.Seat). r.write_max) new.0))
      (new_may_hold most (suc number) handles le new.1)

-- as many come back as there were
pub as_many : {P : Type 0} {rules : _} (olds news : List (Seat P rules)) (count : ℕ)
    → AllContinue (map (λ s. seat_of s) olds) (map (λ s. seat_of s) news) → length olds ≡ count → length news ≡ count
as_many olds news count on many =
    let long = length_all_zip Continues (map (λ s. seat_of s) olds) (map (λ s. seat_of s) news) on in
    omega (arith, long, many, length-map olds seat_of, length-map news seat_of)

-- what is left of seats that were lent has room for those that come back
pub left_for : {P : Type 0} {rules : _} (left : Left P rules) (lent back : List (Handle P rules))
    → AllContinue (map (λ h. handled h) lent) (map (λ h. handled h) back) → IsLeft left (length lent) → IsLeft left (length back)
left_for left lent back on is =
    let long = length_all_zip Continues (map (λ h. handled h) lent) (map (λ h. handled h) back) on in
    let e : length back ≡ length lent = omega (arith, long, length-map back handled, length-map lent handled) in
    subst (λ (n : ℕ). IsLeft left n) (sym e) is
