-- Taking values from the end of a row of seats, and putting them at the end of another.
use Rattle.std.proofs.Common.{◌≡◌, ℕ, zero, suc, ◌⊎◌, ◌+◌, List, [], ◌∷◌, ◌++◌, length, set, inl, inr, refl, sym, ap, ◌∙◌, subst, ⊎_elim, arith}
use mathlib.Core.Option.{some}
use lib.ListN.{get_elem?}
use Rattle.object_lock.proofs.mv_core_lemmas.Terms.{some-injective}
use Rattle.mv_history.specs.Meaning.{Seat}
use Rattle.mv_history.specs.State.{State}
use Rattle.mv_history.specs.Calls.{Continues}
use Rattle.mv_history.specs.Meaning as history
use Rattle.mv_layout.specs.declared.Config.{Config}
use Rattle.mvrlu.specs.declared.domain.Domain.{Domain}
use Rattle.mvrlu.specs.declared.domain.Seat as domain
use Rattle.mvrlu.specs.Meant.{numbers_of, seat_of}
use Rattle.mvrlu.specs.Meeting.{AreAll}
use Rattle.mvrlu.specs.Opened.{IsOpened}
use Rattle.mvrlu.specs.Orders.{IsNumbered, IsSameSeat, AreRising, AreFalling}
use Rattle.mvrlu.proofs.Started.{at_end, before_end, the_end}
use Rattle.mvrlu.proofs.AllSeats.{all_in_order}

-- what a seat has seen and done since leaves it the seat that it was
pub same_on : (s t : Seat) → Continues s t → IsSameSeat s t
same_on s t c = record { number = c.number; home = c.home; start = c.start; write_max = c.write_max }

pub numbered_on : {P : Type 0} (d : Domain P) (number : ℕ) (s t : Seat) → IsNumbered d number s → IsSameSeat s t → IsNumbered d number t
numbered_on d number s t is same = record {
  number = same.number ∙ is.number;
  home = same.home ∙ is.home;
  start = same.start ∙ is.start;
  write_max = same.write_max ∙ is.write_max;
}

-- an element of a list with one place changed is of the list, or is the new one
at_place : {X : Type 0} (xs : List X) (i k : ℕ) (y x : X) → get_elem? (set xs i y) k ≡ some x
    → (get_elem? xs k ≡ some x) ⊎ ((k ≡ i) × (some y ≡ some x))
at_place [] i k y x e = inl e
at_place (z ∷ xs) zero zero y x e = inr (refl, e)
at_place (z ∷ xs) zero (suc k) y x e = inl e
at_place (z ∷ xs) (suc i) zero y x e = inl e
at_place (z ∷ xs) (suc i) (suc k) y x e = ⊎_elim inl (λ r. inr (ap suc r.0, r.1)) (at_place xs i k y x e)

module _ {P X : Type 0} (meant : X → Seat) (d : Domain P) where
  pub rising_front : (xs all : List X) (y : X) → all ≡ xs ++ y ∷ [] → AreRising meant d all → AreRising meant d xs
  rising_front xs all y split are k x e = are k x (ap (λ zs. get_elem? zs k) split ∙ before_end xs y x k e)

  pub rising_last : (xs all : List X) (y : X) → all ≡ xs ++ y ∷ [] → AreRising meant d all → IsNumbered d (length xs) (meant y)
  rising_last xs all y split are = are (length xs) y (ap (λ zs. get_elem? zs (length xs)) split ∙ the_end xs y)

  pub rising_next : (xs : List X) (y : X) → AreRising meant d xs → IsNumbered d (length xs) (meant y) → AreRising meant d (xs ++ y ∷ [])
  rising_next xs y are is k x e =
      ⊎_elim
      (λ old. are k x old)
      (λ last. subst (λ (m : ℕ). IsNumbered d m (meant x)) (sym last.0) (subst (λ (z : X). IsNumbered d (length xs) (meant z)) (some-injective y x last.1) is))
      (at_end xs y x k e)

  pub falling_front : (above : ℕ) (xs all : List X) (y : X) → all ≡ xs ++ y ∷ [] → AreFalling meant d above all → AreFalling meant d above xs
  falling_front above xs all y split are k number x e place = are k number x (ap (λ zs. get_elem? zs k) split ∙ before_end xs y x k e) place

  pub falling_last : (above number : ℕ) (xs all : List X) (y : X) → all ≡ xs ++ y ∷ [] → AreFalling meant d above all → length xs + number + 1 ≡ above
      → IsNumbered d number (meant y)
  falling_last above number xs all y split are place =
      are (length xs) number y (ap (λ zs. get_elem? zs (length xs)) split ∙ the_end xs y) place

  pub falling_next : (above number : ℕ) (xs : List X) (y : X) → AreFalling meant d above xs → length xs + number + 1 ≡ above
      → IsNumbered d number (meant y) → AreFalling meant d above (xs ++ y ∷ [])
  falling_next above number xs y are here is k n x e place =
      ⊎_elim
      (λ old. are k n x old place)
      (λ last.
      let same : y ≡ x = some-injective y x last.1 in
      let at : number ≡ n = (let l = last.0 in omega arith) in
      subst (λ (m : ℕ). IsNumbered d m (meant x)) at (subst (λ (z : X). IsNumbered d number (meant z)) same is))
      (at_end xs y x k e)

  -- an element is changed for one that has its seat
  pub falling_set : (above i : ℕ) (xs : List X) (x y : X) → get_elem? xs i ≡ some x → IsSameSeat (meant x) (meant y) → AreFalling meant d above xs
      → AreFalling meant d above (set xs i y)
  falling_set above i xs x y here same are k number z e place =
      ⊎_elim
      (λ old. are k number z old place)
      (λ new.
      let is : y ≡ z = some-injective y z new.1 in
      subst (λ (w : X). IsNumbered d number (meant w)) is
      (numbered_on d number (meant x) (meant y) (are k number x (ap (get_elem? xs) new.0 ∙ here) place) same))
      (at_place xs i k y z e)

module _ {P : Type 0} {rules : _} (d : Domain P) (seats : List (domain.Seat P rules)) where
  pub opened_rising : (c : Config) (start : State) → IsOpened c start d seats → AreRising seat_of d seats
  opened_rising c start o k s e = let is = (o.each k s e).0 in record {
    number = ap (λ (t : history.Seat). t.number) is;
    home = ap (λ (t : history.Seat). t.home) is;
    start = ap (λ (t : history.Seat). t.start) is;
    write_max = ap (λ (t : history.Seat). t.write_max) is;
  }

  pub rising_all : length seats ≡ (numbers_of d).seats → AreRising seat_of d seats → AreAll d seats
  rising_all many are = all_in_order d seats many (λ k s e. let is = are k s e in ((is.home, is.start), is.number))
