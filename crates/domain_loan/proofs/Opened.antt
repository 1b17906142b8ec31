-- The seats of a domain that was just opened, and those that a run hands back.
use Rattle.mv_layout.specs.declared.Config.{Config}
use Rattle.mvrlu.specs.Opened.{IsOpened, IsNewSeatOf}
use Rattle.domain_loan.proofs.Terms.{◌≡◌, ◌+◌, ◌∷◌, ◌∙◌, ℕ, suc, List, [], length, map, refl, sym, ap, subst, arith, length-map, some, get_elem?, State, Domain}
use Rattle.domain_loan.proofs.Terms.{Seat, seat_of, AreAll, AreNewFrom}
use Rattle.domain_loan.proofs.Seats.{all_itself, all_back}

module _ {P : Type 0} {rules : _} (d : Domain P) where
  new_from : (number : ℕ) (seats : List (Seat P rules))
      → ((k : ℕ) (s : Seat P rules) → get_elem? seats k ≡ some s → IsNewSeatOf d.shared (number + k) s)
      → AreNewFrom d number (map (λ s. seat_of s) seats)
  new_from number [] each = tt
  new_from number (s ∷ seats) each =
      let here : number + 0 ≡ number = omega arith in (
        (subst (λ n. IsNewSeatOf d.shared n s) here (each 0 s refl)).0,
        new_from (suc number) seats (λ k t is.
            let next : number + suc k ≡ suc number + k = omega arith in
            subst (λ n. IsNewSeatOf d.shared n t) next (each (suc k) t is)),
      )

  -- the seats that a domain was opened with are new
  pub opened_new : (c : Config) (start : State) (seats : List (Seat P rules)) → IsOpened c start d seats → AreNewFrom d 0 (map (λ s. seat_of s) seats)
  opened_new c start seats o =
      new_from 0 seats (λ k s is.
      let same : k ≡ 0 + k = omega arith in
      subst (λ n. IsNewSeatOf d.shared n s) same (o.each k s is))

  -- what a run hands back can meet
  pub refused_all : (c : Config) (start : State) (seats : List (Seat P rules)) → IsOpened c start d seats → (e : Domain P) (back : List (Seat P rules))
      → e ≡ d → map (λ s. seat_of s) back ≡ map (λ s. seat_of s) seats → AreAll e back
  refused_all c start seats o e back same means =
      let new = subst (λ ss. AreNewFrom d 0 ss) (sym means) (opened_new c start seats o) in
      subst (λ f. AreAll f back) (sym same)
      (all_back d (map (λ s. seat_of s) back) back new (all_itself (map (λ s. seat_of s) back))
      (sym (length-map back (λ s. seat_of s)) ∙ ap length means ∙ length-map seats (λ s. seat_of s) ∙ o.many ∙ ap (λ (n : Config). n.seats) (sym o.numbers)))
