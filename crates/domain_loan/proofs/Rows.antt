-- Rows and results.
use Rattle.domain_loan.proofs.Terms.{◌≡◌, ◌<◌, ◌∷◌, ℕ, zero, suc, List, [], length, All, Result, Ok, Err, refl, subst, arith, IfOk, some, get_elem?}
use Rattle.domain_loan.proofs.Terms.{some-injective}

-- what stands at a place is below the count
pub place_below : {X : Type 0} (xs : List X) (k : ℕ) (x : X) → get_elem? xs k ≡ some x → k < length xs
place_below [] k x e = absurd (cc)
place_below (y ∷ xs) zero x e = omega arith
place_below (y ∷ xs) (suc k) x e = let b = place_below xs k x e in omega arith

-- and below the count something stands
pub at_below : {X : Type 0} (xs : List X) (k : ℕ) → k < length xs → (x : X) × (get_elem? xs k ≡ some x)
at_below [] k lt = absurd (omega arith)
at_below (y ∷ xs) zero lt = (y, refl)
at_below (y ∷ xs) (suc k) lt = at_below xs k (omega arith)

-- what holds of all of a row holds of the one at a place
pub all_at : {X : Type 0} (P : X → Type 0) (xs : List X) (k : ℕ) (x : X) → get_elem? xs k ≡ some x → All P xs → P x
all_at P [] k x e all = absurd (cc)
all_at P (y ∷ xs) zero x e all = subst P (some-injective y x e) (all 0 y (omega arith))
all_at P (y ∷ xs) (suc k) x e all = all_at P xs k x e (λ j d lt. all (suc j) d (omega arith))

-- what follows from what holds where a result is fine
pub if_ok : {A E : Type 0} {P Q : A → Type 0} (r : Result A E) → ((a : A) → P a → Q a) → IfOk r P → IfOk r Q
if_ok (Ok a) f p = f a p
if_ok (Err e) f p = tt
