-- Things whose numbers all differ and are below a bound have each number below it, where they are as many.
use Rattle.std.proofs.Common.{◌≡◌, ◌≢◌, ℕ, suc, ◌<◌, ◌||◌, eqb, true, false, List, [], ◌∷◌, length, sym, refl, ap, ◌∙◌, subst}
use Rattle.std.proofs.Common.{⊎_elim, arith, eqb-true}
use Rattle.std.specs.Prelude.{All, AllPairs, Contains}
use Rattle.std.specs.List.{AllByRecursion, IsDistinct, list_any}
use Rattle.std.proofs.lemmas.List.Elements.{All-contains}
use Rattle.std.proofs.lemmas.Map.Steps.{length-le_from_distinct_below}
use Rattle.object_lock.proofs.mv_core_lemmas.kinds.naming.entry.NewEntry.{bool_is}

pub contains_tail : {X : Type 0} (xs : List X) (x y : X) → Contains xs y → Contains (x ∷ xs) y
contains_tail xs x y (i, lt, e) = (suc i, omega (arith, lt), e)

module _ {X : Type 0} (f : X → ℕ) where
  -- the numbers of these
  abbrev numbers : List X → List ℕ
  numbers [] = []
  numbers (x ∷ xs) = f x ∷ numbers xs

  length_numbers : (xs : List X) → length (numbers xs) ≡ length xs
  length_numbers [] = refl
  length_numbers (x ∷ xs) = ap suc (length_numbers xs)

  -- one of these has this number
  pub record HasNumber (xs : List X) (n : ℕ) : Type 0 where
    pub it : X
    pub there : Contains xs it
    pub number : f it ≡ n

  has_number : (xs : List X) (n : ℕ) → list_any (eqb n) (numbers xs) ≡ true → HasNumber xs n
  has_number [] n e = absurd cc
  has_number (x ∷ xs) n e =
      ⊎_elim
      (λ yes. record { it = x; there = (0, omega arith, refl); number = sym (eqb-true n (f x) yes) })
      (λ no.
      let r = has_number xs n (ap (λ b. b || list_any (eqb n) (numbers xs)) (sym no) ∙ e) in
      record { it = r.it; there = contains_tail xs x r.it r.there; number = r.number })
      (bool_is (eqb n (f x)))

  others : (xs : List X) (n : ℕ) → list_any (eqb n) (numbers xs) ≡ false → AllByRecursion (λ m. eqb n m ≡ false) (numbers xs)
  others [] n e = tt
  others (x ∷ xs) n e =
      ⊎_elim
      (λ yes. let clash : true ≡ false = ap (λ b. b || list_any (eqb n) (numbers xs)) (sym yes) ∙ e in absurd cc)
      (λ no. (no, others xs n (ap (λ b. b || list_any (eqb n) (numbers xs)) (sym no) ∙ e)))
      (bool_is (eqb n (f x)))

  distinct : (xs : List X) → AllPairs (λ x y. f x ≢ f y) xs → IsDistinct eqb (numbers xs)
  unfolding IsDistinct
  distinct [] apart = tt
  distinct (x ∷ xs) apart = (
    others xs (f x) (⊎_elim
        (λ yes.
        let r = has_number xs (f x) yes in
        let c = r.there in
        let differ = apart 0 (suc c.0) r.it (omega arith) (let lt = c.1 in omega arith) in
        absurd (differ (sym r.number ∙ sym (ap f c.2))))
        (λ no. no)
        (bool_is (list_any (eqb (f x)) (numbers xs)))),
    distinct xs (λ i j d lt within. apart (suc i) (suc j) d (omega arith) (omega arith)),
  )

  within : (xs : List X) (n : ℕ) → All (λ x. f x < n) xs → (m : ℕ) → list_any (eqb m) (numbers xs) ≡ true → m < n
  within xs n all m e =
      let r = has_number xs m e in subst (λ (k : ℕ). k < n) r.number (All-contains (λ x. f x < n) xs r.it all r.there)

  -- they have each number below the bound
  pub have_all : (xs : List X) (n : ℕ) → length xs ≡ n → AllPairs (λ x y. f x ≢ f y) xs → All (λ x. f x < n) xs → (m : ℕ) → m < n → HasNumber xs m
  unfolding IsDistinct
  have_all xs n many apart all m low =
      ⊎_elim
      (λ yes. has_number xs m yes)
      (λ no.
      let few = length-le_from_distinct_below (m ∷ numbers xs) n (others xs m no, distinct xs apart)
      (λ q e. ⊎_elim
      (λ is. subst (λ (k : ℕ). k < n) (sym (eqb-true q m is)) low)
      (λ other. within xs n all q (ap (λ b. b || list_any (eqb q) (numbers xs)) (sym other) ∙ e))
      (bool_is (eqb q m))) in
      let long = length_numbers xs in
      absurd (omega arith))
      (bool_is (list_any (eqb m) (numbers xs)))
