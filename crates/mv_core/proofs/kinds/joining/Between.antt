-- Where an element stands of a list that is put together of two and one between them.
use Rattle.std.proofs.Common.{◌≡◌, ◌⊎◌, ℕ, zero, suc, ◌+◌, List, [], ◌∷◌, ◌++◌, length, sym, refl, ap, inl, inr, ⊎_elim, arith}
use Rattle.std.specs.Prelude.{Contains}
use Rattle.std.proofs.lemmas.List.Elements.{Contains-append_cases}
use Rattle.mv_core.proofs.Terms.{some, some-injective, some-ne-none, get_elem?}

-- where an element of a list stands that is put together of two and one between them
pub record After {A : Type 0} (zs : List A) (n : ℕ) (i : ℕ) (a : A) : Type 0 where
  pub step : ℕ
  pub place : i ≡ n + suc step
  pub there : get_elem? zs step ≡ some a

pub between : {A : Type 0} (xs zs : List A) (y a : A) (i : ℕ) → get_elem? (xs ++ y ∷ zs) i ≡ some a
    → (get_elem? xs i ≡ some a) ⊎ (((i ≡ length xs) × (y ≡ a)) ⊎ After zs (length xs) i a)
between [] zs y a zero e = inr (inl (refl, some-injective y a e))
between [] zs y a (suc i) e = inr (inr (record { step = i; place = omega arith; there = e }))
between (x ∷ xs) zs y a zero e = inl e
between (x ∷ xs) zs y a (suc i) e =
    ⊎_elim inl
    (λ r. inr (⊎_elim (λ here. inl (ap suc here.0, here.1))
    (λ after. inr (record { step = after.step; place = (let is = after.place in omega arith); there = after.there })) r))
    (between xs zs y a i e)

-- an element at a place is one of the list
pub at_contains : {A : Type 0} (xs : List A) (i : ℕ) (a : A) → get_elem? xs i ≡ some a → Contains xs a
at_contains [] i a e = absurd (some-ne-none a (sym e))
at_contains (x ∷ xs) zero a e = (zero, omega arith, some-injective x a e)
at_contains (x ∷ xs) (suc i) a e = let r = at_contains xs i a e in let lt = r.1 in (suc r.0, omega arith, r.2)

-- an element of a list that is put together of two and one between them
pub contains_between : {A : Type 0} (xs zs : List A) (y a : A) → Contains (xs ++ y ∷ zs) a → (Contains xs a) ⊎ ((y ≡ a) ⊎ Contains zs a)
contains_between xs zs y a has = ⊎_elim inl (λ r. inr (first_or zs y a r)) (Contains-append_cases xs (y ∷ zs) a has)
  where
    first_or : {A : Type 0} (zs : List A) (y a : A) → Contains (y ∷ zs) a → (y ≡ a) ⊎ Contains zs a
    first_or zs y a (zero, lt, e) = inl e
    first_or zs y a (suc i, lt, e) = inr (i, omega (arith, lt), e)
