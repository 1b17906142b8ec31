-- Which objects are written.
use Rattle.section_work.proofs.Terms.{◌≡◌, ◌≢◌, ◌⊎◌, ◌||◌, ◌∷◌, ◌++◌, ℕ, List, inl, inr, Bool, true, false, eqb, [], sym, ap, ◌∙◌, arith, eq-eqb, eqb-true}
use Rattle.section_work.proofs.Terms.{refl, true≢false, nat_tests, false_from_ne_true, Writes, touches, are_distinct, objects_of}

-- the object is one of these, as a choice of one of them
abbrev pub IsIn : ℕ → List ℕ → Type 0
IsIn o [] = ⊥
IsIn o (n ∷ ns) = (o ≡ n) ⊎ IsIn o ns

-- lists of objects one after another
pub in_left : (xs ys : List ℕ) (o : ℕ) → IsIn o xs → IsIn o (xs ++ ys)
in_left [] ys o i = absurd i
in_left (x ∷ xs) ys o (inl e) = inl e
in_left (x ∷ xs) ys o (inr i) = inr (in_left xs ys o i)

pub in_right : (xs ys : List ℕ) (o : ℕ) → IsIn o ys → IsIn o (xs ++ ys)
in_right [] ys o i = i
in_right (x ∷ xs) ys o i = inr (in_right xs ys o i)

pub in_either : (xs ys : List ℕ) (o : ℕ) → IsIn o (xs ++ ys) → IsIn o xs ⊎ IsIn o ys
in_either [] ys o i = inr i
in_either (x ∷ xs) ys o (inl e) = inl (inl e)
in_either (x ∷ xs) ys o (inr i) = elim (in_either xs ys o i) [ inl j ↦ inl (inr j) | inr j ↦ inr j ]

-- an object that is written
pub touches-in : (ws : Writes) (o : ℕ) → IsIn o (objects_of ws) → touches ws o ≡ true
touches-in [] o i = absurd i
touches-in (w ∷ ws) o (inl e) = ap (λ b. b || touches ws o) (eq-eqb w.0 o (sym e))
touches-in (w ∷ ws) o (inr i) = let r = touches-in ws o i in grind (arith, nat_tests)

pub in-touches : (ws : Writes) (o : ℕ) → touches ws o ≡ true → IsIn o (objects_of ws)
in-touches [] o e = cc
in-touches (w ∷ ws) o e = go (eqb w.0 o) refl (in-touches ws o) e
  where
    go : (b : Bool) → eqb w.0 o ≡ b → (touches ws o ≡ true → IsIn o (objects_of ws)) → b || touches ws o ≡ true → IsIn o (objects_of (w ∷ ws))
    go true q r _ = inl (sym (eqb-true w.0 o q))
    go false q r f = inr (r f)

pub touches-out : (ws : Writes) (o : ℕ) → (IsIn o (objects_of ws) → ⊥) → touches ws o ≡ false
touches-out ws o n = false_from_ne_true (touches ws o) (λ e. n (in-touches ws o e))

pub out-touches : (ws : Writes) (o : ℕ) → touches ws o ≡ false → IsIn o (objects_of ws) → ⊥
out-touches ws o e i = true≢false (sym (touches-in ws o i) ∙ e)

-- two objects, once each
pub distinct-pair : (o p : ℕ) (x y : List ℕ) → o ≢ p → are_distinct ((o, x) ∷ (p, y) ∷ []) ≡ true
distinct-pair o p x y n = grind (arith, nat_tests)
