-- Lines can be put in their order: each line goes into ordered lines at its place.
use Rattle.std.proofs.Common.{◌≡◌, ℕ, zero, suc, ◌+◌, Bool, true, false, if◌then◌else◌, List, [], ◌∷◌, refl, arith}
use Rattle.std.specs.Ordering.{is_lt}
use Rattle.std.specs.List.Sorted.{IsPermutation}
use Rattle.std.proofs.lemmas.Bool.Decides.{nat_tests}
use Rattle.std.proofs.lemmas.List.Sorted.{
  IsPermutation-refl,
  IsPermutation-trans,
  IsPermutation-cons,
  IsPermutation-append_comm,
  IsPermutation-append_left,
}
use Rattle.run_report.specs.declared.line.Line.{Line}
use Rattle.run_report.specs.Order.{time_of, rank_of, key_cmp, is_ahead, IsOrdered}
use Rattle.run_report.proofs.history.Weights.{ordered_tail}

-- a line among ordered lines, at its place
insert_line : Line → List Line → List Line
insert_line x [] = x ∷ []
insert_line x (y ∷ ys) = if is_ahead x y then x ∷ y ∷ ys else y ∷ insert_line x ys

swapped : (x y : Line) (ys : List Line) → IsPermutation (x ∷ y ∷ ys) (y ∷ x ∷ ys)
swapped x y ys = IsPermutation-append_left ys (x ∷ y ∷ []) (y ∷ x ∷ []) (IsPermutation-append_comm (x ∷ []) (y ∷ []))

-- a line at its place by whether it is ahead of the first of the others
by_first : (x y : Line) (ys : List Line) (b : Bool) → IsPermutation (x ∷ ys) (insert_line x ys)
    → IsPermutation (x ∷ y ∷ ys) (if b then x ∷ y ∷ ys else y ∷ insert_line x ys)
by_first x y ys true rest = IsPermutation-refl _
by_first x y ys false rest = IsPermutation-trans _ _ _ (swapped x y ys) (IsPermutation-cons y (x ∷ ys) (insert_line x ys) rest)

insert_permutes : (x : Line) (ys : List Line) → IsPermutation (x ∷ ys) (insert_line x ys)
unfolding insert_line
insert_permutes x [] = IsPermutation-refl _
insert_permutes x (y ∷ ys) = by_first x y ys (is_ahead x y) (insert_permutes x ys)

-- no line is ahead of one that is ahead of it
not_below : (t r s n t' r' s' n' : ℕ) → is_lt (key_cmp (t, r, s, n) (t', r', s', n')) ≡ true → is_lt (key_cmp (t', r', s', n') (t, r, s, n)) ≡ false
not_below t r s n t' r' s' n' e = grind (arith, nat_tests)

not_ahead : (x y : Line) → is_ahead x y ≡ true → is_ahead y x ≡ false
not_ahead x y e = not_below (time_of x.place) (rank_of x.place) x.seat x.number (time_of y.place) (rank_of y.place) y.seat y.number e

-- no first line of these is ahead of this one
abbrev IsBefore : Line → List Line → Type 0
IsBefore y zs = (z : Line) (r : List Line) → zs ≡ z ∷ r → is_ahead z y ≡ false

ordered_cons : (y : Line) (zs : List Line) → IsBefore y zs → IsOrdered zs → IsOrdered (y ∷ zs)
ordered_cons y [] before ordered k d low lt = absurd (omega arith)
ordered_cons y (z ∷ zs) before ordered zero d low lt = before z zs refl
ordered_cons y (z ∷ zs) before ordered (suc k) d low lt =
    let more : suc k + 1 ≡ suc (k + 1) = omega arith in
    rw more (ordered k d (omega arith) (omega arith))

before_rest : (y : Line) (ys : List Line) → IsOrdered (y ∷ ys) → IsBefore y ys
before_rest y [] ordered z r is = absurd (cc)
before_rest y (w ∷ ws) ordered z r is = let same : w ≡ z = cc in rw (← same) (ordered 0 y (omega arith) (omega arith))

before_inserted : (x y : Line) (ys : List Line) → is_ahead x y ≡ false → IsBefore y ys → IsBefore y (insert_line x ys)
unfolding insert_line
before_inserted x y [] e before z r is = let same : x ≡ z = cc in rw (← same) e
before_inserted x y (w ∷ ys) e before z r is = by (is_ahead x w) is
  where
    by : (b : Bool) → (if b then x ∷ w ∷ ys else w ∷ insert_line x ys) ≡ z ∷ r → is_ahead z y ≡ false
    by true is' = let same : x ≡ z = cc in rw (← same) e
    by false is' = let same : w ≡ z = cc in rw (← same) (before w ys refl)

insert_ordered : (x : Line) (ys : List Line) → IsOrdered ys → IsOrdered (insert_line x ys)
unfolding insert_line
insert_ordered x [] ordered = ordered_cons x [] (λ z r is. absurd (cc)) ordered
insert_ordered x (y ∷ ys) ordered = by (is_ahead x y) refl (insert_ordered x ys (ordered_tail y ys ordered))
  where
    by : (b : Bool) → is_ahead x y ≡ b → IsOrdered (insert_line x ys) → IsOrdered (if b then x ∷ y ∷ ys else y ∷ insert_line x ys)
    by true e rest = ordered_cons x (y ∷ ys) (λ z r is. let same : y ≡ z = cc in rw (← same) (not_ahead x y e)) ordered
    by false e rest = ordered_cons y (insert_line x ys) (before_inserted x y ys e (before_rest y ys ordered)) rest

-- some permutation of the lines is ordered
pub some_order : (lines : List Line) → (ordered : List Line) × IsPermutation lines ordered × IsOrdered ordered
some_order [] = ([], IsPermutation-refl _, λ k d low lt. absurd (omega arith))
some_order (x ∷ xs) =
    let rest = some_order xs in (
      insert_line x rest.0,
      IsPermutation-trans _ _ _ (IsPermutation-cons x xs rest.0 rest.1) (insert_permutes x rest.0),
      insert_ordered x rest.0 rest.2,
    )
