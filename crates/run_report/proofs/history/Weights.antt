-- In ordered lines neither the time falls nor, at one time, does a commit come after a read.
use Rattle.std.proofs.Common.{◌≡◌, ℕ, suc, ◌+◌, ◌*◌, ◌≤◌, false, List, [], ◌∷◌, arith}
use Rattle.std.specs.List.{All}
use Rattle.std.specs.Ordering.{is_lt}
use Rattle.std.proofs.lemmas.Bool.Decides.{nat_tests}
use Rattle.std.proofs.lemmas.List.Elements.{All-nil, All-cons, All-weaker}
use Rattle.run_report.specs.declared.line.Line.{Line}
use Rattle.run_report.specs.Order.{time_of, rank_of, key_cmp, is_ahead, IsOrdered}
use Rattle.run_report.proofs.Ordering.{rank_low}

-- the time and the rank of a line as one number
abbrev pub weight : Line → ℕ
weight line = 2 * time_of line.place + rank_of line.place

not_below : (t r s n t' r' s' n' : ℕ) → r' ≤ 1 → is_lt (key_cmp (t, r, s, n) (t', r', s', n')) ≡ false → 2 * t' + r' ≤ 2 * t + r
not_below t r s n t' r' s' n' low e = grind (arith, nat_tests)

weight_rises : (a b : Line) → is_ahead b a ≡ false → weight a ≤ weight b
weight_rises a b e =
    not_below (time_of b.place) (rank_of b.place) b.seat b.number (time_of a.place) (rank_of a.place) a.seat a.number (rank_low a.place) e

-- the lines after the first are in order
pub ordered_tail : (x : Line) (xs : List Line) → IsOrdered (x ∷ xs) → IsOrdered xs
ordered_tail x xs ordered k d low lt =
    let more : suc k + 1 ≡ suc (k + 1) = omega arith in
    rw more at (ordered (suc k) d (omega arith) (omega arith))

-- and none weighs less than the first
pub first_least : (x : Line) (xs : List Line) → IsOrdered (x ∷ xs) → All (λ y. weight x ≤ weight y) xs
first_least x [] ordered = All-nil _
first_least x (y ∷ ys) ordered =
    let one : weight x ≤ weight y = weight_rises x y (ordered 0 x (omega arith) (omega arith)) in
    All-cons (λ z. weight x ≤ weight z) y ys one
    (All-weaker (λ z. weight y ≤ weight z) (λ z. weight x ≤ weight z) (λ z le. omega (arith, le, one)) ys (first_least y ys (ordered_tail x (y ∷ ys) ordered)))
