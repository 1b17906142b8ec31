-- Distinct words have distinct numbers.
use Rattle.std.proofs.Common.{◌≡◌, ℕ, suc, ◌+◌, ◌*◌, ◌<◌, ◌≤◌, ◌==◌, ◌&&◌, Bool, true, false}
use Rattle.std.proofs.Common.{refl, ap, arith, mul-le-mul_right, eqb-true}
use Rattle.std.proofs.Common.{eq-eqb, suc-mul}
use native.Mathlib.Decide.{dec_lt}
use Rattle.mv_layout.specs.declared.config.Config.{Config}
use Rattle.mv_layout.specs.declared.places.SharedWord.{SharedWord}
use Rattle.mv_layout.specs.declared.places.SharedWord.TheVariants.{Clock, Grace, Mark, Head, Master, First, Stamp, Prev, Super, Data}
use Rattle.mv_layout.specs.Limits.{Checked}
use Rattle.mv_layout.specs.Places.{total, place_of, IsPlace, same}

pub below : (s t k n : ℕ) → s < t → k < n → s * n + k < t * n
below s t k n lt in_row = let m : suc s * n ≤ t * n = mul-le-mul_right n lt in omega (arith, suc-mul s n)

pub in_table : (c : Config) (p : SharedWord) → Checked c → IsPlace c p → place_of c p < total c
in_table c Clock k h = omega arith
in_table c Grace k h = omega arith
in_table c (Mark s) k h = omega arith
in_table c (Head o) k h = omega arith
in_table c (Master o w) k h = omega arith
in_table c (First s j) k h = let b = below s c.seats j c.slots h.0 h.1 in omega arith
in_table c (Stamp s j) k h = let b = below s c.seats j c.slots h.0 h.1 in omega arith
in_table c (Prev s j) k h = let b = below s c.seats j c.slots h.0 h.1 in omega arith
in_table c (Super s j) k h = let b = below s c.seats j c.slots h.0 h.1 in omega arith
in_table c (Data s j w) k h = let b = below s c.seats j c.slots h.0 h.1 in omega arith

-- two places in rows of slots
row_go : (s t j k n : ℕ) → s * n + j ≡ t * n + k → j < n → k < n → Dec (s < t) → Dec (t < s) → (s ≡ t) × (j ≡ k)
row_go s t j k n e hj hk (yes lt) d = let b = below s t j n lt hj in absurd (omega arith)
row_go s t j k n e hj hk (no a) (yes lt) = let b = below t s k n lt hk in absurd (omega arith)
row_go s t j k n e hj hk (no a) (no b) = let e' : s ≡ t = omega arith in let f : s * n ≡ t * n = ap (λ (x : ℕ). x * n) e' in (e', omega arith)

pub same_row : (s t j k n : ℕ) → s * n + j ≡ t * n + k → j < n → k < n → (s ≡ t) × (j ≡ k)
same_row s t j k n e hj hk = row_go s t j k n e hj hk (dec_lt s t) (dec_lt t s)

abbrev pub two : (a b : Bool) → a ≡ true → b ≡ true → (a && b) ≡ true
two true b e f = f
two false b e f = e

-- two words at one place are one word
pub one_place : (c : Config) (p q : SharedWord) → Checked c → IsPlace c p → IsPlace c q → place_of c p ≡ place_of c q → same p q ≡ true
one_place c Clock Clock k a b e = refl
one_place c Grace Grace k a b e = refl
one_place c (Mark s) (Mark t) k a b e = eq-eqb s t (omega arith)
one_place c (Head o) (Head p) k a b e = eq-eqb o p (omega arith)
one_place c (Master o w) (Master p x) k a b e = two (o == p) (w == x) (eq-eqb o p (omega arith)) (eq-eqb w x (omega arith))
one_place c (First s i) (First t j) k a b e = let r = same_row s t i j c.slots (omega arith) a.1 b.1 in two (s == t) (i == j) (eq-eqb s t r.0) (eq-eqb i j r.1)
one_place c (Stamp s i) (Stamp t j) k a b e = let r = same_row s t i j c.slots (omega arith) a.1 b.1 in two (s == t) (i == j) (eq-eqb s t r.0) (eq-eqb i j r.1)
one_place c (Prev s i) (Prev t j) k a b e = let r = same_row s t i j c.slots (omega arith) a.1 b.1 in two (s == t) (i == j) (eq-eqb s t r.0) (eq-eqb i j r.1)
one_place c (Super s i) (Super t j) k a b e = let r = same_row s t i j c.slots (omega arith) a.1 b.1 in two (s == t) (i == j) (eq-eqb s t r.0) (eq-eqb i j r.1)
one_place c (Data s i w) (Data t j x) k a b e =
    let r = same_row s t i j c.slots (omega arith) a.1 b.1 in
    two (s == t) ((i == j) && (w == x)) (eq-eqb s t r.0) (two (i == j) (w == x) (eq-eqb i j r.1) (eq-eqb w x (omega arith)))
one_place c _ _ k a b e = absurd (omega arith)

both : (a b : Bool) → (a && b) ≡ true → (a ≡ true) × (b ≡ true)
both true true e = (refl, refl)
both true false e = (refl, e)
both false b e = cc

pub same_is : (p q : SharedWord) → same p q ≡ true → p ≡ q
same_is Clock Clock e = refl
same_is Grace Grace e = refl
same_is (Mark s) (Mark t) e = ap Mark (eqb-true s t e)
same_is (Head o) (Head p) e = ap Head (eqb-true o p e)
same_is (Master o w) (Master p x) e = let b = both (o == p) (w == x) e in λ i. Master (eqb-true o p b.0 i) (eqb-true w x b.1 i)
same_is (First s k) (First t l) e = let b = both (s == t) (k == l) e in λ i. First (eqb-true s t b.0 i) (eqb-true k l b.1 i)
same_is (Stamp s k) (Stamp t l) e = let b = both (s == t) (k == l) e in λ i. Stamp (eqb-true s t b.0 i) (eqb-true k l b.1 i)
same_is (Prev s k) (Prev t l) e = let b = both (s == t) (k == l) e in λ i. Prev (eqb-true s t b.0 i) (eqb-true k l b.1 i)
same_is (Super s k) (Super t l) e = let b = both (s == t) (k == l) e in λ i. Super (eqb-true s t b.0 i) (eqb-true k l b.1 i)
same_is (Data s k w) (Data t l x) e =
    let b = both (s == t) ((k == l) && (w == x)) e in let d =
    both (k == l) (w == x) b.1 in λ i. Data (eqb-true s t b.0 i) (eqb-true k l d.0 i) (eqb-true w x d.1 i)
same_is _ _ e = absurd cc
