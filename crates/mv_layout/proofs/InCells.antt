-- Distinct words lie in distinct cells, and a write to one leaves the others.
use Rattle.std.proofs.Common.{◌≡◌, ℕ, ◌<◌, ◌==◌, ◌&&◌, Bool, true, false, cond, List, set}
use Rattle.std.proofs.Common.{get_or, sym, refl, ap, ◌∙◌, arith, length-set, get_or-set_other, get_or-set_same, eq-eqb}
use Rattle.mv_layout.specs.declared.config.Config.{Config}
use Rattle.mv_layout.specs.declared.places.SharedWord.{SharedWord}
use Rattle.mv_layout.specs.declared.places.SharedWord.TheVariants.{Clock, Grace, Mark, Head, Master, First, Stamp, Prev, Super, Data}
use Rattle.mv_layout.specs.Limits.{Checked}
use Rattle.mv_layout.specs.Places.{IsPlace, same, Memory, put}
use Rattle.mv_layout.specs.Cells.{cells, cell_of, Shows}
use Rattle.mv_layout.proofs.Distinct.{below, same_row, two, same_is}

pub in_cells : (c : Config) (p : SharedWord) → Checked c → IsPlace c p → cell_of c p < cells c
in_cells c Clock k h = omega arith
in_cells c Grace k h = omega arith
in_cells c (Mark s) k h = omega arith
in_cells c (Head o) k h = omega arith
in_cells c (Master o w) k h = omega arith
in_cells c (First s j) k h = let b = below s c.seats j c.slots h.0 h.1 in omega arith
in_cells c (Stamp s j) k h = let b = below s c.seats j c.slots h.0 h.1 in omega arith
in_cells c (Prev s j) k h = let b = below s c.seats j c.slots h.0 h.1 in omega arith
in_cells c (Super s j) k h = let b = below s c.seats j c.slots h.0 h.1 in omega arith
in_cells c (Data s j w) k h = let b = below s c.seats j c.slots h.0 h.1 in omega arith

-- two words of one cell are one word
pub one_cell : (c : Config) (p q : SharedWord) → Checked c → IsPlace c p → IsPlace c q → cell_of c p ≡ cell_of c q → same p q ≡ true
one_cell c Clock Clock k a b e = refl
one_cell c Grace Grace k a b e = refl
one_cell c (Mark s) (Mark t) k a b e = eq-eqb s t (omega arith)
one_cell c (Head o) (Head p) k a b e = eq-eqb o p (omega arith)
one_cell c (Master o w) (Master p x) k a b e = two (o == p) (w == x) (eq-eqb o p (omega arith)) (eq-eqb w x (omega arith))
one_cell c (First s i) (First t j) k a b e = let r = same_row s t i j c.slots (omega arith) a.1 b.1 in two (s == t) (i == j) (eq-eqb s t r.0) (eq-eqb i j r.1)
one_cell c (Stamp s i) (Stamp t j) k a b e = let r = same_row s t i j c.slots (omega arith) a.1 b.1 in two (s == t) (i == j) (eq-eqb s t r.0) (eq-eqb i j r.1)
one_cell c (Prev s i) (Prev t j) k a b e = let r = same_row s t i j c.slots (omega arith) a.1 b.1 in two (s == t) (i == j) (eq-eqb s t r.0) (eq-eqb i j r.1)
one_cell c (Super s i) (Super t j) k a b e = let r = same_row s t i j c.slots (omega arith) a.1 b.1 in two (s == t) (i == j) (eq-eqb s t r.0) (eq-eqb i j r.1)
one_cell c (Data s i w) (Data t j x) k a b e =
    let r = same_row s t i j c.slots (omega arith) a.1 b.1 in
    two (s == t) ((i == j) && (w == x)) (eq-eqb s t r.0) (two (i == j) (w == x) (eq-eqb i j r.1) (eq-eqb w x (omega arith)))
one_cell c _ _ k a b e = absurd (omega arith)

-- the words after a write show the memory after it
put_go : (c : Config) (ws : List ℕ) (m : Memory) (p q : SharedWord) (n : ℕ) → Checked c → Shows c ws m → IsPlace c p → IsPlace c q → (b : Bool) → same p q ≡ b
    → get_or (set ws (cell_of c p) n) (cell_of c q) 0 ≡ cond b n (m q)
put_go c ws m p q n k s hp hq true e =
    let is : cell_of c q ≡ cell_of c p = ap (cell_of c) (sym (same_is p q e)) in let b = in_cells c p k hp in
    ap (λ (i : ℕ). get_or (set ws (cell_of c p) n) i 0) is ∙ get_or-set_same ws (cell_of c p) n 0 (omega (arith, s.wide))
put_go c ws m p q n k s hp hq false e =
    get_or-set_other ws (cell_of c p) (cell_of c q) n 0 (λ (is : cell_of c q ≡ cell_of c p). let t = one_cell c p q k hp hq (sym is) in absurd cc)
    ∙ s.each q hq

pub shows_put : (c : Config) (ws : List ℕ) (m : Memory) (p : SharedWord) (n : ℕ) → Checked c → Shows c ws m → IsPlace c p
    → Shows c (set ws (cell_of c p) n) (put m p n)
shows_put c ws m p n k s hp = record { wide = length-set ws (cell_of c p) n ∙ s.wide; each = λ q hq. put_go c ws m p q n k s hp hq (same p q) refl }
