-- A ring of linked objects from which one is taken and put elsewhere.
use Rattle.std.proofs.Common.{◌≡◌, ◌≢◌, ℕ, ◌+◌, ◌-◌, ◌<◌, min, cond, eqb, sym, ap, subst, ◌∙◌, inl, inr, ◌⊎◌, arith}
use Rattle.std.proofs.lemmas.Bool.{cases_eq}
use Rattle.std.proofs.lemmas.Bool.Decides.{nat_tests}
use Rattle.mv_client.specs.Linked.{Follows, IsRing}
use Rattle.mv_client.proofs.Linked.{apart}

-- the place of what stood at i, once place k is empty
abbrev closed : ℕ → ℕ → ℕ
closed k i = i - min 1 (i - k)

-- the place of what stood at i, once another stands behind place j
abbrev opened_behind : ℕ → ℕ → ℕ
opened_behind j i = i + min 1 (i - j)

closed_one : (k i l : ℕ) → i ≢ k → l ≢ k → closed k i ≡ closed k l → i ≡ l
closed_one k i l a b e = omega (arith, a, b, e)

closed_next : (k i : ℕ) → i ≢ k → i + 1 ≢ k → closed k (i + 1) ≡ closed k i + 1
closed_next k i a b = omega (arith, a, b)

closed_last : (k i n : ℕ) → i ≢ k → k < n → i + 1 ≡ n → closed k i + 2 ≡ n
closed_last k i n a l e = omega (arith, a, l, e)

closed_below : (k i n : ℕ) → i ≢ k → i < n → k < n → closed k i + 1 < n
closed_below k i n a l m = omega (arith, a, l, m)

open_last : (j i n : ℕ) → i ≢ j → j + 1 < n → i + 2 ≡ n → opened_behind j i + 1 ≡ n
open_last j i n a l e = omega (arith, a, l, e)

open_one : (j i l : ℕ) → opened_behind j i ≡ opened_behind j l → i ≡ l
open_one j i l e = omega (arith, e)

open_next : (j i : ℕ) → i ≢ j → opened_behind j (i + 1) ≡ opened_behind j i + 1
open_next j i a = omega (arith, a)

test_same : (o a b : ℕ) → cond (eqb o o) a b ≡ a
test_same o a b = grind (arith, nat_tests)

test_other : (o u a b : ℕ) → o ≢ u → cond (eqb o u) a b ≡ b
test_other o u a b n = grind (arith, nat_tests)

-- The ring after a move: u is taken from behind p and put behind h.
module _ {heads size : ℕ} {next place : ℕ → ℕ} (after : ℕ → ℕ) (r : IsRing heads size next place) (p u h : ℕ) (lp : p < size) (lu : u < size) (lh : h < size)
    (ph : p ≢ h) (uh : u ≢ h) (some : u ≢ 0) (here : next p ≡ u) (mp : after p ≡ next u) (mu : after u ≡ next h)
    (mh : after h ≡ u) (others : (o : ℕ) → o ≢ p → o ≢ u → o ≢ h → after o ≡ next o) where
  abbrev j : ℕ
  j = closed (place u) (place h)

  abbrev moved_to : ℕ → ℕ
  moved_to o = cond (eqb o u) (j + 1) (opened_behind j (closed (place u) (place o)))

  at_u : moved_to u ≡ j + 1
  at_u = test_same u _ _

  at_other : (o : ℕ) → o ≢ u → moved_to o ≡ opened_behind j (closed (place u) (place o))
  at_other o n = test_other o u _ _ n

  -- u stands behind p
  behind : place u ≡ place p + 1
  behind = elim (r.follows p lp) [
    | inl back ↦ absurd (some (sym here ∙ back.0))
    | inr on ↦ ap place (sym here) ∙ on.1
  ]

  not_j : (o : ℕ) → o < size → o ≢ u → o ≢ h → closed (place u) (place o) ≢ j
  not_j o l nu nh q =
      apart r o h l lh nh (closed_one (place u) (place o) (place h) (apart r o u l lu nu) (apart r h u lh lu (λ w. uh (sym w))) q)

  -- an object that was followed by another than u, or by what followed u, is followed by it at the next place
  goes_to : (o x : ℕ) → o < size → o ≢ u → o ≢ h → after o ≡ x
      → ((x ≡ 0) × (closed (place u) (place o) + 2 ≡ size)) ⊎ ((x < size) × (x ≢ u) × (closed (place u) (place x) ≡ closed (place u) (place o) + 1))
      → Follows size after moved_to o
  goes_to o x l nu nh e (inl back) =
      let most = closed_below (place u) (place h) size (apart r h u lh lu (λ q. uh (sym q))) (r.below h lh) (r.below u lu) in
      inl (e ∙ back.0, ap (λ (n : ℕ). n + 1) (at_other o nu) ∙ open_last j (closed (place u) (place o)) size (not_j o l nu nh) most back.1)
  goes_to o x l nu nh e (inr on) =
      inr (subst (λ y. (y < size) × (moved_to y ≡ moved_to o + 1)) (sym e) (
        on.0,
        at_other x on.1 ∙ ap (opened_behind j) on.2 ∙ open_next j (closed (place u) (place o)) (not_j o l nu nh)
            ∙ ap (λ (n : ℕ). n + 1) (sym (at_other o nu)),
      ))

  follows : (o : ℕ) → o < size → Follows size after moved_to o
  follows o l = go (cases_eq o u) (cases_eq o h) (cases_eq o p)
    where
      go : (o ≡ u) ⊎ (o ≢ u) → (o ≡ h) ⊎ (o ≢ h) → (o ≡ p) ⊎ (o ≢ p) → Follows size after moved_to o
      go (inl e) b c = subst (Follows size after moved_to) (sym e) (elim (r.follows h lh) [
        | inl back ↦ inl (
          mu ∙ back.0,
          ap (λ (n : ℕ). n + 1) at_u
              ∙ omega (arith, closed_last (place u) (place h) size (apart r h u lh lu (λ q. uh (sym q))) (r.below u lu) back.1),
        )
        | inr on ↦
            let nu : next h ≢ u = λ q. ph (r.own p h lp lh (let a = ap place q in omega (arith, a, on.1, behind))) in
            let k = apart r (next h) u on.0 lu nu in
            let c = closed_next (place u) (place h) (apart r h u lh lu (λ q. uh (sym q))) (λ q. k (on.1 ∙ q)) in
            inr (subst (λ y. (y < size) × (moved_to y ≡ moved_to u + 1)) (sym mu) (
              on.0,
              at_other (next h) nu ∙ ap (λ (i : ℕ). opened_behind j (closed (place u) i)) on.1 ∙ ap (opened_behind j) c
                  ∙ (let z : opened_behind j (j + 1) ≡ j + 1 + 1 = omega arith in z) ∙ ap (λ (n : ℕ). n + 1) (sym at_u),
            ))
      ])
      go (inr n) (inl e) c = subst (Follows size after moved_to) (sym e)
          (inr (subst (λ y. (y < size) × (moved_to y ≡ moved_to h + 1)) (sym mh)
          (lu, at_u ∙ ap (λ (n : ℕ). n + 1) (sym (at_other h (λ q. uh (sym q)) ∙ (let z : opened_behind j j ≡ j = omega arith in z))))))
      go (inr n) (inr m) (inl e) = goes_to o (next u) l n m (ap after e ∙ mp) (elim (r.follows u lu) [
        | inl back ↦ let q = ap place e in inl (back.0, omega (arith, q, behind, back.1))
        | inr on ↦
            let q = ap place e in
            inr (on.0, (λ w. let z = ap place w in omega (arith, z, on.1)), omega (arith, q, behind, on.1))
      ])
      go (inr n) (inr m) (inr k) = goes_to o (next o) l n m (others o k n m) (elim (r.follows o l) [
        | inl back ↦ inl (back.0, closed_last (place u) (place o) size (apart r o u l lu n) (r.below u lu) back.1)
        | inr on ↦
            let nu : next o ≢ u = λ q. k (r.own o p l lp (let a = ap place q in omega (arith, a, on.1, behind))) in
            let d = apart r (next o) u on.0 lu nu in
            inr (on.0, nu, ap (closed (place u)) on.1 ∙ closed_next (place u) (place o) (apart r o u l lu n) (λ q. d (on.1 ∙ q)))
      ])

  own : (a b : ℕ) → a < size → b < size → moved_to a ≡ moved_to b → a ≡ b
  own a b la lb e = go (cases_eq a u) (cases_eq b u)
    where
      go : (a ≡ u) ⊎ (a ≢ u) → (b ≡ u) ⊎ (b ≢ u) → a ≡ b
      go (inl x) (inl y) = x ∙ sym y
      go (inl x) (inr y) = absurd (let z = sym at_u ∙ ap moved_to (sym x) ∙ e ∙ at_other b y in omega (arith, z))
      go (inr x) (inl y) = absurd (let z = sym at_u ∙ ap moved_to (sym y) ∙ sym e ∙ at_other a x in omega (arith, z))
      go (inr x) (inr y) =
          r.own a b la lb (closed_one (place u) (place a) (place b) (apart r a u la lu x) (apart r b u lb lu y)
          (open_one j (closed (place u) (place a)) (closed (place u) (place b)) (sym (at_other a x) ∙ e ∙ at_other b y)))

  below : (o : ℕ) → o < size → moved_to o < size
  below o l = elim (cases_eq o u) [
    | inl e ↦ let z = ap moved_to e ∙ at_u in let k = apart r h u lh lu (λ q. uh (sym q)) in
        let a = r.below h lh in let b = r.below u lu in omega (arith, z, k, a, b)
    | inr n ↦ let z = at_other o n in let k = apart r o u l lu n in let a = r.below o l in let b = r.below u lu in omega (arith, z, k, a, b)
  ]

  pub moved : IsRing heads size after moved_to
  moved = record {
    some = r.some;
    few = r.few;
    first = elim (cases_eq u 0) [
      | inl e ↦ absurd (some e)
      | inr n ↦ at_other 0 (λ q. n (sym q)) ∙ (let z = r.first in omega (arith, z))
    ];
    below = below;
    own = own;
    follows = follows;
  }
