-- In the order of a legal run's lines the numbers of a seat don't fall.
use Rattle.std.proofs.Common.{◌≡◌, ℕ, suc, ◌+◌, ◌*◌, ◌<◌, ◌≤◌, ◌⊎◌, inl, inr, false, List, [], ◌∷◌, map, get_or, arith}
use Rattle.std.specs.List.{All, AllByRecursion}
use Rattle.std.specs.Ordering.{is_lt}
use Rattle.std.proofs.lemmas.Bool.{cases_lt, cases_order}
use Rattle.std.proofs.lemmas.Bool.Decides.{nat_tests}
use Rattle.std.proofs.lemmas.List.Elements.{All-head, All-tail}
use Rattle.section_work.specs.declared.place.Place.{Place}
use Rattle.section_work.specs.declared.place.Place.TheVariants.{Commit, Read}
use Rattle.run_report.specs.declared.line.Line.{Line}
use Rattle.run_report.specs.Order.{time_of, rank_of, key_cmp, IsOrdered}
use Rattle.run_report.specs.Legal.{EachPair, IsInTime, Follows, id_of}
use Rattle.run_report.proofs.Ordering.{rank_low}
use Rattle.run_report.proofs.history.Weights.{weight, ordered_tail}
use Rattle.generated_runs.proofs.told.Numbered.{IsNoLower, Rises}

-- the first line is no later than the second: by weight, by seat, and by number
abbrev IsNoLater : Line → Line → Type 0
IsNoLater a b = (weight a < weight b) ⊎ ((weight a ≡ weight b) × ((a.seat < b.seat) ⊎ ((a.seat ≡ b.seat) × (a.number ≤ b.number))))

no_later : (t r s n t' r' s' n' : ℕ) → r ≤ 1 → r' ≤ 1 → is_lt (key_cmp (t', r', s', n') (t, r, s, n)) ≡ false
    → (2 * t + r < 2 * t' + r') ⊎ ((2 * t + r ≡ 2 * t' + r') × ((s < s') ⊎ ((s ≡ s') × (n ≤ n'))))
no_later t r s n t' r' s' n' low low' e = elim (cases_order (2 * t + r) (2 * t' + r')) [
  | inl same ↦
      let time : t ≡ t' = omega (arith, same, low, low') in
      let rank : r ≡ r' = omega (arith, same, time) in
      elim (cases_order s s') [
        | inl seat ↦ inr (same, inr (seat, elim (cases_lt n' n) [ inl lt ↦ absurd (grind (arith, nat_tests)) | inr le ↦ le ]))
        | inr (inl lt) ↦ inr (same, inl lt)
        | inr (inr gt) ↦ absurd (grind (arith, nat_tests))
      ]
  | inr (inl lt) ↦ inl lt
  | inr (inr gt) ↦ absurd (later gt)
]
  where
    later : 2 * t' + r' < 2 * t + r → ⊥
    later gt = elim (cases_lt t' t) [
      | inl lt ↦ grind (arith, nat_tests)
      | inr le ↦ (let same : t ≡ t' = omega (arith, gt, le, low, low') in let less : r' < r = omega (arith, gt, same) in grind (arith, nat_tests))
    ]

transitive : (a b c : Line) → IsNoLater a b → IsNoLater b c → IsNoLater a c
transitive a b c (inl lt) (inl lt') = inl (omega (arith, lt, lt'))
transitive a b c (inl lt) (inr q) = inl (omega (arith, lt, q.0))
transitive a b c (inr p) (inl lt') = inl (omega (arith, p.0, lt'))
transitive a b c (inr p) (inr q) = inr (omega (arith, p.0, q.0), go p.1 q.1)
  where
    go : (a.seat < b.seat) ⊎ ((a.seat ≡ b.seat) × (a.number ≤ b.number)) → (b.seat < c.seat) ⊎ ((b.seat ≡ c.seat) × (b.number ≤ c.number))
        → (a.seat < c.seat) ⊎ ((a.seat ≡ c.seat) × (a.number ≤ c.number))
    go (inl x) (inl y) = inl (omega (arith, x, y))
    go (inl x) (inr y) = inl (omega (arith, x, y.0))
    go (inr x) (inl y) = inl (omega (arith, x.0, y))
    go (inr x) (inr y) = inr (omega (arith, x.0, y.0), omega (arith, x.1, y.1))

further : (a b : Line) (lines : List Line) → IsNoLater a b → AllByRecursion (IsNoLater b) lines → AllByRecursion (IsNoLater a) lines
further a b [] le later = tt
further a b (c ∷ lines) le later = (transitive a b c le later.0, further a b lines le later.1)

-- the first line is no later than the others
first_no_later : (a : Line) (lines : List Line) → IsOrdered (a ∷ lines) → AllByRecursion (IsNoLater a) lines
first_no_later a [] ordered = tt
first_no_later a (b ∷ lines) ordered =
    let one : IsNoLater a b = no_later (time_of a.place) (rank_of a.place) a.seat a.number (time_of b.place) (rank_of b.place) b.seat b.number
    (rank_low a.place) (rank_low b.place) (ordered 0 a (omega arith) (omega arith)) in
    (one, further a b lines one (first_no_later b lines (ordered_tail a (b ∷ lines) ordered)))

-- what follows a time weighs more than all reads before it, and no less than a read at it
follows_weighs : (before : ℕ) (place : Place) → Follows before place → 2 * before + 1 ≤ 2 * time_of place + rank_of place
follows_weighs before (Commit time) follows = omega (arith, follows)
follows_weighs before (Read time) follows = omega (arith, follows)

-- a later line of the same seat has no lower number
number_rises : (a b : Line) → IsNoLater a b → IsInTime b a → b.seat ≡ a.seat → a.number ≤ b.number
number_rises a b later in_time same = elim (cases_lt b.number a.number) [
  | inl lt ↦
      let weighs : 2 * time_of b.place + 1 ≤ weight a = follows_weighs (time_of b.place) a.place (in_time same lt) in
      absurd (against later weighs lt)
  | inr le ↦ le
]
  where
    against : IsNoLater a b → 2 * time_of b.place + 1 ≤ weight a → b.number < a.number → ⊥
    against (inl less) weighs lt = omega (arith, less, weighs, rank_low b.place)
    against (inr (p, inl seat)) weighs lt = omega (arith, seat, same)
    against (inr (p, inr q)) weighs lt = omega (arith, q.1, lt)

-- the pairs of a line and each other, and of the others
pairs_first : (a : Line) (lines : List Line) → EachPair IsInTime (a ∷ lines) → All (λ b. IsInTime b a) lines
pairs_first a lines pairs k d lt =
    All-head (IsInTime (get_or lines k d)) a lines (pairs (suc k) d (omega (arith, lt)))

pairs_rest : (a : Line) (lines : List Line) → EachPair IsInTime (a ∷ lines) → EachPair IsInTime lines
pairs_rest a lines pairs k d lt = All-tail (IsInTime (get_or lines k d)) a lines (pairs (suc k) d (omega (arith, lt)))

no_lower : (seat : ℕ) (a : Line) (lines : List Line) → a.seat ≡ seat → AllByRecursion (IsNoLater a) lines → All (λ b. IsInTime b a) lines
    → AllByRecursion (IsNoLower seat a.number) (map id_of lines)
no_lower seat a [] is later in_time = tt
no_lower seat a (b ∷ lines) is later in_time = (
  λ same. number_rises a b later.0 (All-head (λ c. IsInTime c a) b lines in_time) (omega (arith, same, is)),
  no_lower seat a lines is later.1 (All-tail (λ c. IsInTime c a) b lines in_time),
)

pub rises : (seat : ℕ) (lines : List Line) → IsOrdered lines → EachPair IsInTime lines → Rises seat (map id_of lines)
rises seat [] ordered pairs = tt
rises seat (a ∷ lines) ordered pairs = (
  λ is. no_lower seat a lines is (first_no_later a lines ordered) (pairs_first a lines pairs),
  rises seat lines (ordered_tail a lines ordered) (pairs_rest a lines pairs),
)
