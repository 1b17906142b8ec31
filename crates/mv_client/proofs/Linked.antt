-- What a ring of linked objects gives.
use Rattle.std.proofs.Common.{◌≡◌, ◌≢◌, ℕ, zero, suc, ◌+◌, ◌-◌, ◌<◌, List, [], ◌∷◌, All, refl, sym, ap, subst, ◌∙◌, inl, inr, arith}
use Rattle.std.proofs.lemmas.Bool.{cases_lt}
use Rattle.std.proofs.lemmas.List.Elements.{All-nil, All-cons, All-head, All-tail}
use Rattle.mv_client.specs.Linked.{Leads, IsItem, IsOn, IsRing}

module _ {heads size : ℕ} {next place : ℕ → ℕ} (r : IsRing heads size next place) where
  pub next_below : (o : ℕ) → o < size → next o < size
  next_below o l = elim (r.follows o l) [ inl back ↦ omega (arith, back.0, r.some, r.few) | inr on ↦ on.0 ]

  -- an object that leads to an item leads to the next place
  pub item_next : (o : ℕ) → o < size → IsItem heads (next o) → place (next o) ≡ place o + 1
  item_next o l u = elim (r.follows o l) [ inl back ↦ absurd (omega (arith, back.0, u, r.some)) | inr on ↦ on.1 ]

  pub apart : (a b : ℕ) → a < size → b < size → a ≢ b → place a ≢ place b
  apart a b la lb n e = n (r.own a b la lb e)

  -- an object before another one leads to the next place
  goes_on : (at item : ℕ) → at < size → item < size → place at < place item → (next at < size) × (place (next at) ≡ place at + 1)
  goes_on at item l m before = elim (r.follows at l) [
    | inl back ↦ absurd (let b = r.below item m in omega (arith, b, back.1, before))
    | inr on ↦ on
  ]

  pub head_apart : (head item : ℕ) → head < heads → IsItem heads item → item < size → place head ≢ place item
  head_apart head item low is l = apart head item (omega (arith, low, r.few)) l (λ e. omega (arith, e, low, is))

  -- an item to which links lead along items is an object that stands behind, and no head is between
  pub passes : (at item : ℕ) (path : List ℕ) → at < size → IsItem heads item → All (IsItem heads) path → Leads (next) (at ∷ path) item
      → (item < size) × (place at < place item) × ((head : ℕ) → head < heads → place at < place head → place item < place head)
  passes at item [] l is items leads =
      let next = ap place (sym leads.0) ∙ item_next at l (subst (IsItem heads) (sym leads.0) is) in
      let below = subst (λ o. o < size) leads.0 (next_below at l) in
      (below, omega (arith, next), λ head low behind. let a = head_apart head item low is below in omega (arith, a, next, behind))
  passes at item (x ∷ path) l is items leads =
      let next = ap place (sym leads.0) ∙ item_next at l (subst (IsItem heads) (sym leads.0) (All-head (IsItem heads) x path items)) in
      let below = subst (λ o. o < size) leads.0 (next_below at l) in
      let rest = passes x item path below is (All-tail (IsItem heads) x path items) leads.1 in (
        rest.0,
        omega (arith, next, rest.1),
        λ head low behind. let a = head_apart head x low (All-head (IsItem heads) x path items) below in rest.2 head low (omega (arith, a, next, behind)),
      )

  -- and to an item behind, with no head between, links lead along items
  path_to : (steps at item : ℕ) → at < size → item < size → IsItem heads item → place item ≡ place at + 1 + steps
      → ((head : ℕ) → head < heads → place at < place head → place item < place head)
      → (path : List ℕ) × All (IsItem heads) path × Leads (next) (at ∷ path) item
  path_to zero at item l m is far clear =
      let on = goes_on at item l m (omega (arith, far)) in
      ([], All-nil (IsItem heads), (r.own (next at) item on.0 m (omega (arith, on.1, far)), tt))
  path_to (suc steps) at item l m is far clear =
      let on = goes_on at item l m (omega (arith, far)) in
      let item_is : IsItem heads (next at) = elim (cases_lt (next at) heads) [
        | inl low ↦ absurd (let c = clear (next at) low (omega (arith, on.1)) in omega (arith, c, on.1, far))
        | inr is ↦ is
      ] in
      let rest = path_to steps (next at) item on.0 m is (omega (arith, on.1, far))
      (λ head low behind. clear head low (omega (arith, behind, on.1))) in
      (next at ∷ rest.0, All-cons (IsItem heads) (next at) rest.0 item_is rest.1, (refl, rest.2))

  pub on_head : (head item : ℕ) → head < heads → item < size → IsItem heads item → place head < place item
      → ((other : ℕ) → other < heads → place head < place other → place item < place other) → IsOn heads next head item
  on_head head item low below is behind clear =
      let path = path_to (place item - place head - 1) head item (omega (arith, low, r.few)) below is (omega (arith, behind)) clear in
      record { path = path.0; items = path.1; leads = path.2 }
