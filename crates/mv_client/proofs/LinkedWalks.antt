-- A walk along linked objects.
use Rattle.std.proofs.Common.{◌≡◌, ◌≢◌, ℕ, ◌+◌, ◌<◌, sym, ap, subst, ◌∙◌, inl, inr, arith}
use Rattle.std.proofs.lemmas.Bool.{cases_lt}
use Rattle.mv_client.specs.Linked.{IsItem, IsOn, IsRing, IsBefore}
use Rattle.mv_client.proofs.Linked.{apart, next_below, item_next, passes, on_head}

-- The walk has come so many places behind the head, past no other head, and not past the item.
pub record Walked (heads size : ℕ) (next place : ℕ → ℕ) (head at item steps : ℕ) : Type 0 where
  pub below : at < size
  pub count : place at ≡ place head + steps
  pub clear : (other : ℕ) → other < heads → place head < place other → place at < place other
  pub ahead : IsOn heads next head item → place at < place item

module _ {heads size : ℕ} {next place : ℕ → ℕ} (r : IsRing heads size next place) {head item : ℕ} (low : head < heads) (is : IsItem heads item) where
  on_here : IsOn heads next head item
      → (item < size) × (place head < place item) × ((other : ℕ) → other < heads → place head < place other → place item < place other)
  on_here on = passes r head item on.path (omega (arith, low, r.few)) is on.items on.leads

  pub walked_none : Walked heads size next place head head item 0
  walked_none = record {
    below = omega (arith, low, r.few);
    count = omega arith;
    clear = λ other h behind. behind;
    ahead = λ on. (on_here on).1;
  }

  pub walked_next : {at steps : ℕ} → Walked heads size next place head at item steps → IsItem heads (next at) → next at ≢ item
      → Walked heads size next place head (next at) item (steps + 1)
  walked_next {at} {steps} w led other =
      let one = item_next r at w.below led in
      let below = next_below r at w.below in record {
        below = below;
        count = omega (arith, one, w.count);
        clear = λ o h behind.
            let c = w.clear o h behind in
            let e = apart r (next at) o below (omega (arith, h, r.few)) (λ q. omega (arith, q, led, h)) in
            omega (arith, c, one, e);
        ahead = λ on. let a = w.ahead on in let e = apart r (next at) item below (on_here on).0 other in omega (arith, a, one, e, other);
      }

  pub found : {at steps : ℕ} → Walked heads size next place head at item steps → at ≢ item → next at ≡ item → IsBefore heads size next head at item
  found {at} {steps} w other leads =
      let item_is = subst (IsItem heads) (sym leads) is in
      let one = ap place (sym leads) ∙ item_next r at w.below item_is in
      let below = subst (λ o. o < size) leads (next_below r at w.below) in record {
        on = on_head r head item low below is (omega (arith, one, w.count))
            (λ o h behind.
            let c = w.clear o h behind in
            let e = apart r item o below (omega (arith, h, r.few)) (λ q. omega (arith, q, is, h)) in
            omega (arith, c, one, e));
        next_is = leads;
        below = w.below;
        not_item = other;
        not_head = λ o h n e.
            let same = ap place e in
            elim (cases_lt (place head) (place o)) [
              | inl l ↦ let c = w.clear o h l in omega (arith, c, same)
              | inr ge ↦ n (sym (r.own head o (omega (arith, low, r.few)) (omega (arith, h, r.few)) (omega (arith, ge, same, w.count))))
            ];
      }

  pub absent : {at steps : ℕ} → Walked heads size next place head at item steps → next at < heads → IsOn heads next head item → ⊥
  absent {at} {steps} w low on =
      let a = w.ahead on in
      let o = on_here on in
      let p = o.2 (next at) low in
      let b = r.below item o.0 in
      elim (r.follows at w.below) [
        | inl back ↦ omega (arith, a, b, back.1)
        | inr next ↦ omega (arith, a, p, next.1, w.count)
      ]
