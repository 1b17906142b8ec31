-- From what the searches of a growing hash set read to what they find.
use Rattle.grow_hash.proofs.Terms.{ℕ, suc, inl, inr, List, length, Option, sym, ap, ◌∙◌, subst, arith, cases_eq, State, next_key, map_at, IsLinked, IsWindow}
use Rattle.grow_hash.proofs.Terms.{level, split_place, buckets_at, bucket_of, bucket, buckets, IsGrown, head_at, head_of, most_buckets, most_level, most_levels}
use Rattle.grow_hash.proofs.Terms.{hash, ◌≡◌, ◌+◌, ◌<◌, ◌≤◌}
use Rattle.grow_hash.proofs.Buckets.{few_buckets, more_buckets, twice_buckets}
use Rattle.grow_hash.proofs.GrownStates.{bucket_low}
use Rattle.set_model.specs.Objects.{most_objects}

-- the table that was read
module _ (levels : ℕ) (s : State) (lev pl : ℕ) (l : IsGrown levels s) (el : lev ≡ level s) (ep : pl ≡ split_place s) where
  pub head_read : (k h b : ℕ) → h ≡ hash levels k → b ≡ bucket_of lev pl h → b + 1 ≡ head_of levels s k
  head_read k h b q e =
      omega (arith, e ∙ ap (λ u. bucket_of u pl h) el ∙ ap (λ u. bucket_of (level s) u h) ep ∙ ap (bucket_of (level s) (split_place s)) q)

  pub level_low : lev ≤ most_level most_levels
  level_low = let x = l.table.level_in in let y = l.most in omega arith

  pub buckets_read : (n : ℕ) → n ≡ buckets_at lev + pl → n ≡ buckets s
  buckets_read n e = e ∙ ap (λ u. buckets_at u + pl) el ∙ ap (λ u. buckets_at (level s) + u) ep

-- there are no more buckets than heads
pub buckets_low : (levels : ℕ) (s : State) → IsGrown levels s → buckets s ≤ most_buckets levels
buckets_low levels s l = elim (cases_eq (level s) (most_level levels)) [
  | inl e ↦ (let z : split_place s ≡ 0 = l.table.whole e in
      let n : buckets_at (level s) ≤ most_buckets levels = few_buckets levels (level s) l.least l.table.level_in in omega arith)
  | inr n ↦ (let x = l.table.level_in in let p : split_place s < buckets_at (level s) = l.table.place_in in
      let m : buckets_at (suc (level s)) ≤ most_buckets levels = more_buckets levels (level s) l.least (omega arith) in
      let t : buckets_at (suc (level s)) ≡ buckets_at (level s) + buckets_at (level s) = twice_buckets (level s) in omega arith)
]

-- the head that was found has its list
pub linked_found : (levels : ℕ) (s t : State) (h k : ℕ) → IsGrown levels s → t ≡ s → h ≡ head_of levels s k → IsLinked t h
linked_found levels s t h k l same e =
    subst (λ u. IsLinked u h) (sym same) (subst (IsLinked s) (sym e) (l.lists (bucket levels s k) (bucket_low levels s l k)))

-- so has each of the table's
pub linked_bucket : (levels : ℕ) (s t : State) (b : ℕ) → IsGrown levels s → t ≡ s → b < buckets s → IsLinked t (b + 1)
linked_bucket levels s t b l same lt =
    let h : suc b ≡ b + 1 = omega arith in
    subst (λ u. IsLinked u (b + 1)) (sym same) (subst (IsLinked s) h (l.lists b (let x = buckets_low levels s l in omega arith)))

pub few_found : (levels : ℕ) (s t : State) → IsGrown levels s → t ≡ s → length t ≤ most_objects
few_found levels s t l same = subst (λ u. length u ≤ most_objects) (sym same) l.few

pub window_found : (levels : ℕ) (s t : State) (h k p : ℕ) (words : List ℕ) (node : ℕ) (node_words : List ℕ) → t ≡ s → h ≡ head_of levels s k
    → IsWindow t h k p words node node_words
    → IsWindow s (head_of levels s k) k p words node node_words
window_found levels s t h k p words node node_words same e i =
    subst (λ u. IsWindow s u k p words node node_words) e (subst (λ u. IsWindow u h k p words node node_words) same i)

pub next_found : (s t : State) (k b : ℕ) (r : Option ℕ) → t ≡ s → r ≡ next_key k (map_at t (b + 1)) → r ≡ next_key k (map_at s (head_at b))
next_found s t k b r same e =
    let h : b + 1 ≡ suc b = omega arith in
    e ∙ ap (λ u. next_key k (map_at u (b + 1))) same ∙ ap (λ u. next_key k (map_at s u)) h
