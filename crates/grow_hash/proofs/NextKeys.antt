-- The least key of the set that is not below one, bucket by bucket.
use Rattle.set_model.proofs.NextKeys.{IsLeast, next_is, next_none, least_from, none_from}
use Rattle.std.proofs.Common.{◌≡◌, ◌≢◌, ◌+◌, ◌<◌, ◌≤◌, ℕ, inl, inr, Bool, true, cond, eqb, ne_eqb, eq-eqb, refl, sym, ap, ◌∙◌, subst, arith, Option, Some, None}
use Rattle.grow_hash.proofs.Terms.{min, List, MatchOption, cases_lt, State, has_key, next_key, map_at, word, IsMap-map_among, level, split_place, bucket}
use Rattle.grow_hash.proofs.Terms.{buckets, IsGrown, head_at, grown_map, hash}
use Rattle.grow_hash.proofs.Buckets.{bucket_present}
use Rattle.grow_hash.proofs.Holding.{bucket_has, has_bucket}

-- the least of the keys of the first buckets that are not below k, if there is one
pub record LeastOf (levels : ℕ) (s : State) (k b : ℕ) (least : Option ℕ) : Type 0 where
  pub there : (j : ℕ) → least ≡ Some j → (has_key j (grown_map levels s) ≡ true) × (k ≤ j)
  pub bound : (i : ℕ) → has_key i (grown_map levels s) ≡ true → k ≤ i → bucket levels s i < b → (j : ℕ) × (least ≡ Some j) × (j ≤ i)

pub least_start : (levels : ℕ) (s : State) (k : ℕ) → LeastOf levels s k 0 None
least_start levels s k = record { there = λ j e. absurd (cc); bound = λ i h le lt. absurd (omega arith) }

-- what a search found in the next bucket
module _ (levels : ℕ) (s : State) (k b node : ℕ) (words : List ℕ) (l : IsGrown levels s) (least : Option ℕ) (so_far : LeastOf levels s k b least)
    (found : cond (eqb node 0) None (Some (word 2 words)) ≡ next_key k (map_at s (head_at b))) where
  -- none there
  pub least_same : node ≡ 0 → LeastOf levels s k (b + 1) least
  least_same z =
      let none : next_key k (map_at s (head_at b)) ≡ None = sym found ∙ ap (λ (t : Bool). cond t None (Some (word 2 words))) (eq-eqb node 0 z) in
      record {
        there = so_far.there;
        bound = λ i h le lt. elim (cases_lt (bucket levels s i) b) [
          | inl less ↦ so_far.bound i h le less
          | inr ge ↦ (let e : bucket levels s i ≡ b = omega arith in
              let here : has_key i (map_at s (head_at b)) ≡ true = subst (λ c. has_key i (map_at s (head_at c)) ≡ true) e (has_bucket levels s i l h) in
              let low : i < k = none_from k (map_at s (head_at b)) none i here in absurd (omega arith))
        ];
      }

  -- or this one
  pub least_less : (now : ℕ) → node ≢ 0 → MatchOption least (now ≡ word 2 words) (λ other. now ≡ min other (word 2 words))
      → LeastOf levels s k (b + 1) (Some now)
  least_less now n lesser =
      let next : next_key k (map_at s (head_at b)) ≡ Some (word 2 words) =
      sym found ∙ ap (λ (t : Bool). cond t None (Some (word 2 words))) (ne_eqb node 0 n) in
      go least so_far lesser (least_from k (map_at s (head_at b)) (word 2 words) (IsMap-map_among _ _) next)
    where
      is_some : (j : ℕ) → Some now ≡ Some j → now ≡ j
      is_some j e = cc

      go : (least : Option ℕ) → LeastOf levels s k b least → MatchOption least (now ≡ word 2 words) (λ other. now ≡ min other (word 2 words))
          → IsLeast k (map_at s (head_at b)) (word 2 words) → LeastOf levels s k (b + 1) (Some now)
      go None f e m = record {
        there = λ j q. (let x : word 2 words ≡ j = sym e ∙ is_some j q in
            subst (λ u. (has_key u (grown_map levels s) ≡ true) × (k ≤ u)) x ((bucket_has levels s b (word 2 words) l m.has).0, m.from));
        bound = λ i h le lt. elim (cases_lt (bucket levels s i) b) [
          | inl less ↦ (let r = f.bound i h le less in absurd (let x : None ≡ Some r.0 = r.1 in cc))
          | inr ge ↦ (let q : bucket levels s i ≡ b = omega arith in
              let here : has_key i (map_at s (head_at b)) ≡ true = subst (λ c. has_key i (map_at s (head_at c)) ≡ true) q (has_bucket levels s i l h) in
              (now, refl, subst (λ u. u ≤ i) (sym e) (m.least i here le)))
        ];
      }
      go (Some other) f e m =
          let a = f.there other refl in
          record {
            there = λ j q. (let x : now ≡ j = is_some j q in
                elim (cases_lt other (word 2 words)) [
                  | inl lt ↦ (let y : other ≡ j = omega arith in subst (λ u. (has_key u (grown_map levels s) ≡ true) × (k ≤ u)) y a)
                  | inr ge ↦ (let y : word 2 words ≡ j = omega arith in
                      subst (λ u. (has_key u (grown_map levels s) ≡ true) × (k ≤ u)) y ((bucket_has levels s b (word 2 words) l m.has).0, m.from))
                ]);
            bound = λ i h le lt. elim (cases_lt (bucket levels s i) b) [
              | inl less ↦ (let r = f.bound i h le less in
                  let x : other ≡ r.0 = (let y : Some other ≡ Some r.0 = r.1 in cc) in
                  let z : r.0 ≤ i = r.2 in (now, refl, omega arith))
              | inr ge ↦ (let q : bucket levels s i ≡ b = omega arith in
                  let here : has_key i (map_at s (head_at b)) ≡ true = subst (λ c. has_key i (map_at s (head_at c)) ≡ true) q (has_bucket levels s i l h) in
                  let z : word 2 words ≤ i = m.least i here le in (now, refl, omega arith))
            ];
          }

-- Over all buckets it is the least of the set.
pub least_end : (levels : ℕ) (s : State) (k b : ℕ) (least : Option ℕ) → IsGrown levels s → b ≡ buckets s → LeastOf levels s k b least
    → least ≡ next_key k (grown_map levels s)
least_end levels s k b None l e f =
    sym (next_none k (grown_map levels s) (λ i h. elim (cases_lt i k) [
      | inl lt ↦ lt
      | inr ge ↦ (let x : bucket levels s i < buckets s = bucket_present (level s) (split_place s) (hash levels i) in
          let r = f.bound i h ge (omega arith) in absurd (let y : None ≡ Some r.0 = r.1 in cc))
    ]))
least_end levels s k b (Some j) l e f =
    let a = f.there j refl in
    sym (next_is k (grown_map levels s) j (IsMap-map_among _ _) (record {
      has = a.0;
      from = a.1;
      least = λ i h ge. (let x : bucket levels s i < buckets s = bucket_present (level s) (split_place s) (hash levels i) in
          let r = f.bound i h ge (omega arith) in
          let y : j ≡ r.0 = (let z : Some j ≡ Some r.0 = r.1 in cc) in let z : r.0 ≤ i = r.2 in omega arith);
    }))
