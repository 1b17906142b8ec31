-- What a look at the bucket at the split place finds.
use Rattle.grow_hash.proofs.Terms.{ℕ, length, sym, ap, ◌∙◌, subst, arith, State, Writes, map_at, objects_of, IsLinked, level, split_place, buckets_at, IsGrown}
use Rattle.grow_hash.proofs.Terms.{head_at, IsRead, ArePartedWrites, IsPath, IsPlannedSplit, most_buckets, most_level, ◌≡◌, ◌≢◌, ◌+◌, ◌<◌, ◌≤◌}
use Rattle.grow_hash.specs.SplitCalls.{keys_at_place}
use Rattle.grow_hash.proofs.Buckets.{few_buckets}
use Rattle.grow_hash.proofs.split.ReadBuckets.{read_path}

module _ (levels : ℕ) (s t : State) (at place head : ℕ) (l : IsGrown levels s) (level_is : at ≡ level s) (place_is : place ≡ split_place s) (same : t ≡ s) where
  place_low : place < most_buckets levels
  place_low =
      let x = l.table.place_in in let few : buckets_at (level s) ≤ most_buckets levels = few_buckets levels (level s) l.least l.table.level_in in omega arith

  head_is : head ≡ place + 1 → head ≡ head_at (split_place s)
  head_is e = omega arith

  -- the bucket has its list,
  pub bucket_linked : head ≡ place + 1 → IsLinked t head
  bucket_linked e =
      subst (λ (u : State). IsLinked u head) (sym same)
      (subst (IsLinked s) (sym (head_is e)) (l.lists (split_place s) (let x = place_low in omega arith)))

  pub below_most : at ≢ most_level levels → at < most_level levels
  below_most ne = let x = l.table.level_in in omega arith

  keys_are : (keys : ℕ) → head ≡ place + 1 → keys ≡ length (map_at t head) → keys ≡ keys_at_place s
  keys_are keys e k = k ∙ ap (λ (u : State). length (map_at u head)) same ∙ ap (λ h. length (map_at s h)) (head_is e)

  -- and where it is short enough, its split is planned
  pub planned_by : (keys : ℕ) (reads writes : Writes) → at ≢ most_level levels → head ≡ place + 1 → keys ≡ length (map_at t head) → keys ≤ 61
      → IsRead t head reads 0
      → ArePartedWrites levels at place reads writes → IsPlannedSplit levels s place writes
  planned_by keys reads writes ne e k few read parted =
      let many = keys_are keys e k in
      let here : IsRead s (head_at place) reads 0 =
      subst (λ h. IsRead s h reads 0) (omega arith) (subst (λ (u : State). IsRead u head reads 0) same read) in
      let path : IsPath s (head_at (split_place s)) (objects_of reads) =
      subst (λ p. IsPath s (head_at p) (objects_of reads)) place_is (read_path s (head_at place) reads here) in
      let low = below_most ne in
      record {
        splittable = record { below = omega arith; short = omega arith };
        place_is = place_is;
        plan = record { below = omega arith; nodes = objects_of reads; path = path; writes_are = parted s l (sym level_is) (sym place_is) here };
      }
