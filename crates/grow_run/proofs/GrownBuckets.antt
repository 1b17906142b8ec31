-- How many buckets and splits a growing set may have.
use Rattle.std.proofs.Common.{inl, inr, ◌≡◌, ◌≤◌, ◌<◌, ◌+◌, ℕ, suc, arith}
use Rattle.std.proofs.lemmas.Bool.{cases_lt}
use Rattle.mv_history.specs.State.{State}
use Rattle.grow_hash.specs.Tables.{grow_levels, IsTable, buckets, buckets_at, level, split_place}
use Rattle.grow_hash.proofs.Buckets.{few_buckets, more_buckets, twice_buckets}

-- there are 1024 buckets at most
most_buckets : (level place : ℕ) → level ≤ 6 → place < buckets_at level → (level ≡ 6 → place ≡ 0) → buckets_at level + place ≤ 1024
most_buckets level place le lt whole =
    elim (cases_lt level 6) as (λ _. buckets_at level + place ≤ 1024) [
      | inl below ↦ let m : buckets_at (suc level) ≤ 1024 = more_buckets grow_levels level (omega arith) below in omega (arith, lt, twice_buckets level)
      | inr ge ↦ let six : level ≡ 6 = omega (arith, le, ge) in
          let m : buckets_at level ≤ 1024 = few_buckets grow_levels level (omega arith) le in omega (arith, whole six)
    ]

beyond_first : (splits buckets : ℕ) → 16 + splits ≡ buckets → buckets ≤ 1024 → splits ≤ 1008
beyond_first splits buckets is le = omega (arith, is, le)

-- and 1008 splits
pub few_splits : (s : State) (splits : ℕ) → IsTable grow_levels s → 16 + splits ≡ buckets s → splits ≤ 1008
few_splits s splits table is =
    beyond_first splits (buckets s) is (most_buckets (level s) (split_place s) table.level_in table.place_in table.whole)
