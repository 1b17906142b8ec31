-- The bucket of a key, and what a split does to it.
use Rattle.std.proofs.lemmas.Nat.{mod-mul-add}
use Rattle.std.proofs.Common.{◌≡◌, ◌≢◌, ◌+◌, ◌*◌, ◌/◌, ◌-◌, ◌%◌, ◌^◌, ◌<◌, ◌≤◌, ◌⊎◌, ℕ, zero, suc, inl, inr, cond, Bool, sym, ap, ◌∙◌, arith, lt-ltb, le-ltb}
use Rattle.std.proofs.Common.{mod-lt}
use Rattle.grow_hash.proofs.Terms.{cases_lt, div-add-mod, pow-add, grow_levels, most_levels, most_level, most_buckets, buckets_at, bucket_of}

-- there are some buckets
pub some_buckets : (level : ℕ) → 16 ≤ buckets_at level
some_buckets zero = omega arith
some_buckets (suc level) = let r : 16 ≤ buckets_at level = some_buckets level in omega arith

-- the next level has twice as many
pub twice_buckets : (level : ℕ) → buckets_at (suc level) ≡ buckets_at level + buckets_at level
twice_buckets level = omega arith

-- so a later level has no fewer
later_buckets : (level n : ℕ) → buckets_at level ≤ buckets_at (level + n)
later_buckets level zero = let e : level + 0 ≡ level = omega arith in omega (arith, ap buckets_at e)
later_buckets level (suc n) =
    let r : buckets_at level ≤ buckets_at (level + n) = later_buckets level n in
    let e : level + suc n ≡ suc (level + n) = omega arith in
    let q : buckets_at (level + suc n) ≡ buckets_at (suc (level + n)) = ap buckets_at e in omega arith

-- the last one has them all
pub last_buckets : (levels : ℕ) → grow_levels ≤ levels → most_buckets levels ≡ buckets_at (most_level levels)
last_buckets levels least =
    let e : 4 + (levels - 4) ≡ levels = omega arith in
    ap (λ n. 2 ^ n) (sym e) ∙ pow-add 2 4 (levels - 4)

-- up to the last level there are no more
pub few_buckets : (levels level : ℕ) → grow_levels ≤ levels → level ≤ most_level levels → buckets_at level ≤ most_buckets levels
few_buckets levels level least le =
    let e : level + (most_level levels - level) ≡ most_level levels = omega arith in
    let q : buckets_at (level + (most_level levels - level)) ≡ buckets_at (most_level levels) = ap buckets_at e in
    let r : buckets_at level ≤ buckets_at (level + (most_level levels - level)) = later_buckets level (most_level levels - level) in
    let last : most_buckets levels ≡ buckets_at (most_level levels) = last_buckets levels least in omega arith

pub more_buckets : (levels level : ℕ) → grow_levels ≤ levels → level < most_level levels → buckets_at (suc level) ≤ most_buckets levels
more_buckets levels level least lt = few_buckets levels (suc level) least (omega arith)

-- there are 1,024 heads at least, and 1,048,576 at most
pub many_heads : (levels : ℕ) → grow_levels ≤ levels → 1024 ≤ most_buckets levels
many_heads levels least = few_buckets levels 6 least (omega arith)

pub few_heads : (levels : ℕ) → grow_levels ≤ levels → levels ≤ most_levels → most_buckets levels ≤ 1048576
few_heads levels least most =
    let last : most_buckets levels ≡ buckets_at (most_level levels) = last_buckets levels least in
    let r : buckets_at (most_level levels) ≤ most_buckets 20 = few_buckets 20 (most_level levels) (omega arith) (omega arith) in omega arith

-- a key's bucket, where its remainder is before the split place, and else
pub bucket_split : (level place key : ℕ) → key % buckets_at level < place → bucket_of level place key ≡ key % buckets_at (suc level)
bucket_split level place key lt = ap (λ (b : Bool). cond b (key % buckets_at (suc level)) (key % buckets_at level)) (lt-ltb (key % buckets_at level) place lt)

pub bucket_whole : (level place key : ℕ) → place ≤ key % buckets_at level → bucket_of level place key ≡ key % buckets_at level
bucket_whole level place key le = ap (λ (b : Bool). cond b (key % buckets_at (suc level)) (key % buckets_at level)) (le-ltb (key % buckets_at level) place le)

-- each bucket has a head
pub bucket_in : (levels level place key : ℕ) → grow_levels ≤ levels → level ≤ most_level levels → (level ≡ most_level levels → place ≡ 0)
    → bucket_of level place key < most_buckets levels
bucket_in levels level place key least le whole = go (cases_lt (key % buckets_at level) place)
  where
    go : (key % buckets_at level < place) ⊎ (place ≤ key % buckets_at level) → bucket_of level place key < most_buckets levels
    go (inr ge) =
        let e = bucket_whole level place key ge in
        let some : 16 ≤ buckets_at level = some_buckets level in
        let few : buckets_at level ≤ most_buckets levels = few_buckets levels level least le in
        let lt : key % buckets_at level < buckets_at level = mod-lt key (omega arith) in omega arith
    go (inl lt) =
        let e = bucket_split level place key lt in
        let n : level ≢ most_level levels = λ z. let q : place ≡ 0 = whole z in omega arith in
        let some : 16 ≤ buckets_at (suc level) = some_buckets (suc level) in
        let few : buckets_at (suc level) ≤ most_buckets levels = few_buckets levels (suc level) least (omega arith) in
        let small : key % buckets_at (suc level) < buckets_at (suc level) = mod-lt key (omega arith) in omega arith

-- A split of one bucket leaves the keys of the others where they are.
pub bucket_next : (level place key : ℕ) → bucket_of level place key ≢ place → bucket_of level (suc place) key ≡ bucket_of level place key
bucket_next level place key n = go (cases_lt (key % buckets_at level) place)
  where
    go : (key % buckets_at level < place) ⊎ (place ≤ key % buckets_at level) → bucket_of level (suc place) key ≡ bucket_of level place key
    go (inl lt) = bucket_split level (suc place) key (omega arith) ∙ sym (bucket_split level place key lt)
    go (inr ge) =
        let e : bucket_of level place key ≡ key % buckets_at level = bucket_whole level place key ge in
        let gt : suc place ≤ key % buckets_at level = omega arith in
        bucket_whole level (suc place) key gt ∙ sym e

-- Where all buckets of a level are split the next level begins.
pub bucket_level : (level key : ℕ) → bucket_of (suc level) 0 key ≡ bucket_of level (buckets_at level) key
bucket_level level key =
    let some : 16 ≤ buckets_at level = some_buckets level in
    bucket_whole (suc level) 0 key (omega arith) ∙ sym (bucket_split level (buckets_at level) key (mod-lt key (omega arith)))

-- a remainder by twice a number
pub mod_twice : (k n : ℕ) → 0 < n → (k % (n + n) ≡ k % n) ⊎ (k % (n + n) ≡ k % n + n)
mod_twice k n some = go (cases_lt (k % (n + n)) n)
  where
    parts : (n + n) * (k / (n + n)) + k % (n + n) ≡ k
    parts = div-add-mod k (n + n)

    go : (k % (n + n) < n) ⊎ (n ≤ k % (n + n)) → (k % (n + n) ≡ k % n) ⊎ (k % (n + n) ≡ k % n + n)
    go (inl lt) =
        let q : ℕ = k / (n + n) in
        let whole : (k / (n + n) + k / (n + n)) * n + k % (n + n) ≡ k = omega (arith, parts) in
        inl (sym (mod-mul-add (k / (n + n) + k / (n + n)) n (k % (n + n)) lt) ∙ ap (λ u. u % n) whole)
    go (inr ge) =
        let small : k % (n + n) < n + n = mod-lt k (omega arith) in
        let whole : (k / (n + n) + k / (n + n) + 1) * n + (k % (n + n) - n) ≡ k = omega (arith, parts) in
        let rest : k % n ≡ k % (n + n) - n =
        sym (ap (λ u. u % n) whole) ∙ mod-mul-add (k / (n + n) + k / (n + n) + 1) n (k % (n + n) - n) (omega arith) in
        inr (omega arith)

-- a key's remainder at the next level
pub mod_next : (level key : ℕ) → (key % buckets_at (suc level) ≡ key % buckets_at level) ⊎ (key % buckets_at
    (suc level) ≡ key % buckets_at level + buckets_at level)
mod_next level key =
    let some = some_buckets level in
    let e : key % buckets_at (suc level) ≡ key % (buckets_at level + buckets_at level) = ap (λ n. key % n) (twice_buckets level) in
    elim (mod_twice key (buckets_at level) (omega arith)) [ inl q ↦ inl (e ∙ q) | inr q ↦ inr (e ∙ q) ]

-- each bucket is one of the table's
pub bucket_present : (level place key : ℕ) → bucket_of level place key < buckets_at level + place
bucket_present level place key =
    let some = some_buckets level in
    let small : key % buckets_at level < buckets_at level = mod-lt key (omega arith) in
    elim (cases_lt (key % buckets_at level) place) [
      | inl lt ↦ (let e = bucket_split level place key lt in elim (mod_next level key) [ inl q ↦ omega arith | inr q ↦ omega arith ])
      | inr ge ↦ (let e = bucket_whole level place key ge in omega arith)
    ]

-- A key of the bucket at the split place has it as its remainder,
pub split_mod : (level place key : ℕ) → place < buckets_at level → bucket_of level place key ≡ place → key % buckets_at level ≡ place
split_mod level place key lt home = elim (cases_lt (key % buckets_at level) place) [
  | inl low ↦ (let e = bucket_split level place key low in elim (mod_next level key) [ inl q ↦ absurd (omega arith) | inr q ↦ absurd (omega arith) ])
  | inr ge ↦ sym (bucket_whole level place key ge) ∙ home
]

-- and goes on to this bucket or to the one that the split makes
pub split_to : (level place key : ℕ) → place < buckets_at level → bucket_of level place key ≡ place
    → (key % buckets_at (suc level) ≡ place) ⊎ (key % buckets_at (suc level) ≡ place + buckets_at level)
split_to level place key lt home =
    let e = split_mod level place key lt home in
    elim (mod_next level key) [ inl q ↦ inl (q ∙ e) | inr q ↦ inr (omega arith) ]
