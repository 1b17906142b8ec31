-- The table of a growing hash set, object 0: which bucket has which keys. The set grows up to 2^levels buckets.
use Rattle.std.specs.Prelude.{◌≡◌, ◌+◌, ◌-◌, ◌*◌, ◌%◌, ◌^◌, ◌<◌, ◌≤◌, ◌==◌, if◌then◌else◌, ◌∷◌}
use Rattle.grow_hash.specs.Terms.{ℕ, suc, nat_lt, List, [], State, words_at, key, link}
use Rattle.grow_hash.specs.Mixing.{mixed}

-- the program's set grows up to 2^10 buckets, and no set has fewer
abbrev pub grow_levels : ℕ
grow_levels = 10

-- and none has more than 2^20
abbrev pub most_levels : ℕ
most_levels = 20

-- how often the number of buckets was doubled
abbrev pub level : State → ℕ
level s = key s 0

-- the bucket that is split next; those before it are split at this level
abbrev pub split_place : State → ℕ
split_place s = link s 0

-- the greatest level: there are 16 buckets before they are doubled
abbrev pub most_level : ℕ → ℕ
most_level levels = levels - 4

-- the number of buckets with which a level begins
abbrev pub buckets_at : ℕ → ℕ
buckets_at level = 16 * 2 ^ level

-- the number by which a key has its bucket: the key, and in a set that grows beyond the program's the mixed key
abbrev pub hash : ℕ → ℕ → ℕ
hash levels key = if nat_lt grow_levels levels then mixed key else key

-- the bucket of a key with this hash, where the buckets before this place are split
abbrev pub bucket_of : ℕ → ℕ → ℕ → ℕ
bucket_of level place hash =
    if nat_lt (hash % buckets_at level) place then hash % buckets_at (suc level) else hash % buckets_at level

-- the bucket of a key in a state
abbrev pub bucket : ℕ → State → ℕ → ℕ
bucket levels s key = bucket_of (level s) (split_place s) (hash levels key)

-- the number of buckets
abbrev pub buckets : State → ℕ
buckets s = buckets_at (level s) + split_place s

-- the words of the table
abbrev pub table_words : ℕ → ℕ → List ℕ
table_words level place = 0 ∷ 0 ∷ level ∷ place ∷ 0 ∷ 0 ∷ []

-- the words of the table once the bucket at this place is split: the next place, or after the last one the next level
abbrev pub next_table : ℕ → ℕ → List ℕ
next_table level place = if suc place == buckets_at level then table_words (suc level) 0 else table_words level (suc place)

-- The table is in range.
pub record IsTable (levels : ℕ) (s : State) : Type 0 where
  pub words : words_at s 0 ≡ table_words (level s) (split_place s)
  pub level_in : level s ≤ most_level levels
  pub place_in : split_place s < buckets_at (level s)
  pub whole : level s ≡ most_level levels → split_place s ≡ 0
