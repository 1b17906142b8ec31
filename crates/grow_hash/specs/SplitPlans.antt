-- What the split of a bucket locks and writes in a state.
use Rattle.std.specs.Prelude.{◌≡◌, ◌≢◌, ◌+◌, ◌%◌, ◌<◌, ◌==◌, if◌then◌else◌, ◌∷◌}
use Rattle.grow_hash.specs.Terms.{ℕ, suc, List, [], State, Writes, key, link, value, head_words, list_words}
use Rattle.grow_hash.specs.Tables.{hash, level, split_place, most_level, buckets_at, next_table}
use Rattle.grow_hash.specs.Grown.{head_at}

-- the links lead from the object through exactly these nodes, to the end
abbrev pub IsPath : State → ℕ → List ℕ → Type 0
IsPath s o [] = link s o ≡ 0
IsPath s o (n ∷ ns) = (link s o ≡ n) × (n ≢ 0) × IsPath s n ns

-- the bucket that the split makes
abbrev pub new_bucket : State → ℕ
new_bucket s = split_place s + buckets_at (level s)

-- the bucket to which the split brings a node: that of its key's hash among twice as many
abbrev pub split_bucket : ℕ → State → ℕ → ℕ
split_bucket levels s n = hash levels (key s n) % buckets_at (suc (level s))

-- the first of these nodes that the split brings to this bucket, or 0
abbrev pub first_to : ℕ → State → ℕ → List ℕ → ℕ
first_to levels s b [] = 0
first_to levels s b (n ∷ ns) = if split_bucket levels s n == b then n else first_to levels s b ns

-- each of these nodes, in the list of the bucket to which the split brings it, leads to the next one there
abbrev pub parted_nodes : ℕ → State → List ℕ → Writes
parted_nodes levels s [] = []
parted_nodes levels s (n ∷ ns) =
    (n, list_words (head_at (split_bucket levels s n)) (key s n) (value s n) (first_to levels s (split_bucket levels s n) ns)) ∷ parted_nodes levels s ns

-- the table's next words, and those of both heads and of each node of the bucket
abbrev pub split_writes : ℕ → State → List ℕ → Writes
split_writes levels s ns =
    (0, next_table (level s) (split_place s))
    ∷ (head_at (split_place s), head_words (first_to levels s (split_place s) ns))
    ∷ (head_at (new_bucket s), head_words (first_to levels s (new_bucket s) ns))
    ∷ parted_nodes levels s ns

-- The split of the bucket at the split place, whose nodes are these: what it locks, and how it writes that.
pub record SplitPlan (levels : ℕ) (s : State) (writes : Writes) : Type 0 where
  pub below : level s < most_level levels
  pub nodes : List ℕ
  pub path : IsPath s (head_at (split_place s)) nodes
  pub writes_are : writes ≡ split_writes levels s nodes
