-- When the bucket at the split place can be split.
use Rattle.std.specs.Prelude.{◌<◌, ◌≤◌}
use Rattle.grow_hash.specs.Terms.{ℕ, length, State, map_at}
use Rattle.grow_hash.specs.Tables.{level, split_place, most_level}
use Rattle.grow_hash.specs.Grown.{head_at}

-- how many keys the bucket at the split place has
abbrev pub keys_at_place : State → ℕ
keys_at_place s = length (map_at s (head_at (split_place s)))

-- a bucket that is split has so many keys at most
abbrev pub most_split : ℕ
most_split = 61

-- and the split writes so many objects: the table, both heads and the nodes
abbrev pub most_writes : ℕ
most_writes = 64

-- the level is below the greatest, and the bucket at the split place is short enough
pub record IsSplittable (levels : ℕ) (s : State) : Type 0 where
  pub below : level s < most_level levels
  pub short : keys_at_place s ≤ most_split
