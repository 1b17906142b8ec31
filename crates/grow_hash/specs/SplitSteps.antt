-- What a look at the bucket at the split place comes to.
use Rattle.std.specs.Prelude.{◌≡◌, ◌<◌}
use Rattle.grow_hash.specs.Terms.{ℕ, State, Writes, Looked, Splits, Whole, Long, Worn}
use Rattle.grow_hash.specs.Tables.{level, split_place, most_level}
use Rattle.grow_hash.specs.SplitPlans.{SplitPlan}
use Rattle.grow_hash.specs.SplitCalls.{keys_at_place, most_split, IsSplittable}

-- in this state the bucket at this place can be split, and these are the writes of its split
pub record IsPlannedSplit (levels : ℕ) (s : State) (place : ℕ) (writes : Writes) : Type 0 where
  pub splittable : IsSplittable levels s
  pub place_is : place ≡ split_place s
  pub plan : SplitPlan levels s writes

-- in this state none can be, for this reason
abbrev pub IsClosed : ℕ → State → Looked → Type 0
IsClosed levels s Splits = ⊥
IsClosed levels s Whole = level s ≡ most_level levels
IsClosed levels s (Long keys) = (level s < most_level levels) × (keys ≡ keys_at_place s) × (most_split < keys)
IsClosed levels s Worn = ⊥
