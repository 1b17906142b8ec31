-- What the split of a bucket means, as a work.
use Rattle.section_work.specs.declared.place.Place.TheVariants.{Commit as AtCommit, Read}
use Rattle.std.specs.Prelude.{◌≡◌}
use Rattle.grow_hash.specs.Terms.{ℕ, true, Bool, List, ⊤, State, Writes, Meaning, Attempt, WorkDone, WorkAgain, Looked, Splits, Whole, Long, Worn, Split, Done}
use Rattle.grow_hash.specs.Terms.{AllSplit, TooLong, TooLate, Again}
use Rattle.grow_hash.specs.Tables.{split_place}
use Rattle.grow_hash.specs.GrowRules.{split_tag}
use Rattle.grow_hash.specs.SplitPlans.{SplitPlan}
use Rattle.grow_hash.specs.SplitCalls.{IsSplittable, most_writes}
use Rattle.grow_hash.specs.SplitSteps.{IsClosed}

-- what is planned for it: the split, with its tag
pub record PlansSplit (levels : ℕ) (s : State) (tag : List ℕ) (ws : Writes) : Type 0 where
  pub splittable : IsSplittable levels s
  pub tagged : tag ≡ split_tag (split_place s)
  pub plan : SplitPlan levels s ws

-- why none is made: it can't be, or it could where a time were left
abbrev pub SettlesSplit : ℕ → State → Bool → Looked → Type 0
SettlesSplit levels s last Splits = ⊥
SettlesSplit levels s last Whole = IsClosed levels s Whole
SettlesSplit levels s last (Long keys) = IsClosed levels s (Long keys)
SettlesSplit levels s last Worn = IsSplittable levels s × (last ≡ true)

-- The split of the next bucket of a hash set that grows up to 2^levels buckets, as a work.
abbrev pub split_meaning : ℕ → Meaning Looked
split_meaning levels = record {
  most = most_writes;
  changes = λ s. IsSplittable levels s;
  plans = λ s tag ws looked. PlansSplit levels s tag ws;
  settles = λ s last looked. SettlesSplit levels s last looked;
  makes = λ before after looked. ⊤;
}

-- what is answered of an attempt of it
abbrev pub split_of : Attempt Looked → Split
split_of (WorkDone looked (AtCommit time)) = Done time
split_of (WorkDone Splits (Read time)) = TooLate
split_of (WorkDone Whole (Read time)) = AllSplit
split_of (WorkDone (Long keys) (Read time)) = TooLong keys
split_of (WorkDone Worn (Read time)) = TooLate
split_of (WorkAgain cause) = Again cause
