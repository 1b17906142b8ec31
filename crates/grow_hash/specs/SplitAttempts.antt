-- What a call that tries to split a bucket leaves, by its answer: what it leaves as a work.
use Rattle.section_work.specs.Steps.{IsStepped}
use Rattle.std.specs.Prelude.{◌≡◌, ◌+◌, ◌-◌}
use Rattle.grow_hash.specs.Terms.{ℕ, suc, take, Seat, InSection, state_of_time, IsDoneAt, IsReadAt, GivesUp, Causes, Attempt, Looked, Split, Done, Again}
use Rattle.grow_hash.specs.Tables.{split_place, buckets}
use Rattle.grow_hash.specs.Grown.{grown_catalogue}
use Rattle.grow_hash.specs.GrowRules.{split_tag}
use Rattle.grow_hash.specs.Splits.{count_splits}
use Rattle.grow_hash.specs.SplitMeaning.{split_meaning, split_of}
use Rattle.grow_hash.specs.declared.answer.Split.TheVariants.{Whole, Long, Worn}
use Rattle.grow_hash.specs.declared.split_work.Looked.TheVariants as looks

-- The split is the seat's last commit, at this printed time, of a section that the call entered, in whose snapshot it could be made; it wrote
-- what it locks there, and nothing else. It split the bucket that was next in the state just before, left the catalogue, and made one bucket
-- more, so that there are 16 and one for each split up to then.
pub record IsSplitDone (levels : ℕ) (k : Causes) (old new : Seat) (time : ℕ) : Type 0 where
  pub looked : Looked
  pub made : IsDoneAt k (split_meaning levels) old new looked time
  pub tagged : made.done.commit.tag ≡ split_tag (split_place (state_of_time new (time - 1)))
  pub leaves : grown_catalogue levels (state_of_time new time) ≡ grown_catalogue levels (state_of_time new (time - 1))
  pub more : buckets (state_of_time new time) ≡ suc (buckets (state_of_time new (time - 1)))
  pub counted : buckets (state_of_time new time) ≡ 16 + count_splits (take (time - new.base) new.seen)

-- a look into a section that the call entered came to this, and no commit was made
abbrev pub FoundIn : ℕ → Causes → Seat → Seat → Looked → Type 0
FoundIn levels k old new looked = (time : ℕ) × IsReadAt k (split_meaning levels) old new looked time

-- What a call leaves: a split was made; or a section was looked into, where all buckets are split, or the next one has too many keys, or it is
-- the last time; or it could be split there, and that was given up.
abbrev pub SplitTried : ℕ → Causes → Seat → Seat → Split → Type 0
SplitTried levels k old new (Done time) = IsSplitDone levels k old new time
SplitTried levels k old new Whole = FoundIn levels k old new looks.Whole
SplitTried levels k old new (Long keys) = FoundIn levels k old new (looks.Long keys)
SplitTried levels k old new Worn = FoundIn levels k old new looks.Worn
SplitTried levels k old new (Again cause) = GivesUp k (split_meaning levels) old new cause

-- the calls that it makes are those of an attempt which answers so
abbrev pub SplitStepped : {Open : Type 0} → (Open → InSection) → (Open → Open → Type 0) → Causes → Seat → Seat → Split → Type 0
SplitStepped section as_before k old new split = (tried : Attempt Looked) × (split ≡ split_of tried) × IsStepped section as_before k old new tried
