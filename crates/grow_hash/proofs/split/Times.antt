-- What a store of a growing hash set was at each time, and what the commit of a split did there.
use Rattle.mv_history.specs.declared.history.Commit.{Commit}
use Rattle.mv_history.specs.Calls.{IsEntryAt}
use Rattle.mv_history.proofs.Committed.{before_is, after_is, allowed_there}
use Rattle.mv_history.proofs.Kept.{seen_allowed}
use Rattle.std.proofs.Common.{◌≡◌, ◌+◌, ◌-◌, ℕ, suc, take, sym, ap, ◌∙◌, subst}
use Rattle.grow_hash.proofs.Terms.{Change, State, written, state_at, Seat, IsSeat, state_of_time, split_place, buckets}
use Rattle.grow_hash.proofs.Terms.{IsGrownOpening, grown_catalogue, SplitsGrown, split_tag, IsGrowCommit, count_splits}
use Rattle.grow_hash.proofs.Splitting.{buckets_after, bucket_more}

-- The state of each time that a seat has seen has 16 buckets and one for each split.
buckets_at_time : (levels : ℕ) (s : Seat) → IsSeat (IsGrownOpening levels) (IsGrowCommit levels) s → (t : ℕ)
    → buckets (state_at s.start s.seen t) ≡ 16 + count_splits (take t s.seen)
buckets_at_time levels s h t = buckets_after levels s.start (take t s.seen) h.start (seen_allowed s h t)

-- What the commit of a split did.
module _ (levels : ℕ) (s : Seat) (law : IsSeat (IsGrownOpening levels) (IsGrowCommit levels) s) (c : Commit) (place time : ℕ) (tagged : c.tag ≡ split_tag place)
    (entry : IsEntryAt s time (Change c)) where
  abbrev before : State
  before = state_of_time s (time - 1)

  now_is : state_of_time s time ≡ written before c.writes
  now_is = after_is (IsGrownOpening levels) (IsGrowCommit levels) s law c time entry
      ∙ ap (λ (u : State). written u c.writes) (sym (before_is (IsGrownOpening levels) (IsGrowCommit levels) s law c time entry))

  splits : SplitsGrown levels place before (written before c.writes) c.writes
  splits =
      let there : IsGrowCommit levels (split_tag place) before c.writes =
      subst (λ t. IsGrowCommit levels t before c.writes) tagged
      (subst (λ (u : State). IsGrowCommit levels c.tag u c.writes) (sym (before_is (IsGrownOpening levels) (IsGrowCommit levels) s law c time entry))
      (allowed_there (IsGrownOpening levels) (IsGrowCommit levels) s law c time entry)) in there.grows

  pub tagged_then : c.tag ≡ split_tag (split_place (state_of_time s (time - 1)))
  tagged_then = tagged ∙ ap split_tag splits.here

  pub left_then : grown_catalogue levels (state_of_time s time) ≡ grown_catalogue levels (state_of_time s (time - 1))
  left_then = ap (grown_catalogue levels) now_is ∙ splits.leaves

  pub more_then : buckets (state_of_time s time) ≡ suc (buckets (state_of_time s (time - 1)))
  more_then = ap buckets now_is ∙ bucket_more before (written before c.writes) splits.table

  pub counted_then : buckets (state_of_time s time) ≡ 16 + count_splits (take (time - s.base) s.seen)
  counted_then = buckets_at_time levels s law (time - s.base)
