-- What a call that tries to split leaves, from what it leaves as a work.
use Rattle.section_work.specs.declared.place.Place.TheVariants.{Commit as AtCommit, Read}
use Rattle.section_work.specs.Causes.{Causes}
use Rattle.section_work.specs.Attempts.{IsDoneAt, Attempted}
use Rattle.section_work.specs.declared.attempting.Attempt.{Attempt}
use Rattle.section_work.specs.declared.attempting.Attempt.TheVariants.{Done as WorkDone, Again as WorkAgain}
use Rattle.grow_hash.proofs.Terms.{ℕ, Bool, take, sym, ap, subst, arith, length-take, State, Writes, state_at, IsFit, Seat, IsSeat, IsPlanned, split_place}
use Rattle.grow_hash.proofs.Terms.{IsGrown, IsGrownOpening, split_tag, IsGrowCommit, IsPlannedSplit, IsClosed, ◌≤◌}
use Rattle.grow_hash.specs.SplitMeaning.{SettlesSplit, split_meaning, split_of}
use Rattle.grow_hash.specs.SplitAttempts.{IsSplitDone, SplitTried}
use Rattle.grow_hash.specs.declared.split_work.Looked.{Looked}
use Rattle.grow_hash.specs.declared.split_work.Looked.TheVariants.{Splits, Whole, Long, Worn}
use Rattle.grow_hash.proofs.split.Fits.{split_fit}
use Rattle.grow_hash.proofs.split.Planned.{plan_distinct, plan_within, plan_some}
use Rattle.grow_hash.proofs.split.Times.{tagged_then, left_then, more_then, counted_then}

pub closed_settles : (levels : ℕ) (s : State) (last : Bool) (looked : Looked) → IsClosed levels s looked → SettlesSplit levels s last looked
closed_settles levels s last Splits h = absurd h
closed_settles levels s last Whole h = h
closed_settles levels s last (Long keys) h = h
closed_settles levels s last Worn h = absurd h

-- what was planned for the split is planned for it as a work
pub planned_as : (levels : ℕ) (s : State) (place count : ℕ) (writes : Writes) → IsGrown levels s → count ≤ 64
    → IsPlannedSplit levels s place (take count writes)
    → IsPlanned (IsGrowCommit levels) (split_meaning levels) s (split_tag place) (take count writes) Splits
planned_as levels s place count writes l few p = record {
  plan = record { splittable = p.splittable; tagged = ap split_tag p.place_is; plan = p.plan };
  some = plan_some levels s (take count writes) l p.plan;
  few = omega (arith, few, length-take count writes);
  distinct = plan_distinct levels s (take count writes) l p.plan;
  within = plan_within levels s (take count writes) l p.plan;
  fit = subst (λ (n : ℕ). IsFit (IsGrowCommit levels) s (split_tag n) (take count writes)) (sym p.place_is) (split_fit levels s (take count writes) p.plan l);
}

module _ (levels : ℕ) (k : Causes) (old new : Seat) (law : IsSeat (IsGrownOpening levels) (IsGrowCommit levels) new) where
  split_done : (time : ℕ) (looked : Looked) → IsDoneAt k (split_meaning levels) old new looked time → IsSplitDone levels k old new time
  split_done time looked d =
      let c = d.done.commit in
      let place : ℕ = split_place (state_at new.start new.seen c.snapshot) in
      record {
        looked = looked;
        made = d;
        tagged = tagged_then levels new law c place time d.done.plan.tagged d.done.entry;
        leaves = left_then levels new law c place time d.done.plan.tagged d.done.entry;
        more = more_then levels new law c place time d.done.plan.tagged d.done.entry;
        counted = counted_then levels new law c place time d.done.plan.tagged d.done.entry;
      }

  pub split_tried : (a : Attempt Looked) → Attempted k (split_meaning levels) old new a → SplitTried levels k old new (split_of a)
  split_tried (WorkDone looked (AtCommit time)) h = split_done time looked h
  split_tried (WorkDone Splits (Read time)) h = absurd h.settles
  split_tried (WorkDone Whole (Read time)) h = (time, h)
  split_tried (WorkDone (Long keys) (Read time)) h = (time, h)
  split_tried (WorkDone Worn (Read time)) h = (time, h)
  split_tried (WorkAgain cause) h = h
