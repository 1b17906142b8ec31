-- What an attempt of a transfer leaves, from what it leaves as a work.
use Rattle.mv_history.proofs.Committed.{allowed_there}
use Rattle.section_work.specs.declared.place.Place.{Place}
use Rattle.section_work.specs.declared.place.Place.TheVariants.{Commit as AtCommit, Read}
use Rattle.section_work.specs.Causes.{Causes}
use Rattle.section_work.specs.Attempts.{IsDoneAt, IsReadAt, Attempted}
use Rattle.section_work.specs.declared.attempting.Attempt.TheVariants.{Done}
use Rattle.accounts.proofs.Terms.{ℕ, true, List, refl, ap, ◌∙◌, subst, arith, nat_tests, state_at, Seat, IsSeat, IsWorn, length-seen, Enough, Short, Late}
use Rattle.accounts.proofs.Terms.{balance, from_of, IsOpening, IsTransfer, transfer_meaning, ◌≡◌, ◌+◌, ◌-◌, ◌==◌}
use Rattle.accounts.specs.declared.transfer_work.Funds.{Funds}
use Rattle.accounts.specs.Attempts.{attempt_of, IsDone, IsShort, Answers}

module _ (k : Causes) (old new : Seat) (law : IsSeat IsOpening IsTransfer new) (tag : List ℕ) where
  -- the rules, which the new seat's history keeps, say that its commit is the transfer
  done_is : (found : Funds) (time : ℕ) → IsDoneAt k (transfer_meaning tag) old new found time → IsDone k old new tag time
  done_is found time d =
      let c = d.done.commit in
      record {
        commit = c;
        tagged = d.done.plan.tagged;
        entry = d.done.entry;
        later = d.done.later;
        mine = d.done.mine;
        moves = subst (λ (t : List ℕ). IsTransfer t (state_at new.start new.seen (time - (new.base + 1))) c.writes) d.done.plan.tagged
            (allowed_there IsOpening IsTransfer new law c time d.done.entry);
        entered = d.entered;
        enters = d.enters;
        snapshot = d.snapshot;
      }

  short_is : (had time : ℕ) → IsReadAt k (transfer_meaning tag) old new (Short had) time → IsShort k old new tag time had
  short_is had time r =
      let e = r.enters.enters in
      let there : time - new.base ≡ r.entered.at = omega (arith, r.time_is, e.continues.base) in
      record {
        mine = r.mine;
        entered = r.entered;
        enters = r.enters;
        at = r.entered.at;
        at_is = refl;
        after = omega (arith, length-seen r.enters.comes, e.enters.at);
        seen = omega (arith, length-seen e.continues, e.at);
        time_is = omega (arith, r.time_is, e.continues.base);
        had_is = r.settles.0 ∙ ap (λ (n : ℕ). balance (state_at new.start new.seen n) (from_of tag)) there;
        less = r.settles.1;
      }

  at_end : (time last : ℕ) → (time == last) ≡ true → time ≡ last
  at_end time last e = grind (arith, nat_tests)

  worn_is : (time : ℕ) → IsReadAt k (transfer_meaning tag) old new Late time → (new.mine ≡ old.mine) × IsWorn new
  worn_is time r =
      let e = r.enters.enters in
      (r.mine, omega (arith, at_end time new.last r.settles.1, r.time_is, e.continues.base, e.at, length-seen e.continues, law.time))

  -- What an attempt answers that is done, by what it leaves as a work.
  pub answered_is : (found : Funds) (place : Place) → Attempted k (transfer_meaning tag) old new (Done found place)
      → Answers k old new tag (attempt_of found place)
  answered_is found (AtCommit time) h = done_is found time h
  answered_is Enough (Read time) h = absurd h.settles
  answered_is (Short had) (Read time) h = short_is had time h
  answered_is Late (Read time) h = worn_is time h
