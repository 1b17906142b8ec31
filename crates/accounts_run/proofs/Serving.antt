-- What tellers did, by the whole history.
use Rattle.std.proofs.Common.{◌≡◌, ℕ, ◌<◌, ◌≤◌, List, [], ◌∷◌, length, take, All, length-append, refl, sym, ap, subst, ◌∙◌, arith}
use Rattle.std.proofs.lemmas.List.{append-nil, take-append-le}
use Rattle.std.proofs.lemmas.List.Elements.{All-nil, All-cons, All-head, All-tail, All-weaker}
use Rattle.mv_history.specs.State.{State, state_at, state_after, maker_of}
use Rattle.mv_history.specs.Meaning.{Seat}
use Rattle.mv_history.specs.Calls.{Continues}
use Rattle.mv_history.specs.CallLaws.{Continues-itself}
use Rattle.mv_history.proofs.Steps.{Continues-Continues, length-seen, state_at-later}
use Rattle.mv_history.proofs.Writing.{length-state_after}
use Rattle.mv_core.specs.HistoryFacts.{BeginsWith}
use Rattle.mv_layout.specs.declared.Config.{Config}
use Rattle.accounts.specs.declared.reading.SumAt.{SumAt}
use Rattle.accounts.specs.Rules.{total, IsTransfer}
use Rattle.accounts.specs.declared.rules.TheConstants.{ACCOUNTS}
use Rattle.accounts.specs.Repeats.{IsSum, ReadsEach}
use Rattle.accounts.proofs.Totals.{total-history}
use Rattle.accounts_run.specs.declared.teller.Teller.{Teller}
use Rattle.accounts_run.specs.Runs.{Served, IsServed, IsSumOf, IsRunOf}
use Rattle.mvrlu.specs.Causes.{Took}
use Rattle.mvrlu.specs.Opened.{new_seat}
use Rattle.mvrlu.specs.Whole.{Whole, last_state}
use Rattle.domain_run.specs.Numbers.{numbers_for}
use Rattle.domain_run.specs.Runs.{RanOn, IsRun}
use Rattle.domain_loan.proofs.Rows.{place_below, at_below}

-- sums that were read go on
reads_continue : (old new : Seat) (sums : List SumAt) → ReadsEach Took old new sums → Continues old new
reads_continue old new [] each = subst (Continues old) (sym each) (Continues-itself old)
reads_continue old new (sum ∷ sums) each =
    Continues-Continues (Continues-Continues each.1.enters.seat.continues each.1.leaves) (reads_continue each.0 new sums each.2)

module _ (w : Whole) (opening : ℕ) (met : Seat) (begins : BeginsWith w.history met.seen) (start : met.start ≡ w.start) (base : met.base ≡ w.base) where
  seen_few : length met.seen ≤ length w.history
  seen_few = let long = ap length begins.1 ∙ length-append met.seen begins.0 in omega (arith, long)

  -- a state that the seat has seen is that of the whole history
  state_seen : (at : ℕ) → at ≤ length met.seen → state_at met.start met.seen at ≡ state_at w.start w.history at
  state_seen at le =
      ap (λ s. state_after s (take at met.seen)) start
      ∙ ap (state_after w.start) (sym (ap (take at) begins.1 ∙ take-append-le at met.seen begins.0 le))

  sum_of : (old between : Seat) (sum : SumAt) → IsSum Took old between sum → Continues between met → sum.total ≡ opening → IsSumOf w opening sum
  sum_of old between sum is goes same =
      let long = length-seen goes in
      record {
        at = is.entered.at;
        seen = omega (arith, is.seen, long, seen_few);
        time_is = omega (arith, is.time_is, goes.base, base);
        total_is = is.total_is ∙ ap total (sym (state_at-later goes is.entered.at is.seen) ∙ state_seen is.entered.at (omega (arith, is.seen, long)));
        same = same;
      }

  sums_of : (old : Seat) (sums : List SumAt) → ReadsEach Took old met sums → All (λ s. s.total ≡ opening) sums → All (IsSumOf w opening) sums
  sums_of old [] each same = All-nil (IsSumOf w opening)
  sums_of old (sum ∷ sums) each same =
      All-cons (IsSumOf w opening) sum sums
      (sum_of old each.0 sum each.1 (reads_continue each.0 met sums each.2) (All-head (λ s. s.total ≡ opening) sum sums same))
      (sums_of each.0 sums each.2 (All-tail (λ s. s.total ≡ opening) sum sums same))

module _ (home : List ℕ) (c : Config) (start : State) (olds news : List Teller) (met : List Seat) (w : Whole) (opening : ℕ) (is : total start ≡ opening)
    (ran : IsRun (Served Took) IsTransfer home c start olds news met w) where
  served : (k : ℕ) (o n : Teller) (s : Seat) → RanOn (Served Took) (new_seat home c start k) s w o n → IsServed home opening w k o n
  served k o n s on =
      let d = on.did in
      let moves = d.moves in
      let reads = d.reads in
      let begins = on.seen s.seen ([], sym (append-nil s.seen)) in
      let few = ap length begins.1 ∙ length-append s.seen begins.0 in
      let long = length-seen reads.continues in
      record {
        met = s;
        named = on.named;
        seen = on.seen;
        served = subst (λ f. Served Took f s o n) (sym (λ i. new_seat home (ran.config i) (ran.opening i) k)) d;
        made = omega (arith, moves.mine, ap length on.mine, ap length reads.mine);
        most = moves.most;
        all = λ less.
            omega (arith, moves.all less, few, long, moves.continues.base, moves.continues.last, ran.time, ran.base);
        many = reads.many;
        read = sums_of w opening s begins (on.continues.start ∙ sym ran.opening) (on.continues.base ∙ sym ran.base) d.between n.read.items reads.each
            (All-weaker (λ sum. sum.total ≡ total d.between.start) (λ sum. sum.total ≡ opening)
            (λ sum e. e ∙ ap total moves.continues.start ∙ is) n.read.items reads.same);
      }

  pub run_of : c ≡ numbers_for (length olds) ACCOUNTS 2 → IsRunOf opening olds news w
  run_of numbers = record {
    config = ran.config ∙ numbers;
    numbered = ran.numbered;
    home = home;
    allowed = ran.allowed;
    opens = ap total ran.opening ∙ is;
    makers = subst (λ (n : ℕ). All (λ e. maker_of e < n) w.history) (ap (λ (n : Config). n.seats) numbers) ran.makers;
    many = ran.many;
    each = λ k n e.
        let below = place_below news k n e in
        let long = ran.many in
        let as_many = ran.seats in
        let s = at_below met k (omega arith) in
        let o = ran.each k n s.0 e s.1 in
        (o.0, o.1, served k o.0 n s.0 o.2);
  }

  pub last_of : (n : ℕ) → length start ≡ n → (length (last_state w) ≡ n) × (total (last_state w) ≡ opening)
  last_of n many = (
    length-state_after w.start w.history ∙ ap length ran.opening ∙ many,
    total-history w.start w.history ran.allowed ∙ ap total ran.opening ∙ is,
  )
