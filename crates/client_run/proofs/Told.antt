-- What tasks tell of their commits, in the whole history.
use Rattle.std.proofs.Common.{◌≡◌, ℕ, ◌+◌, ◌<◌, ◌≤◌, List, [], length, take, drop, All, length-append, sym, ap, subst, ◌∙◌, arith}
use Rattle.std.proofs.lemmas.List.{append-nil, take-append-le, take-append-drop}
use Rattle.std.specs.Prelude.{sum_by, Result, IfOk}
use mathlib.Core.Option.{some}
use lib.ListN.{get_elem?}
use Rattle.mv_history.specs.State.{State, Writes, state_at, state_after, maker_of}
use Rattle.mv_history.specs.Meaning.{Seat, IsWorn}
use Rattle.mv_history.specs.Calls.{Continues}
use Rattle.mv_history.specs.CallLaws.{Continues-itself}
use Rattle.mv_history.proofs.Histories.{IsAllowed-front}
use Rattle.mv_history.proofs.Steps.{length-seen}
use Rattle.mv_history.proofs.Writing.{length-state_after}
use Rattle.mv_layout.specs.declared.Config.{Config}
use Rattle.mvrlu.specs.Opened.{new_seat}
use Rattle.mvrlu.specs.Whole.{Whole, last_state}
use Rattle.domain_run.specs.Runs.{RanOn, IsRun}
use Rattle.domain_loan.proofs.Rows.{place_below, at_below, if_ok}
use Rattle.client_run.specs.Over.{IsOver, EachTold}
use Rattle.mv_client.specs.Invariants.{IsKept, IsRaised, count_changes}
use Rattle.mv_client.specs.Updates.{Repeated}
use Rattle.mv_client.proofs.Commits.{told_in_all}
use Rattle.mv_history.proofs.Kept.{keeps_after}
use Rattle.mv_client.proofs.Invariants.{raised_after}

-- what follows from what holds where a result is fine
pub then_ok : {A E : Type 0} {P Q : A → Type 0} (r : Result A E) → IfOk r P → ((a : A) → P a → Q a) → IfOk r Q
then_ok r p f = if_ok r f p

module _ {T : Type 0} {does : Seat → Seat → T → T → Type 0} {allows : List ℕ → State → Writes → Type 0} {home : List ℕ} {c : Config} {start : State}
    {olds news : List T} {met : List Seat} {w : Whole} (ran : IsRun does allows home c start olds news met w) where
  -- the seat on which the task of this number ran, and what it did there
  pub ran_at : (k : ℕ) (n : T) → get_elem? news k ≡ some n
      → (s : Seat) × (o : T) × (get_elem? olds k ≡ some o) × RanOn does (new_seat home c start k) s w o n
  ran_at k n e =
      let below = place_below news k n e in
      let long = ran.many in
      let as_many = ran.seats in
      let s = at_below met k (omega arith) in
      let o = ran.each k n s.0 e s.1 in
      (s.0, o.0, o.1, o.2)

  module _ {k : ℕ} {o n : T} {s : Seat} (on : RanOn does (new_seat home c start k) s w o n) where
    -- what a seat that met has seen of a time is so in the whole history
    pub seen_in_whole : (at : ℕ) → at ≤ length s.seen → (at ≤ length w.history) × (state_at s.start s.seen at ≡ state_at w.start w.history at)
    seen_in_whole at le =
        let begins = on.seen s.seen ([], sym (append-nil s.seen)) in
        let long = ap length begins.1 ∙ length-append s.seen begins.0 in (
          omega (arith, long, le),
          ap (λ u. state_after u (take at s.seen)) (on.continues.start ∙ sym ran.opening)
              ∙ ap (state_after w.start) (sym (ap (take at) begins.1 ∙ take-append-le at s.seen begins.0 le)),
        )

    -- where a seat had no time left that then met, the domain has none
    pub worn_over : {between : Seat} → Continues (new_seat home c start k) between → Continues between s → IsWorn between → IsOver w
    worn_over {between} first later worn =
        let few = (seen_in_whole (length s.seen) (omega arith)).0 in
        omega (arith, worn, few, length-seen later, first.base, first.last, ran.time, ran.base)

  -- each task whose commits are so many made as many as it was asked for, unless the last time came
  pub each_told : (asked told : T → ℕ) → ((a b : Seat) (o n : T) → does a b o n → Repeated a b (asked o) (told n)) → EachTold asked told olds news w
  each_told asked told repeats k n e =
      let r = ran_at k n e in
      let d = repeats _ _ _ _ r.3.did in
      (r.1, r.2, d.most, λ less. worn_over r.3 d.continues (Continues-itself _) (d.all less))

  -- Where each task tells how many commits it made, all that is told is all that there are.
  pub told_by_all : (told : T → ℕ) → ((a b : Seat) (o n : T) → does a b o n → length b.mine ≡ length a.mine + told n) → length olds ≡ c.seats
      → sum_by told news ≡ count_changes w.history
  told_by_all told tells many =
      told_in_all told news w.history (subst (λ (n : ℕ). All (λ e. maker_of e < n) w.history) (sym many ∙ sym ran.many) ran.makers)
      (λ k n e.
      let r = ran_at k n e in
      let made = tells (new_seat home c start k) r.0 r.1 n r.3.did in
      omega (arith, made, ap length r.3.mine))

  -- So what each commit raises by one has been raised by all that is told, in as many objects as there were.
  pub raised_by_all : (f : State → ℕ) → IsRaised allows f → (told : T → ℕ)
      → ((a b : Seat) (o n : T) → does a b o n → length b.mine ≡ length a.mine + told n) → length olds ≡ c.seats
      → (length (last_state w) ≡ length start) × (f (last_state w) ≡ f start + sum_by told news)
  raised_by_all f raises told tells many = (
    length-state_after w.start w.history ∙ ap length ran.opening,
    omega (arith, raised_after allows f raises w.start w.history ran.allowed, told_by_all told tells many, ap f ran.opening),
  )

  -- what each commit keeps holds at each time, and at last
  module _ (P : State → Type 0) (kept : IsKept allows P) (opens : P start) where
    pub kept_at : (t : ℕ) → P (state_at w.start w.history t)
    kept_at t =
        keeps_after allows P kept w.start (take t w.history)
        (IsAllowed-front allows w.start (take t w.history) (drop t w.history) (rw (take-append-drop t w.history) ran.allowed))
        (subst P (sym ran.opening) opens)

    pub kept_last : P (last_state w)
    kept_last = keeps_after allows P kept w.start w.history ran.allowed (subst P (sym ran.opening) opens)
