-- A tidy names a fresh time only of an entry that wasn't seen before the call.
use Rattle.std.proofs.Common.{◌≡◌, ℕ, ◌+◌, ◌<◌, ◌≤◌, true, false, List, length, sym, ◌∙◌, ap, subst, arith, Option, Some, None}
use Rattle.mv_history.specs.State.{State, Writes}
use Rattle.mv_history.specs.declared.answers.Holder.{Holder}
use Rattle.mv_history.specs.declared.answers.Holder.TheVariants.{Fresh}
use Rattle.mv_layout.specs.declared.Config.{Config}
use Rattle.seat_log.specs.mv_core.declared.view.Knowledge.{Knowledge}
use Rattle.seat_log.specs.declared.version.Note.{Note}
use Rattle.seat_log.specs.Notes.{Noted}
use Rattle.log_reclaim.specs.declared.settling.HeadHolders.{HeadHolders}
use Rattle.log_reclaim.specs.declared.rounds.RoundScan.{RoundScan}
use Rattle.log_reclaim.specs.Sweeps.{SweepsSo, found_at}
use Rattle.log_reclaim.specs.Rounds.{untimed_holder, holder_of, IsHolder}
use Rattle.log_reclaim.specs.Tidies.{HeldBy, TidiesLeft}
use Rattle.log_reclaim.proofs.causes.HolderCases.{by_cases}
use Rattle.log_reclaim.proofs.Reclaiming.{reclaims_base, reclaims_more}

-- where this holder is a fresh time, it is above the clock
abbrev IsLate : ℕ → Holder → Type 0
IsLate clock h = (time : ℕ) → h ≡ Fresh time → clock < time

not_untimed : (clock : ℕ) (first : RoundScan) (n : Note) (above : Option ℕ) → IsLate clock (untimed_holder first n above)
not_untimed clock first n None time is = absurd cc
not_untimed clock first n (Some seat) time is = absurd cc

-- the time of a fresh one
abbrev time_in : Holder → ℕ
time_in (Fresh time) = time
time_in _ = 0

fresh_late : (first last : RoundScan) (found : HeadHolders) (n : Note) → IsLate last.clock (holder_of first last true found n)
fresh_late first last found n =
    by_cases (IsLate last.clock) first last true found n
    (λ late time is. absurd cc)
    (λ late in_time time is. let e : n.dead ≡ time = ap time_in is in omega arith)
    (λ some before time is. absurd cc)
    (λ none back. not_untimed last.clock first n (found_at found n.position))
    (λ none back. absurd cc)

module _ (starts : State → Type 0) (allows : List ℕ → State → Writes → Type 0) (c : Config) (v w : Knowledge) (l m : Noted) (freed : ℕ)
    (held : Option Holder) (t : TidiesLeft starts allows c v w l m freed held) where
  after_both : v.base + length v.past.seen ≤ t.rest_view.base + length t.rest_view.past.seen
  after_both =
      let base = reclaims_base t.scan_view t.rest_view t.rest_steps t.rest.reclaims ∙ reclaims_base v t.scan_view t.scan_steps t.scan.reclaims in
      let one = reclaims_more v t.scan_view t.scan_steps t.scan.reclaims in
      let two = reclaims_more t.scan_view t.rest_view t.rest_steps t.rest.reclaims in omega arith

  by_last : (last : Option RoundScan) → SweepsSo c t.rest_view w t.rest_log m t.last_steps false t.unused t.last_freed last
      → HeldBy m t.first last t.found held → (time : ℕ) → held ≡ Some (Fresh time) → v.base + length v.past.seen < time
  by_last None again by time is = let e : None ≡ Some (Fresh time) = sym by ∙ is in absurd cc
  by_last (Some last) again by time is =
      let h = subst (IsHolder m t.first last true t.found) is by in
      let late = fresh_late t.first last t.found h.0 time (sym h.2) in
      let before = after_both in
      let after = again.after in omega arith

  pub left_fresh : (time : ℕ) → held ≡ Some (Fresh time) → v.base + length v.past.seen < time
  left_fresh = by_last t.last t.again t.held_by
