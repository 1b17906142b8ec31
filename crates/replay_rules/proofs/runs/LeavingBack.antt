-- How a write-back ends: the time of death of what it cut, and the end of its section.
use Rattle.std.proofs.Common.{◌≡◌, ℕ, ◌+◌, ◌-◌, ◌<◌, List, length, true, Option, Some, None, All, refl, sym, ap, ◌∙◌, subst, arith}
use Rattle.mv_layout.specs.Words.{clock_time_of}
use Rattle.mv_core.proofs.Terms.{Config, Checked, Clock, Mark, IsPlace}
use Rattle.mv_core.specs.declared.view.Knowledge.{Knowledge}
use Rattle.mv_core.specs.EnterSteps.{MayClearMark, IsFinished, mark_cleared}
use Rattle.mv_core.specs.LockSteps.{MayLoadDeath, death_loaded}
use Rattle.mv_core.specs.ReclaimSteps.{head_cut}
use Rattle.mv_core.specs.Moves.{Moment, clear_mark, load_death, IsStorable}
use Rattle.seat_log.specs.Notes.{retired, back_noted}
use Rattle.seat_log.specs.Stands.{version_of, Stands}
use Rattle.seat_log.proofs.CutLogs.{waits_for_death, stands_cut}
use Rattle.replay_rules.specs.declared.plan.Call.TheVariants.{Tidy}
use Rattle.replay_rules.specs.declared.plan.CallOf.{CallOf}
use Rattle.replay_rules.specs.declared.seats.NotedVersion.{NotedVersion}
use Rattle.replay_rules.specs.declared.seats.Edit.TheVariants.{Retired, AboveNoted}
use Rattle.replay_rules.specs.declared.seats.Sweep.{Sweep}
use Rattle.replay_rules.specs.declared.seats.WriteBackEnd.TheVariants.{WasCut, WasGone, WasAbove}
use Rattle.replay_rules.specs.declared.seats.Sweeping.{Sweeping}
use Rattle.replay_rules.specs.declared.seats.Sweeping.TheVariants.{LoadCutDeath, LeaveBack, LoadSuperAgain}
use Rattle.replay_rules.specs.declared.seats.NextStep.{NextStep}
use Rattle.replay_rules.specs.declared.seats.NextStep.TheVariants.{Tidies}
use Rattle.replay_rules.specs.FitPlans.{IsFitCallOf}
use Rattle.replay_rules.specs.SeatNotes.{version_at, edited_from}
use Rattle.replay_rules.specs.Tasks.{place_in_task, access_in_task, written_by}
use Rattle.replay_rules.specs.Kinds.{IsKindOf}
use Rattle.replay_rules.specs.States.{Made, state_of}
use Rattle.replay_rules.specs.Runs.{SeatOf, TapeOf}
use Rattle.replay_rules.specs.Behind.{IsTapeBehind}
use Rattle.replay_rules.proofs.runs.Notes.{note_of, edited_long}
use Rattle.replay_rules.proofs.runs.Sections.{seat_with, Logs, RestsAt, IsSwept, later}
use Rattle.replay_rules.proofs.runs.Standing.{IsUncut, HasCut}
use Rattle.replay_rules.proofs.runs.Standing.{StepsSo, by_step}
use Rattle.replay_rules.proofs.runs.Stepping.{IsOfKind, view_by, next_is}
use Rattle.replay_rules.proofs.runs.Known.{facts, number_is, logs_left}
use Rattle.replay_rules.proofs.runs.Aborting.{holds_nothing}
use Rattle.replay_rules.proofs.runs.Rounds.{is_note}
use Rattle.replay_rules.proofs.runs.Settling.{noted_retired, noted_above, behind_so}

module _ (c : Config) (k : Checked c) (n : ℕ) (lt : n < c.seats) (made : List Made) (t : TapeOf) (b : IsTapeBehind c t made)
    (log : List NotedVersion) (freed from : ℕ) (time : Option ℕ) (sweep : Sweep) (own : Option NextStep) (left : List CallOf)
    (no_scan : ((state_of c made).seats n).scan ≡ None) (before : All (IsFitCallOf c) left) where
  abbrev s : Moment
  s = state_of c made

  abbrev v : Knowledge
  v = s.seats n

  abbrev seat_so : SeatOf
  seat_so = seat_with n log freed from time Tidy sweep own left

  abbrev Made_so : Sweeping → Type 0
  Made_so step = StepsSo c n made t (Tidies step) seat_so

  -- the time of death is loaded
  death_made : (at : ℕ) → HasCut c v log freed from sweep at None → Made_so (LoadCutDeath at)
  death_made at f =
      let m2 = note_of at (version_at log at) in
      let task = Tidies (LoadCutDeath at) in
      let note = is_note c f.before log freed from f.logs f.nothing at f.back.unfreed f.back.live f.back.no_death in
      let waits = waits_for_death c f.before f.logs.noted (at - freed) m2 f.note f.logs.stands note f.lives f.back.no_death in
      let of : IsOfKind c s n load_death task =
      record { is = refl; may = subst MayLoadDeath (sym f.view_is) waits; range = tt; place = refl; writes = λ x. refl; fits = λ x _. tt } in
      let w = view_by c s n load_death in
      let word = s.memory Clock in
      next_is c k n lt made t b load_death task of seat_so refl log freed from time Tidy (later sweep word) own left refl no_scan before
      (by_step (Tidies (LeaveBack at (WasCut (clock_time_of word + 1)))) refl (
        record {
          before = f.before;
          section = f.section;
          phase = f.phase;
          open_is = f.open_is;
          scans = f.scans;
          logs = f.logs;
          nothing = f.nothing;
          back = f.back;
          swept = f.swept;
          note = f.note;
          lives = f.lives;
          view_is = (word, s.history, ap (λ (u : Knowledge). death_loaded c u word s.history) f.view_is, refl);
        },
        refl,
      ))

  -- the section ends, and the version that was cut is dead from that time on
  cut_left : (at dead : ℕ) → HasCut c v log freed from sweep at (Some dead) → Made_so (LeaveBack at (WasCut dead))
  cut_left at dead f =
      let m2 = note_of at (version_at log at) in
      let task = Tidies (LeaveBack at (WasCut dead)) in
      let cut = f.view_is in
      let word = cut.0 in
      let h = cut.1 in
      let V = death_loaded c (head_cut c f.before (version_at log at).object at (version_of m2) f.note) word h in
      let note = is_note c f.before log freed from f.logs f.nothing at f.back.unfreed f.back.live f.back.no_death in
      let fs = facts c k n made b.each in
      let back_is : v.back ≡ Some (record { object = (version_at log at).object; position = at; stored = 6; tried = true }) = ap
      (λ (u : Knowledge). u.back) cut.2 in
      let written = fs.write_back n (record { object = (version_at log at).object; position = at; stored = 6; tried = true }) back_is in
      let may : MayClearMark v = record {
        inside = f.section;
        phase = ap (λ (u : Knowledge). u.phase) cut.2 ∙ f.phase;
        nothing = written.2.nothing;
        finished = subst (IsFinished v) (sym f.open_is) tt;
      } in
      let of : IsOfKind c s n clear_mark task = record {
        is = refl;
        may = may;
        range = lt;
        place = ap Mark (number_is c k n made b.each);
        writes = λ x. refl;
        fits = λ x _. omega arith;
      } in
      let w = view_by c s n clear_mark in
      let log2 = edited_from (Retired at dead) 0 log in
      let long = edited_long (Retired at dead) 0 log in
      let so = stands_cut c f.before f.logs.noted (at - freed) m2 f.note f.logs.stands note f.lives f.back.no_death word h in
      let is = noted_retired c f.logs.noted log freed from at dead f.logs.is f.back.unfreed in
      let logs2 : Logs c w log2 freed from = record {
        noted = back_noted (retired f.logs.noted at dead);
        stands = subst (λ (u : Knowledge). Stands c (mark_cleared c u) (back_noted (retired f.logs.noted at dead))) (sym cut.2)
            (subst (λ d. Stands c (mark_cleared c V) (back_noted (retired f.logs.noted at d))) (sym cut.3) so);
        is = record { live = is.live; gone = is.gone; within = is.within; unbuilt = is.unbuilt; held = is.held; few = is.few };
      } in
      let none = f.nothing in
      let nothing2 : from ≡ length log2 = omega (arith, none, long) in
      let swept2 : IsSwept v.grace sweep = subst (λ (u : Knowledge). IsSwept u.grace sweep) (sym cut.2) f.swept in
      let live = f.back.live in
      next_is c k n lt made t b clear_mark task of seat_so refl log2 freed from None Tidy sweep own left refl no_scan before
      (behind_so c k n lt made t b log freed from sweep own left no_scan before w log2 sweep at no_scan (refl, nothing2, logs2) swept2 f.back.unfreed
      (omega (arith, live, long)))

  -- a section that has cut nothing ends
  module _ (at : ℕ) (f : IsUncut c v log freed from sweep at) where
    of_leave : (task : NextStep) → place_in_task c n task ≡ Mark n → ((x : ℕ) → Some 0 ≡ written_by (access_in_task n task) x)
        → IsKindOf task clear_mark → IsOfKind c s n clear_mark task
    of_leave task there writes is = record {
      is = is;
      may = record {
        inside = f.section;
        phase = f.phase;
        nothing = holds_nothing c v log freed from f.logs f.nothing;
        finished = subst (IsFinished v) (sym f.open_is) tt;
      };
      range = subst (IsPlace c) (sym there) lt;
      place = ap Mark (number_is c k n made b.each) ∙ sym there;
      writes = writes;
      fits = λ x _. subst IsStorable (writes x) (omega arith);
    }

    abbrev w : Knowledge
    w = view_by c s n clear_mark

    logs2 : Logs c w log freed from
    logs2 = logs_left c v w log freed from refl refl refl refl _ refl (refl, refl) f.logs

    gone_left : Made_so (LeaveBack at WasGone)
    gone_left =
        let task = Tidies (LeaveBack at WasGone) in
        let still : RestsAt c w log freed from None = (refl, f.nothing, logs2) in
        next_is c k n lt made t b clear_mark task (of_leave task refl (λ x. refl) refl) seat_so refl log freed from None Tidy sweep own left refl no_scan before
        (by_step (Tidies (LoadSuperAgain at)) refl ((still, refl, f.swept, f.back.unfreed, f.back.live, f.back.no_death), refl))

    above_left : (seat : Option ℕ) → Made_so (LeaveBack at (WasAbove seat))
    above_left seat =
        let task = Tidies (LeaveBack at (WasAbove seat)) in
        let log2 = edited_from (AboveNoted at seat) 0 log in
        let long = edited_long (AboveNoted at seat) 0 log in
        let none = f.nothing in
        let live = f.back.live in
        let noted2 : Logs c w log2 freed from =
        record { noted = logs2.noted; stands = logs2.stands; is = noted_above c logs2.noted log freed from at seat logs2.is } in
        let nothing2 : from ≡ length log2 = omega (arith, none, long) in
        next_is c k n lt made t b clear_mark task (of_leave task refl (λ x. refl) refl) seat_so refl log2 freed from None Tidy sweep own left refl
        no_scan before
        (behind_so c k n lt made t b log freed from sweep own left no_scan before w log2 sweep at no_scan (refl, nothing2, noted2) f.swept f.back.unfreed
        (omega (arith, live, long)))

  pub death_is : (at : ℕ) → HasCut c v log freed from sweep at None → Made_so (LoadCutDeath at)
  death_is = death_made

  pub cut_leaves : (at dead : ℕ) → HasCut c v log freed from sweep at (Some dead) → Made_so (LeaveBack at (WasCut dead))
  cut_leaves = cut_left

  pub gone_leaves : (at : ℕ) → IsUncut c v log freed from sweep at → Made_so (LeaveBack at WasGone)
  gone_leaves = gone_left

  pub above_leaves : (at : ℕ) → IsUncut c v log freed from sweep at → (seat : Option ℕ) → Made_so (LeaveBack at (WasAbove seat))
  above_leaves = above_left
