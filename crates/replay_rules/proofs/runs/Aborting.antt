-- The steps of an abort, and the leave of a section that holds nothing.
use Rattle.std.proofs.Common.{◌≡◌, ℕ, ◌+◌, ◌<◌, ◌^◌, ltb, List, length, Option, Some, None, All, refl, sym, ap, ◌∙◌, subst, arith, replicate, drop, ◌-◌}
use Rattle.std.specs.Prelude.{slice_get}
use Rattle.std.proofs.lemmas.List.{length-replicate}
use Rattle.mv_layout.specs.Words.{clock_time_of}
use Rattle.mv_core.proofs.Terms.{Config, Checked, Clock, Mark, Prev}
use Rattle.mv_core.specs.declared.ring.Version as core
use Rattle.mv_core.specs.declared.ring.Slot.TheVariants.{Live}
use Rattle.mv_core.specs.declared.ring.WriteSetStatus.TheVariants.{Held}
use Rattle.mv_core.specs.declared.view.Knowledge.{Knowledge}
use Rattle.mv_core.specs.Rings.{slot_at, index_of, HoldsNothing}
use Rattle.mv_core.specs.EnterSteps.{IsWhole, IsFinished, MayClearMark}
use Rattle.mv_core.specs.SetFacts.{HoldsVersion, HoldsSlot}
use Rattle.mv_core.specs.Moves.{Moment, clear_mark, unlock_head, load_death}
use Rattle.seat_log.specs.Notes.{held_from, from_place, aborted_noted}
use Rattle.seat_log.proofs.NotedSlots.{noted_in, held_last}
use Rattle.commit_abort.specs.Aborts.{IsAborting, HeldSlot, held_number, HasGivenUp}
use Rattle.commit_abort.proofs.AbortParts as parts
use Rattle.replay_rules.specs.declared.plan.Call.{Call}
use Rattle.replay_rules.specs.declared.plan.CallOf.{CallOf}
use Rattle.replay_rules.specs.declared.seats.NotedVersion.{NotedVersion}
use Rattle.replay_rules.specs.declared.seats.Edit.TheVariants.{AbortedFrom}
use Rattle.replay_rules.specs.declared.seats.Sweep.{Sweep}
use Rattle.replay_rules.specs.declared.seats.Ending.{Ending}
use Rattle.replay_rules.specs.declared.seats.Ending.TheVariants.{Unlock, LoadDeath, Leave}
use Rattle.replay_rules.specs.declared.seats.Leaving.TheVariants.{Plainly, WithAbort}
use Rattle.replay_rules.specs.declared.seats.NextStep.{NextStep}
use Rattle.replay_rules.specs.declared.seats.NextStep.TheVariants.{EndsSection}
use Rattle.replay_rules.specs.declared.seats.CallAnswer.TheVariants.{Silent}
use Rattle.replay_rules.specs.declared.seats.Then.TheVariants.{Goes}
use Rattle.replay_rules.specs.FitPlans.{IsFitCallOf}
use Rattle.replay_rules.specs.SeatNotes.{edited_from, version_at}
use Rattle.replay_rules.specs.Begins.{unlock}
use Rattle.replay_rules.specs.States.{any_commit, any_start, Made, state_of}
use Rattle.replay_rules.specs.Runs.{TapeOf}
use Rattle.replay_rules.specs.Behind.{IsTapeBehind}
use Rattle.replay_rules.proofs.runs.Notes.{note_of, notes_from, notes_aborted, edited_long, edited_behind}
use Rattle.replay_rules.proofs.runs.Sections.{seat_with, Logs, InSection}
use Rattle.replay_rules.proofs.runs.Standing.{GivesUp, GaveUp, StepsSo, GoesSo, by_step, by_end}
use Rattle.replay_rules.proofs.runs.Stepping.{IsOfKind, view_by, next_is}
use Rattle.replay_rules.proofs.runs.Known.{if_so, ltb_lt, ltb_ge, facts, number_is, knows, starts, word_small, logs_left}
use Rattle.replay_rules.proofs.runs.LogFacts.{noted_long, noted_from, noted_at}

-- the notes with another place from which on versions are held, where it is the same
pub logs_at : (c : Config) (v : Knowledge) (log : List NotedVersion) (freed from other : ℕ) → from ≡ other → Logs c v log freed from → Logs c v log freed other
logs_at c v log freed from other same = subst (Logs c v log freed) same

-- a section whose notes say that nothing is held holds nothing
pub holds_nothing : (c : Config) (v : Knowledge) (log : List NotedVersion) (freed from : ℕ) → Logs c v log freed from → from ≡ length log → HoldsNothing v.ring
holds_nothing c v log freed from logs none j x e =
    let l = logs.noted in
    let r = noted_in c v l logs.stands j x Held e in
    let late = held_last c v l logs.stands j x r in
    let first = noted_from c l log freed from logs.is logs.stands.log.held in
    let long = noted_long c l log freed from logs.is in
    let within = r.within in
    omega (arith, late, first, long, within, none)

module _ (c : Config) (k : Checked c) (n : ℕ) (lt : n < c.seats) (made : List Made) (t : TapeOf) (b : IsTapeBehind c t made)
    (log : List NotedVersion) (freed from : ℕ) (time : Option ℕ) (call : Call) (sweep : Sweep) (own : Option NextStep) (left : List CallOf)
    (no_scan : ((state_of c made).seats n).scan ≡ None) (before : All (IsFitCallOf c) left) where
  abbrev s : Moment
  s = state_of c made

  abbrev v : Knowledge
  v = s.seats n

  abbrev Made_so : Ending → Type 0
  Made_so step = StepsSo c n made t (EndsSection step) (seat_with n log freed from time call sweep own left)

  -- the link of a held version is a word of 64 bits
  held_link : (j : ℕ) (x : core.Version) → slot_at v.ring j ≡ Live x Held → x.previous < 2 ^ 64
  held_link j x e =
      let f = facts c k n made b.each in
      let holds : HoldsVersion _ _ _ x = subst (HoldsSlot _ _ _) e (f.slot_words n j) in
      let is = holds.prev_is in
      let small = word_small c k n made b.each (Prev n j) in
      omega (arith, is, small)

  -- HEAD is given back of one version more
  unlock_made : (at given : ℕ) → GivesUp c v log freed from given → at ≡ from + given → at < length log
      → Made_so (Unlock at (version_at log at).object (version_at log at).previous)
  unlock_made at given up at_is live =
      let l = up.noted in
      let m = note_of at (version_at log at) in
      let first = noted_from c l log freed from up.is up.aborting.stands.log.held in
      let place : at - freed ≡ held_from l + given = omega (arith, at_is, first) in
      let there = subst (λ (i : ℕ). slice_get l.live i ≡ Some m) place (noted_at c l log freed from at up.is (omega (arith, at_is, first)) live) in
      let sized : length v.start ≡ c.objects = ap length (starts c k n made b.each) ∙ length-replicate c.objects (replicate {A = ℕ} 6 0) in
      let may = parts.next_may c up.before v l given up.aborting m there any_start any_commit ∣ knows c k n made b.each ∣₁ sized in
      let held : HeldSlot = held_number c v l given in
      let kind = unlock_head m.object m.previous held.slot held.version held.inside in
      let task = EndsSection (Unlock at m.object m.previous) in
      let small = held_link held.slot held.version may.1.held in
      let link = may.1.previous_is in
      let of : IsOfKind c s n kind task = record {
        is = (held.slot, held.version, held.inside, refl);
        may = may.1;
        range = may.0;
        place = refl;
        writes = λ f. refl;
        fits = λ f _. omega (arith, small, link);
      } in
      let w = view_by c s n kind in
      let more : GivesUp c w log freed from (given + 1) = record {
        before = up.before;
        noted = l;
        aborting = parts.goes_on c up.before v l given up.aborting w m there refl;
        is = up.is;
      } in
      next_is c k n lt made t b kind task of (seat_with n log freed from time call sweep own left) refl log freed from time call sweep own left refl
      no_scan before
      (if_so (GoesSo c n w log freed from time call sweep) (ltb (at + 1) (length log)) (Goes (unlock log (at + 1))) (Goes (EndsSection LoadDeath))
      (λ e. by_step (unlock log (at + 1)) refl (given + 1, more, omega (arith, at_is), ltb_lt (at + 1) (length log) e, refl, refl))
      (λ e. by_step (EndsSection LoadDeath) refl
      (given + 1, more, (let ge = ltb_ge (at + 1) (length log) e in omega (arith, at_is, ge, live)), omega arith)))

  -- the time of death is found
  death_made : (given : ℕ) → GivesUp c v log freed from given → from + given ≡ length log → 0 < given → Made_so LoadDeath
  death_made given up all some =
      let l = up.noted in
      let held = up.is.held in
      let gone = up.aborting.unlocks.gone (held_from l) (omega arith) (omega (arith, some)) in
      let task = EndsSection LoadDeath in
      let of : IsOfKind c s n load_death task = record {
        is = refl;
        may = (index_of c (l.freed + held_from l), gone.0, _, gone.1, refl);
        range = tt;
        place = refl;
        writes = λ f. refl;
        fits = λ f _. tt;
      } in
      let w = view_by c s n load_death in
      let f = facts c k n made b.each in
      let whole : IsWhole c v (s.memory Clock) s.history = ((f.history.seats n).seen, f.history.long, f.history.makers) in
      let dead = clock_time_of (s.memory Clock) + 1 in
      let given_is : given ≡ l.held = omega (arith, all, held) in
      let gave : HasGivenUp c up.before w l dead = record {
        before = v;
        aborting = subst (IsAborting c up.before v l) given_is up.aborting;
        at_first = 0;
        at_last = 1;
        death = record {
          none = λ none. absurd (omega (arith, none, given_is, some));
          some = λ _. record { word = s.memory Clock; history = s.history; whole = whole; view = refl; dead_is = refl; step = refl };
        };
      } in
      next_is c k n lt made t b load_death task of (seat_with n log freed from time call sweep own left) refl log freed from time call sweep own left
      refl no_scan before
      (by_step (EndsSection (Leave (WithAbort dead))) refl
      (record { before = up.before; noted = l; given = gave; is = up.is; some = omega (arith, all, some) }))

  -- the section ends, and what it held is dead from that time on
  aborted_made : (dead : ℕ) → GaveUp c v log freed from dead → Made_so (Leave (WithAbort dead))
  aborted_made dead gave =
      let l = gave.noted in
      let is = gave.is in
      let task = EndsSection (Leave (WithAbort dead)) in
      let of : IsOfKind c s n clear_mark task = record {
        is = refl;
        may = parts.end_may c gave.before v l dead gave.given;
        range = lt;
        place = ap Mark (number_is c k n made b.each);
        writes = λ f. refl;
        fits = λ f _. omega arith;
      } in
      let w = view_by c s n clear_mark in
      let log2 = edited_from (AbortedFrom from dead) 0 log in
      let first = noted_from c l log freed from is gave.given.aborting.stands.log.held in
      let long2 = edited_long (AbortedFrom from dead) 0 log in
      let place : held_from l ≡ from - freed = omega (arith, first) in
      let there : freed + (from - freed) ≡ from = omega (arith, first) in
      let within = is.within in
      let logs2 : Logs c w log2 freed (length log) = record {
        noted = aborted_noted l dead;
        stands = (parts.abort_ends c gave.before v l dead gave.given w (aborted_noted l dead) refl refl).1;
        is = record {
          live = (λ i. from_place (λ m. record m { dead = dead }) (place i) (is.live i)) ∙ sym (notes_aborted (from - freed) freed dead (drop freed log))
              ∙ ap (λ p. notes_from freed (edited_from (AbortedFrom p dead) freed (drop freed log))) there
              ∙ ap (notes_from freed) (sym (edited_behind (AbortedFrom from dead) freed log));
          gone = is.gone;
          within = omega (arith, within, long2);
          unbuilt = is.unbuilt;
          held = omega (arith, long2);
          few = omega arith;
        };
      } in
      next_is c k n lt made t b clear_mark task of (seat_with n log freed from time call sweep own left) refl log2 freed (length log) None call sweep
      own left refl no_scan
      before
      (by_end Silent refl (refl, sym long2, logs2))

  -- a section that holds nothing ends
  left_made : InSection c v log freed from time → from ≡ length log → Made_so (Leave Plainly)
  left_made inside none =
      let task = EndsSection (Leave Plainly) in
      let may : MayClearMark v = record {
        inside = inside.section;
        phase = inside.walking.phase;
        nothing = holds_nothing c v log freed from inside.logs none;
        finished = subst (IsFinished v) (sym inside.walking.open_is) tt;
      } in
      let of : IsOfKind c s n clear_mark task = record {
        is = refl;
        may = may;
        range = lt;
        place = ap Mark (number_is c k n made b.each);
        writes = λ f. refl;
        fits = λ f _. omega arith;
      } in
      let w = view_by c s n clear_mark in
      let still = logs_at c w log freed from (length log) none (logs_left c v w log freed from refl refl refl refl _ refl (refl, refl) inside.logs) in
      next_is c k n lt made t b clear_mark task of (seat_with n log freed from time call sweep own left) refl log freed (length log) None call sweep own
      left refl no_scan
      before (by_end Silent refl (refl, refl, still))

  -- HEAD is given back of a version that the notes say is so
  pub unlocking_made : (at o previous given : ℕ) → GivesUp c v log freed from given → at ≡ from + given → at < length log → o ≡ (version_at log at).object
      → previous ≡ (version_at log at).previous → Made_so (Unlock at o previous)
  unlocking_made at o previous given up at_is live o_is link_is =
      subst (λ (x : ℕ). Made_so (Unlock at x previous)) (sym o_is)
      (subst (λ (x : ℕ). Made_so (Unlock at (version_at log at).object x)) (sym link_is) (unlock_made at given up at_is live))

  pub dying_made : (given : ℕ) → GivesUp c v log freed from given → from + given ≡ length log → 0 < given → Made_so LoadDeath
  dying_made = death_made

  pub abort_made : (dead : ℕ) → GaveUp c v log freed from dead → Made_so (Leave (WithAbort dead))
  abort_made = aborted_made

  pub leave_made : InSection c v log freed from time → from ≡ length log → Made_so (Leave Plainly)
  leave_made = left_made
