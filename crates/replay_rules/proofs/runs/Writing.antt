-- The stores of a write.
use Rattle.std.proofs.Common.{◌≡◌, ℕ, ◌+◌, ◌-◌, ◌<◌, ltb, List, Option, None, All, refl, sym, ap, ◌∙◌, arith, slice_index, mod-lt, drop}
use Rattle.mv_core.proofs.Terms.{Config, Checked, Data}
use Rattle.mv_core.specs.declared.view.Knowledge.{Knowledge}
use Rattle.mv_core.specs.Moves.{Moment, store_data}
use Rattle.seat_log.specs.Notes.{IsHeld, at_place, with_word, word_noted}
use Rattle.seat_log.specs.Builds.{version_at as version_in_view}
use Rattle.seat_log.proofs.HeldWords.{may_word, stands_word}
use Rattle.replay_rules.specs.declared.plan.Call.{Call}
use Rattle.replay_rules.specs.declared.plan.CallOf.{CallOf}
use Rattle.replay_rules.specs.declared.seats.NotedVersion.{NotedVersion}
use Rattle.replay_rules.specs.declared.seats.Edit.TheVariants.{WordPut}
use Rattle.replay_rules.specs.declared.seats.Sweep.{Sweep}
use Rattle.replay_rules.specs.declared.seats.NextStep.{NextStep}
use Rattle.replay_rules.specs.declared.seats.NextStep.TheVariants.{Writes}
use Rattle.replay_rules.specs.declared.seats.CallAnswer.TheVariants.{Silent}
use Rattle.replay_rules.specs.declared.seats.Then.TheVariants.{Goes, Ends}
use Rattle.replay_rules.specs.FitPlans.{IsFitCallOf}
use Rattle.replay_rules.specs.SeatNotes.{edited_from}
use Rattle.replay_rules.specs.Tasks.{slot_at as slot_for}
use Rattle.replay_rules.specs.States.{Made, state_of}
use Rattle.replay_rules.specs.Runs.{TapeOf}
use Rattle.replay_rules.specs.Behind.{IsTapeBehind}
use Rattle.replay_rules.proofs.runs.Notes.{notes_from, notes_put, edited_long, edited_behind}
use Rattle.replay_rules.proofs.runs.Sections.{seat_with, Logs, InSection}
use Rattle.replay_rules.proofs.runs.Standing.{IsWriting, StepsSo, GoesSo, by_step, by_end}
use Rattle.replay_rules.proofs.runs.Stepping.{IsOfKind, view_by, next_is}
use Rattle.replay_rules.proofs.runs.Known.{if_so, ltb_lt, number_is}
use Rattle.replay_rules.proofs.runs.LogFacts.{noted_long, from_there}
use Rattle.replay_rules.proofs.runs.Helping.{rests_in}

module _ (c : Config) (k : Checked c) (n : ℕ) (lt : n < c.seats) (made : List Made) (t : TapeOf) (b : IsTapeBehind c t made)
    (log : List NotedVersion) (freed from : ℕ) (time : Option ℕ) (call : Call) (sweep : Sweep) (own : Option NextStep) (left : List CallOf)
    (no_scan : ((state_of c made).seats n).scan ≡ None) (before : All (IsFitCallOf c) left) where
  abbrev s : Moment
  s = state_of c made

  abbrev v : Knowledge
  v = s.seats n

  pub writing_made : (at : ℕ) (words : List ℕ) (word : ℕ) → IsWriting c v log freed from time at words word
      → StepsSo c n made t (Writes at words word) (seat_with n log freed from time call sweep own left)
  writing_made at words word writes =
      let inside = writes.inside in
      let l = inside.logs.noted in
      let is = inside.logs.is in
      let k2 = inside.logs.stands in
      let long = noted_long c l log freed from is in
      let gone = is.gone in
      let within = is.within in
      let starts = from_there c k v log freed from inside.logs in
      let few = is.held in
      let low = writes.held in
      let high = writes.live in
      let fit = k2.log.held in
      let held : IsHeld l at = (omega (arith, long, gone, few, low, fit), omega (arith, long, gone, high)) in
      let value = slice_index words word in
      let kind = store_data at word value (version_in_view c v at) in
      let task = Writes at words word in
      let slots = k.slots.0 in
      let of : IsOfKind c s n kind task = record {
        is = (version_in_view c v at, refl);
        may = may_word c v l at word value k2 held (inside.section, inside.walking.phase, inside.walking.open_is) writes.in_range;
        range = (lt, mod-lt at (omega (arith, slots)), writes.in_range);
        place = ap (λ (m : ℕ). Data m (slot_for c at) word) (number_is c k n made b.each);
        writes = λ f. refl;
        fits = λ f _. writes.small word;
      } in
      let w = view_by c s n kind in
      let log2 = edited_from (WordPut at word value) 0 log in
      let long2 = edited_long (WordPut at word value) 0 log in
      let place : at - l.freed ≡ at - freed = omega (arith, gone) in
      let there : freed + (at - freed) ≡ at = omega (arith, low, starts) in
      let logs2 : Logs c w log2 freed from = record {
        noted = word_noted l at word value;
        stands = stands_word c v l at word value k2 held w refl;
        is = record {
          live = (λ i. at_place (with_word word value) (place i) (is.live i)) ∙ sym (notes_put (at - freed) word value freed (drop freed log))
              ∙ ap (λ p. notes_from freed (edited_from (WordPut p word value) freed (drop freed log))) there
              ∙ ap (notes_from freed) (sym (edited_behind (WordPut at word value) freed log));
          gone = is.gone;
          within = omega (arith, within, long2);
          unbuilt = is.unbuilt;
          held = omega (arith, few, long2);
          few = is.few;
        };
      } in
      let inside2 : InSection c w log2 freed from time = record {
        section = inside.section;
        walking = record {
          phase = inside.walking.phase;
          open_is = inside.walking.open_is;
          helped = inside.walking.helped;
          no_back = inside.walking.no_back;
        };
        time_is = inside.time_is;
        logs = logs2;
      } in
      next_is c k n lt made t b kind task of (seat_with n log freed from time call sweep own left) refl log2 freed from time call sweep own left refl
      no_scan before
      (if_so (GoesSo c n w log2 freed from time call sweep) (ltb word 5) (Goes (Writes at words (word + 1))) (Ends Silent)
      (λ e. by_step (Writes at words (word + 1)) refl (record {
        inside = inside2;
        held = writes.held;
        live = omega (arith, high, long2);
        in_range = (let less = ltb_lt word 5 e in omega (arith, less));
        small = writes.small;
      }))
      (λ e. by_end Silent refl (rests_in c w log2 freed from time inside2)))
