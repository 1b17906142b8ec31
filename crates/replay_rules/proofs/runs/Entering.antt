-- The steps of an entering.
use Rattle.std.proofs.Common.{◌≡◌, ℕ, ◌+◌, ◌<◌, ◌≤◌, ◌==◌, List, [], ◌∷◌, length, Option, Some, None, All, Contains, refl, sym, ap, subst, arith, inl}
use Rattle.std.proofs.Common.{if◌then◌else◌}
use Rattle.std.proofs.lemmas.List.Elements.{Contains-push}
use Rattle.mv_layout.specs.Words.{clock_time_of, clock_slot_of}
use Rattle.mv_core.proofs.Terms.{Config, Checked, Clock, Mark}
use Rattle.mv_core.specs.declared.view.Knowledge.{Knowledge}
use Rattle.mv_core.specs.declared.view.OwnSection.{OwnSection}
use Rattle.mv_core.specs.declared.view.Phase.TheVariants.{Outside, Lowered, Marked}
use Rattle.mv_core.specs.declared.view.Mode.TheVariants.{Open}
use Rattle.mv_core.specs.Views.{low_of}
use Rattle.mv_core.specs.Moves.{Moment, load_low, store_mark, load_time}
use Rattle.replay_rules.specs.declared.plan.Call.{Call}
use Rattle.replay_rules.specs.declared.plan.Call.TheVariants.{Enter, Read, Lock, Write, Commit, Abort, Leave, Tidy}
use Rattle.replay_rules.specs.declared.plan.CallOf.{CallOf}
use Rattle.replay_rules.specs.declared.seats.NotedVersion.{NotedVersion}
use Rattle.replay_rules.specs.declared.seats.Sweep.{Sweep}
use Rattle.replay_rules.specs.declared.seats.Entering.{Entering}
use Rattle.replay_rules.specs.declared.seats.Entering.TheVariants.{LoadLow, StoreMark, LoadTime}
use Rattle.replay_rules.specs.declared.seats.Helping.TheVariants.{LoadNamed}
use Rattle.replay_rules.specs.declared.seats.NextStep.{NextStep}
use Rattle.replay_rules.specs.declared.seats.NextStep.TheVariants.{Enters, Helps}
use Rattle.replay_rules.specs.declared.seats.Then.TheVariants.{Goes}
use Rattle.replay_rules.specs.FitPlans.{IsFitCallOf}
use Rattle.replay_rules.specs.States.{Made, state_of}
use Rattle.replay_rules.specs.Runs.{TapeOf}
use Rattle.replay_rules.specs.Behind.{IsTapeBehind}
use Rattle.replay_rules.proofs.runs.Sections.{seat_with, Logs, EntersAt, EntersFor, BeforeHelp, HelpsFor, later}
use Rattle.replay_rules.proofs.runs.Standing.{StepsSo, GoesSo, by_step}
use Rattle.replay_rules.proofs.runs.Helping.{helped_so}
use Rattle.replay_rules.specs.GoesOn.{helped_in}
use Rattle.replay_rules.proofs.runs.Stepping.{IsOfKind, view_by, next_is}
use Rattle.replay_rules.proofs.runs.Known.{if_so, eqb_ne, facts, number_is, knows, logs_left}

-- a help behind an entering
enters_help : (c : Config) (v : Knowledge) (log : List NotedVersion) (freed from : ℕ) (time : Option ℕ) (sweep : Sweep) (word : ℕ) (call : Call)
    → EntersFor v.grace log freed from sweep call → BeforeHelp c v log freed from time word → HelpsFor c v log freed from time (later sweep word) word call
enters_help c v log freed from time sweep word Enter for h = h
enters_help c v log freed from time sweep word Tidy for h = inl (h, for)
enters_help c v log freed from time sweep word (Read o) for h = absurd for
enters_help c v log freed from time sweep word (Lock o) for h = absurd for
enters_help c v log freed from time sweep word (Write o words) for h = absurd for
enters_help c v log freed from time sweep word Commit for h = absurd for
enters_help c v log freed from time sweep word Abort for h = absurd for
enters_help c v log freed from time sweep word Leave for h = absurd for

module _ (c : Config) (k : Checked c) (n : ℕ) (lt : n < c.seats) (made : List Made) (t : TapeOf) (b : IsTapeBehind c t made)
    (log : List NotedVersion) (freed from : ℕ) (call : Call) (sweep : Sweep) (own : Option NextStep) (left : List CallOf)
    (no_scan : ((state_of c made).seats n).scan ≡ None) (before : All (IsFitCallOf c) left)
    (for : EntersFor ((state_of c made).seats n).grace log freed from sweep call) (none : from ≡ length log)
    (logs : Logs c ((state_of c made).seats n) log freed from) where
  abbrev s : Moment
  s = state_of c made

  abbrev v : Knowledge
  v = s.seats n

  abbrev Made_so : Entering → Type 0
  Made_so step = StepsSo c n made t (Enters step) (seat_with n log freed from None call sweep own left)

  low_made : v.phase ≡ Outside → Made_so LoadLow
  low_made phase =
      let of : IsOfKind c s n load_low (Enters LoadLow) =
      record { is = refl; may = record { outside = phase; no_scan = no_scan }; range = tt; place = refl; writes = λ f. refl; fits = λ f _. tt } in
      let w = view_by c s n load_low in
      next_is c k n lt made t b load_low (Enters LoadLow) of (seat_with n log freed from None call sweep own left) refl log freed from None call sweep
      own left refl
      no_scan before
      (by_step (Enters (StoreMark (1 + clock_time_of (s.memory Clock)))) refl
      ((clock_time_of (s.memory Clock), refl, refl), for, refl, none, logs_left c v w log freed from refl refl refl refl _ refl (refl, refl) logs))

  mark_made : (mark low : ℕ) → v.phase ≡ Lowered low → mark ≡ 1 + low → Made_so (StoreMark mark)
  mark_made mark low phase is =
      let bound = (knows c k n made b.each).lowered low phase in
      let of : IsOfKind c s n (store_mark low) (Enters (StoreMark mark)) = record {
        is = (low, refl);
        may = phase;
        range = lt;
        place = ap Mark (number_is c k n made b.each);
        writes = λ f. ap Some (sym is);
        fits = λ f _. omega (arith, is, bound);
      } in
      let w = view_by c s n (store_mark low) in
      next_is c k n lt made t b (store_mark low) (Enters (StoreMark mark)) of (seat_with n log freed from None call sweep own left) refl log freed from
      None call sweep own
      left refl no_scan before
      (by_step (Enters LoadTime) refl
      ((low, refl), for, refl, none, logs_left c v w log freed from refl refl refl refl _ refl (refl, refl) logs))

  time_made : (low : ℕ) → v.phase ≡ Marked low → Made_so LoadTime
  time_made low phase =
      let of : IsOfKind c s n load_time (Enters LoadTime) =
      record { is = refl; may = (low, phase); range = tt; place = refl; writes = λ f. refl; fits = λ f _. tt } in
      let w = view_by c s n load_time in
      let word = s.memory Clock in
      let held = logs_left c v w log freed from refl refl refl refl _ refl (refl, refl) logs in
      let section : OwnSection = record { low = low_of v.phase; word = word; mode = Open } in
      let at = Some (clock_time_of word) in
      let helps : HelpsFor c w log freed from at (later sweep word) word call =
      enters_help c w log freed from at sweep word call for
      (record { section = section; phase = refl; open_is = refl; no_back = refl; word_is = refl; time_is = refl; logs = held }) in
      let f = facts c k n made b.each in
      let bound : clock_time_of word ≤ 35184372088831 = (let long = f.history.long in let top = f.history.in_time in omega (arith, long, top)) in
      next_is c k n lt made t b load_time (Enters LoadTime) of (seat_with n log freed from None call sweep own left) refl log freed from at call
      (later sweep word) own left refl no_scan before
      (if_so (GoesSo c n w log freed from at call (later sweep word)) (clock_slot_of word == 8191)
      (helped_in call c log (record { seat = n; time = at; from = from; freed = freed; call = call; sweep = later sweep word }) word)
      (Goes (Helps (LoadNamed word)))
      (λ nobody. helped_so c n w log freed from at call (later sweep word) word bound helps (Contains-push [] word)
      (subst (λ x. Contains (if x then word ∷ [] else []) word) (sym nobody) (Contains-push [] word)))
      (λ some. by_step (Helps (LoadNamed word)) refl ((Contains-push [] word, eqb_ne (clock_slot_of word) 8191 some), helps)))

  pub entering_made : (step : Entering) → EntersAt v step → Made_so step
  entering_made LoadLow phase = low_made phase
  entering_made (StoreMark mark) at = mark_made mark at.0 at.1 at.2
  entering_made LoadTime at = time_made at.0 at.1
