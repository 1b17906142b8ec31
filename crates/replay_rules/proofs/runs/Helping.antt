-- The steps of a help of a clock word, in an entering or in a commit.
use Rattle.std.proofs.Common.{◌≡◌, ℕ, ◌<◌, ◌≤◌, ◌==◌, leb, List, [], ◌∷◌, ◌++◌, length, true, false, Option, Some, None, All, Contains}
use Rattle.std.proofs.Common.{refl, sym, ap, ◌∙◌, subst, arith, eqb-true, eq-eqb, ne_eqb, inl, inr, if◌then◌else◌}
use Rattle.std.proofs.lemmas.List.Elements.{Contains-append_left, Contains-append_right, Contains-push}
use Rattle.mv_layout.specs.Words.{clock_time_of, clock_slot_of}
use Rattle.mv_core.proofs.Terms.{Config, Checked, Clock}
use Rattle.mv_core.specs.declared.view.Knowledge.{Knowledge}
use Rattle.mv_core.specs.declared.view.OwnSection.{OwnSection}
use Rattle.mv_core.specs.declared.view.Phase.TheVariants.{Outside, Inside}
use Rattle.mv_core.specs.declared.view.Mode.{Mode}
use Rattle.mv_core.specs.declared.view.Mode.TheVariants.{Open}
use Rattle.mv_core.specs.declared.view.LoadedClocks.{LoadedClocks}
use Rattle.mv_core.specs.declared.view.FoundStamp.{FoundStamp}
use Rattle.mv_core.specs.EnterSteps.{MayLoadCheck, helped_too, stamped_mode, stamped_phase, stamp_swapped, if_none, checked_helped, checked_found}
use Rattle.mv_core.specs.Moves.{Moment, load_named, load_check, stamp, IsStorable}
use Rattle.commit_abort.specs.declared.committing.Ended.TheVariants as ends
use Rattle.replay_rules.specs.declared.plan.Call.{Call}
use Rattle.replay_rules.specs.declared.plan.Call.TheVariants.{Enter, Read, Lock, Write, Commit, Abort, Leave, Tidy}
use Rattle.replay_rules.specs.declared.plan.CallOf.{CallOf}
use Rattle.replay_rules.specs.declared.seats.NotedVersion.{NotedVersion}
use Rattle.replay_rules.specs.declared.seats.Sweep.{Sweep}
use Rattle.replay_rules.specs.declared.seats.State.{State}
use Rattle.replay_rules.specs.declared.seats.Helping.{Helping}
use Rattle.replay_rules.specs.declared.seats.Helping.TheVariants.{LoadNamed, LoadCheck, SwapStamp}
use Rattle.replay_rules.specs.declared.seats.Ending.TheVariants.{Name}
use Rattle.replay_rules.specs.declared.seats.NextStep.{NextStep}
use Rattle.replay_rules.specs.declared.seats.NextStep.TheVariants.{Helps, EndsSection, Tidies}
use Rattle.replay_rules.specs.declared.seats.CallAnswer.TheVariants.{AtTime, Committed}
use Rattle.replay_rules.specs.declared.seats.Then.TheVariants.{Goes, Ends}
use Rattle.replay_rules.specs.FitPlans.{IsFitCallOf}
use Rattle.replay_rules.specs.Tasks.{commit_clock, next_clock, named_place}
use Rattle.replay_rules.specs.SeatNotes.{version_at}
use Rattle.replay_rules.specs.declared.seats.Sweeping.TheVariants.{LoadGrace, LoadTop, NameRest}
use Rattle.replay_rules.specs.GoesOn.{is_last, is_unset, helped_in}
use Rattle.replay_rules.specs.States.{Made, state_of}
use Rattle.replay_rules.specs.Runs.{TapeOf}
use Rattle.replay_rules.specs.Behind.{IsTapeBehind}
use Rattle.replay_rules.proofs.runs.Sections.{seat_with, Logs, InSection, RestsAt, HelpsAt, HelpsFor, helped_word}
use Rattle.replay_rules.proofs.runs.Standing.{StepsSo, GoesSo}
use Rattle.replay_rules.proofs.runs.Sections.{BeforeHelp, BacksUp, later}
use Rattle.replay_rules.proofs.runs.Standing.{by_step, by_end}
use Rattle.replay_rules.proofs.runs.Stepping.{IsOfKind, view_by, next_is}
use Rattle.replay_rules.proofs.runs.Known.{if_so, eqb_ne, facts, logs_left}

-- a seat that is in a section and in no call
pub rests_in : (c : Config) (v : Knowledge) (log : List NotedVersion) (freed from : ℕ) (time : Option ℕ) → InSection c v log freed from time → RestsAt c v log
    freed from time
rests_in c v log freed from time i =
    subst (RestsAt c v log freed from) (sym i.time_is) (record { section = i.section; walking = i.walking; time_is = refl; logs = i.logs })

-- a commit whose word is helped tries its exchange of CLOCK, or no time is left
pub named_so : (c : Config) (n : ℕ) (v : Knowledge) (log : List NotedVersion) (freed from : ℕ) (time : Option ℕ) (sweep : Sweep) (word : ℕ)
    → clock_time_of word ≤
    35184372088831
    → InSection c v log freed from time → from < length log → Contains v.clocks.loaded word → Contains v.clocks.helped word
    → GoesSo c n v log freed from time Commit sweep
    (if is_last (clock_time_of word) then Ends (Committed ends.End) else Goes (EndsSection (Name word (commit_clock c word n from))))
named_so c n v log freed from time sweep word bound inside some loaded helped =
    if_so (GoesSo c n v log freed from time Commit sweep) (is_last (clock_time_of word)) (Ends (Committed ends.End))
    (Goes (EndsSection (Name word (commit_clock c word n from))))
    (λ last. by_end (Committed ends.End) refl (rests_in c v log freed from time inside))
    (λ more. by_step (EndsSection (Name word (commit_clock c word n from))) refl
    (inside, some, loaded, helped, (let ne = eqb_ne (clock_time_of word) 35184372088831 more in omega (arith, ne, bound)), refl))

-- a help is done
pub helped_so : (c : Config) (n : ℕ) (v : Knowledge) (log : List NotedVersion) (freed from : ℕ) (time : Option ℕ) (call : Call) (sweep : Sweep) (word : ℕ)
    → clock_time_of word ≤ 35184372088831 → HelpsFor c v log freed from time sweep word call → Contains v.clocks.loaded word → Contains v.clocks.helped word
    → GoesSo c n v log freed from time call sweep
    (helped_in call c log (record { seat = n; time = time; from = from; freed = freed; call = call; sweep = sweep }) word)
helped_so c n v log freed from time Enter sweep word bound h loaded helped =
    by_end (AtTime (clock_time_of word)) refl
    (rests_in c v log freed from time (record {
      section = h.section;
      walking = record {
        phase = h.phase;
        open_is = h.open_is;
        helped = subst (Contains v.clocks.helped) (sym h.word_is) helped;
        no_back = h.no_back;
      };
      time_is = h.time_is;
      logs = h.logs;
    }))
helped_so c n v log freed from time Commit sweep word bound h loaded helped = named_so c n v log freed from time sweep word bound h.0 h.1 loaded helped
helped_so c n v log freed from time (Read o) sweep word bound h loaded helped = absurd h
helped_so c n v log freed from time (Lock o) sweep word bound h loaded helped = absurd h
helped_so c n v log freed from time (Write o words) sweep word bound h loaded helped = absurd h
helped_so c n v log freed from time Abort sweep word bound h loaded helped = absurd h
helped_so c n v log freed from time Leave sweep word bound h loaded helped = absurd h
helped_so c n v log freed from time Tidy sweep word bound (inl h) loaded helped =
    let P = λ (x : Option ℕ). GoesSo c n v log freed from x Tidy sweep
    (helped_in Tidy c log (record { seat = n; time = x; from = from; freed = freed; call = Tidy; sweep = sweep }) word) in
    subst P (sym h.0.time_is)
    (by_step (Tidies (LoadTop sweep.at (version_at log sweep.at).object)) refl (
      (
        record {
          section = h.0.section;
          walking = record {
            phase = h.0.phase;
            open_is = h.0.open_is;
            helped = subst (Contains v.clocks.helped) (sym h.0.word_is) helped;
            no_back = h.0.no_back;
          };
          time_is = refl;
          logs = h.0.logs;
        },
        h.1,
        refl,
        refl,
      ),
      refl,
    ))
helped_so c n v log freed from time Tidy sweep word bound (inr h) loaded helped =
    let P = λ (x : Option ℕ). GoesSo c n v log freed from x Tidy sweep
    (helped_in Tidy c log (record { seat = n; time = x; from = from; freed = freed; call = Tidy; sweep = sweep }) word) in
    subst P (sym h.1)
    (if_so (GoesSo c n v log freed from None Tidy sweep) (is_last (clock_time_of word)) (Goes (Tidies (LoadGrace true)))
    (Goes (Tidies (NameRest word (next_clock word n 8191))))
    (λ last. by_step (Tidies (LoadGrace true)) refl ((h.0, refl), refl))
    (λ more. by_step (Tidies (NameRest word (next_clock word n 8191))) refl
    ((h.0, refl, loaded, helped, (let ne = eqb_ne (clock_time_of word) 35184372088831 more in omega (arith, ne, bound)), refl), refl)))

-- a tidy keeps in mind the greatest time that it found in CLOCK
helps_later : (c : Config) (v : Knowledge) (log : List NotedVersion) (freed from : ℕ) (time : Option ℕ) (sweep : Sweep) (word found : ℕ) (call : Call)
    → HelpsFor c v log freed from time sweep word call → HelpsFor c v log freed from time (later sweep found) word call
helps_later c v log freed from time sweep word found Enter h = h
helps_later c v log freed from time sweep word found Commit h = h
helps_later c v log freed from time sweep word found Tidy (inl h) = inl h
helps_later c v log freed from time sweep word found Tidy (inr h) = inr h
helps_later c v log freed from time sweep word found (Read o) h = absurd h
helps_later c v log freed from time sweep word found (Lock o) h = absurd h
helps_later c v log freed from time sweep word found (Write o words) h = absurd h
helps_later c v log freed from time sweep word found Abort h = absurd h
helps_later c v log freed from time sweep word found Leave h = absurd h

-- a help is of an open section, or outside
helps_check : (c : Config) (v : Knowledge) (log : List NotedVersion) (freed from : ℕ) (time : Option ℕ) (sweep : Sweep) (word : ℕ) (call : Call)
    → HelpsFor c v log freed from time sweep word call → MayLoadCheck v.phase
helps_check c v log freed from time sweep word Enter h = subst MayLoadCheck (sym h.phase) tt
helps_check c v log freed from time sweep word Commit h = subst MayLoadCheck (sym h.0.walking.phase) tt
helps_check c v log freed from time sweep word Tidy (inl h) = subst MayLoadCheck (sym h.0.phase) tt
helps_check c v log freed from time sweep word Tidy (inr h) = subst MayLoadCheck (sym h.0.0) tt
helps_check c v log freed from time sweep word (Read o) h = absurd h
helps_check c v log freed from time sweep word (Lock o) h = absurd h
helps_check c v log freed from time sweep word (Write o words) h = absurd h
helps_check c v log freed from time sweep word Abort h = absurd h
helps_check c v log freed from time sweep word Leave h = absurd h

-- a section in which more clock words are helped
pub section_kept : (c : Config) (v w : Knowledge) (log : List NotedVersion) (freed from : ℕ) (time : Option ℕ)
    → ((i : OwnSection) → v.phase ≡ Inside i → i.mode ≡ Open → w.phase ≡ Inside i)
    → w.back ≡ v.back → ((x : ℕ) → Contains v.clocks.helped x → Contains w.clocks.helped x) → (Logs c v log freed from → Logs c w log freed from)
    → InSection c v log freed from time → InSection c w log freed from time
section_kept c v w log freed from time phase back helped logs i = record {
  section = i.section;
  walking = record {
    phase = phase i.section i.walking.phase i.walking.open_is;
    open_is = i.walking.open_is;
    helped = helped i.section.word i.walking.helped;
    no_back = back ∙ i.walking.no_back;
  };
  time_is = i.time_is;
  logs = logs i.logs;
}

module _ (c : Config) (v w : Knowledge) (log : List NotedVersion) (freed from : ℕ) (time : Option ℕ) (sweep : Sweep) (word : ℕ)
    (outside : v.phase ≡ Outside → w.phase ≡ Outside)
    (phase : (i : OwnSection) → v.phase ≡ Inside i → i.mode ≡ Open → w.phase ≡ Inside i)
    (back : w.back ≡ v.back) (grace : w.grace ≡ v.grace) (helped : (x : ℕ) → Contains v.clocks.helped x → Contains w.clocks.helped x)
    (logs : Logs c v log freed from → Logs c w log freed from) where
  before_kept : BeforeHelp c v log freed from time word → BeforeHelp c w log freed from time word
  before_kept h = record {
    section = h.section;
    phase = phase h.section h.phase h.open_is;
    open_is = h.open_is;
    no_back = back ∙ h.no_back;
    word_is = h.word_is;
    time_is = h.time_is;
    logs = logs h.logs;
  }

  helps_kept : (call : Call) → HelpsFor c v log freed from time sweep word call → HelpsFor c w log freed from time sweep word call
  helps_kept Enter h = before_kept h
  helps_kept Commit h = (section_kept c v w log freed from time phase back helped logs h.0, h.1)
  helps_kept Tidy (inl h) = inl (before_kept h.0, subst (λ g. BacksUp g log freed from sweep) (sym grace) h.1)
  helps_kept Tidy (inr h) = inr ((outside h.0.0, h.0.1, logs h.0.2), h.1)
  helps_kept (Read o) h = absurd h
  helps_kept (Lock o) h = absurd h
  helps_kept (Write o words) h = absurd h
  helps_kept Abort h = absurd h
  helps_kept Leave h = absurd h

-- outside the phase stays
swapped_outside : (c : Config) (v : Knowledge) (word unset : ℕ) → v.phase ≡ Outside → stamped_phase c v.number v.phase word unset ≡ Outside
swapped_outside c v word unset phase = ap (λ p. stamped_phase c v.number p word unset) phase

-- the phase of an open section stays behind the exchange of a stamp
pub swapped_phase : (c : Config) (v : Knowledge) (word unset : ℕ) (i : OwnSection) → v.phase ≡ Inside i → i.mode ≡ Open
    → stamped_phase c v.number v.phase word unset ≡ Inside i
swapped_phase c v word unset i phase open_is =
    ap (λ p. stamped_phase c v.number p word unset) phase
    ∙ ap (λ (m : Mode). Inside (record i { mode = stamped_mode c v.number m word unset })) open_is
    ∙ ap (λ (m : Mode). Inside (record i { mode = m })) (sym open_is)

module _ (c : Config) (k : Checked c) (n : ℕ) (lt : n < c.seats) (made : List Made) (t : TapeOf) (b : IsTapeBehind c t made)
    (log : List NotedVersion) (freed from : ℕ) (time : Option ℕ) (call : Call) (sweep : Sweep) (own : Option NextStep) (left : List CallOf)
    (no_scan : ((state_of c made).seats n).scan ≡ None) (before : All (IsFitCallOf c) left) where
  abbrev s : Moment
  s = state_of c made

  abbrev v : Knowledge
  v = s.seats n

  abbrev Made_so : Helping → Type 0
  Made_so step = StepsSo c n made t (Helps step) (seat_with n log freed from time call sweep own left)

  -- a clock word that was loaded is of a time that isn't above the last one
  bounded : (word : ℕ) → Contains v.clocks.loaded word → clock_time_of word ≤ 35184372088831
  bounded word has =
      let f = facts c k n made b.each in
      let was = (f.loaded_words.loaded n word has).past in
      let long = f.history.long in
      let top = f.history.in_time in
      omega (arith, was, long, top)

  named_made : (word : ℕ) → Contains v.clocks.loaded word → (clock_slot_of word ≡ 8191 → ⊥) → HelpsFor c v log freed from time sweep word call → Made_so
      (LoadNamed word)
  named_made word loaded some helps =
      let f = facts c k n made b.each in
      let of : IsOfKind c s n (load_named word) (Helps (LoadNamed word)) = record {
        is = refl;
        may = record { loaded = loaded; names = some };
        range = (f.loaded_words.loaded n word loaded).is_word some;
        place = refl;
        writes = λ x. refl;
        fits = λ x _. tt;
      } in
      let w = view_by c s n (load_named word) in
      let found = s.memory (named_place word) in
      let kept : LoadedClocks = record v.clocks { found = Some (record { word = word; unset = found; checked = false }) } in
      let helped : (x : ℕ) → Contains v.clocks.helped x → Contains w.clocks.helped x =
      λ x has. if_so (λ (d : LoadedClocks). Contains d.helped x) (leb 9223372036854775808 found) kept (helped_too v.clocks word) (λ e. has)
      (λ e. Contains-append_left v.clocks.helped (word ∷ []) x has) in
      let still : HelpsFor c w log freed from time sweep word call =
      helps_kept c v w log freed from time sweep word (λ e. e) (λ i e o. e) refl refl helped
      (logs_left c v w log freed from refl refl refl refl _ refl (refl, refl)) call helps in
      next_is c k n lt made t b (load_named word) (Helps (LoadNamed word)) of (seat_with n log freed from time call sweep own left) refl log freed from
      time call sweep own
      left refl no_scan before
      (if_so (GoesSo c n w log freed from time call sweep) (is_unset found) (Goes (Helps (LoadCheck word found)))
      (helped_in call c log (record { seat = n; time = time; from = from; freed = freed; call = call; sweep = sweep }) word)
      (λ unset. by_step (Helps (LoadCheck word found)) refl (
        (
          subst (λ x. Contains (if x then kept else helped_too v.clocks word).loaded word) (sym unset) loaded,
          ap (λ x. (if x then kept else helped_too v.clocks word).found) unset,
        ),
        still,
      ))
      (λ set. helped_so c n w log freed from time call sweep word (bounded word loaded) still
      (subst (λ x. Contains (if x then kept else helped_too v.clocks word).loaded word) (sym set) loaded)
      (subst (λ x. Contains (if x then kept else helped_too v.clocks word).helped word) (sym set) (Contains-push v.clocks.helped word))))

  check_made : (word unset : ℕ) → Contains v.clocks.loaded word → v.clocks.found ≡ Some (record { word = word; unset = unset; checked = false })
      → HelpsFor c v log freed from time sweep word call → Made_so (LoadCheck word unset)
  check_made word unset loaded kept helps =
      let of : IsOfKind c s n load_check (Helps (LoadCheck word unset)) = record {
        is = refl;
        may = helps_check c v log freed from time sweep word call helps;
        range = tt;
        place = refl;
        writes = λ x. refl;
        fits = λ x _. tt;
      } in
      let w = view_by c s n load_check in
      let found = s.memory Clock in
      let note : FoundStamp = record { word = word; unset = unset; checked = false } in
      let still : HelpsFor c w log freed from time (later sweep found) word call =
      helps_later c w log freed from time sweep word found call (helps_kept c v w log freed from time sweep word (λ e. e) (λ i e o. e) refl refl
      (λ x has. Contains-append_left v.clocks.helped (if_none found ++ checked_helped v.clocks.found found) x has)
      (logs_left c v w log freed from refl refl refl refl _ refl (refl, refl)) call helps) in
      let loaded_still : Contains w.clocks.loaded word = Contains-append_left v.clocks.loaded (found ∷ []) word loaded in
      next_is c k n lt made t b load_check (Helps (LoadCheck word unset)) of (seat_with n log freed from time call sweep own left) refl log freed from
      time call (later sweep found) own
      left refl no_scan before
      (if_so (GoesSo c n w log freed from time call (later sweep found)) (found == word) (Goes (Helps (SwapStamp word unset)))
      (helped_in call c log (record { seat = n; time = time; from = from; freed = freed; call = call; sweep = later sweep found }) word)
      (λ same. by_step (Helps (SwapStamp word unset)) refl (
        (
          loaded_still,
          ap (λ x. checked_found x found) kept
              ∙ ap (λ x. if x then Some (record note { checked = true }) else None) (eq-eqb word found (sym (eqb-true found word same))),
        ),
        still,
      ))
      (λ other. helped_so c n w log freed from time call (later sweep found) word (bounded word loaded) still loaded_still
      (Contains-append_right v.clocks.helped (if_none found ++ checked_helped v.clocks.found found) word
      (Contains-append_right (if_none found) (checked_helped v.clocks.found found) word
      (subst (λ x. Contains (checked_helped x found) word) (sym kept)
      (subst (λ x. Contains (if x then [] else word ∷ []) word) (sym (ne_eqb word found (λ e. eqb_ne found word other (sym e)))) (Contains-push [] word)))))))

  swap_made : (word unset : ℕ) → Contains v.clocks.loaded word → v.clocks.found ≡ Some (record { word = word; unset = unset; checked = true })
      → HelpsFor c v log freed from time sweep word call → Made_so (SwapStamp word unset)
  swap_made word unset loaded kept helps =
      let f = facts c k n made b.each in
      let old = f.loaded_words.found n (record { word = word; unset = unset; checked = true }) kept in
      let bound = bounded word loaded in
      let of : IsOfKind c s n (stamp word unset) (Helps (SwapStamp word unset)) = record {
        is = refl;
        may = inl kept;
        range = old.0.is_word old.1;
        place = refl;
        writes = λ x. refl;
        fits = λ x _. if_so IsStorable (x == unset) (Some (clock_time_of word)) None (λ e. omega (arith, bound)) (λ e. tt);
      } in
      let found = s.memory (named_place word) in
      let state : State = record { seat = n; time = time; from = from; freed = freed; call = call; sweep = sweep } in
      let so : (x : ℕ) → (stamp_swapped c v word unset x).scan ≡ None × GoesSo c n (stamp_swapped c v word unset x) log freed from time call sweep
      (helped_in call c log state word) =
      λ x.
      let w = stamp_swapped c v word unset x in (
        no_scan,
        helped_so c n w log freed from time call sweep word bound
            (helps_kept c v w log freed from time sweep word (swapped_outside c v word unset) (swapped_phase c v word unset) refl refl
            (λ y has. Contains-append_left v.clocks.helped (word ∷ []) y has)
            (logs_left c v w log freed from refl refl refl refl _ refl (refl, refl)) call helps)
            loaded (Contains-push v.clocks.helped word),
      ) in
      let both = if_so (λ (u : Knowledge). (u.scan ≡ None) × GoesSo c n u log freed from time call sweep (helped_in call c log state word)) (found == unset)
      (stamp_swapped c v word unset unset) (stamp_swapped c v word unset found) (λ e. so unset) (λ e. so found) in
      next_is c k n lt made t b (stamp word unset) (Helps (SwapStamp word unset)) of (seat_with n log freed from time call sweep own left) refl log
      freed from time call
      sweep own left refl both.0 before both.1

  pub helping_made : (step : Helping) → HelpsAt v step → HelpsFor c v log freed from time sweep (helped_word step) call → Made_so step
  helping_made (LoadNamed word) at helps = named_made word at.0 at.1 helps
  helping_made (LoadCheck word unset) at helps = check_made word unset at.0 at.1 helps
  helping_made (SwapStamp word unset) at helps = swap_made word unset at.0 at.1 helps
