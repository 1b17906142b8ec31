-- The steps of a write-back, in its section.
use Rattle.std.proofs.Common.{◌≡◌, ◌≢◌, ◌⊎◌, ℕ, ◌+◌, ◌<◌, ◌≤◌, ◌^◌, ◌==◌, ltb, List, length, Bool, true, false, Option, Some, None, All, refl, sym, ap, ◌∙◌}
use Rattle.std.proofs.Common.{subst, arith, inl, inr, eqb-true, if◌then◌else◌, slice_index, replicate}
use Rattle.std.proofs.lemmas.List.{length-replicate}
use Rattle.mv_layout.specs.Words.{link_of}
use Rattle.mv_core.proofs.Terms.{Config, Checked, Head, Data}
use Rattle.mv_core.specs.declared.ring.CommitNote.{CommitNote}
use Rattle.mv_core.specs.declared.ring.Slot.TheVariants.{Live}
use Rattle.mv_core.specs.declared.ring.WriteSetStatus.TheVariants.{Committed}
use Rattle.mv_core.specs.declared.view.Knowledge.{Knowledge}
use Rattle.mv_core.specs.declared.view.Stand.{Stand}
use Rattle.mv_core.specs.declared.view.WalkStage.TheVariants as walk
use Rattle.mv_core.specs.declared.view.Passed.TheVariants.{Nothing}
use Rattle.mv_core.specs.Rings.{slot_at, index_of}
use Rattle.mv_core.specs.EnterSteps.{stored_if}
use Rattle.mv_core.specs.SetFacts.{HoldsVersion, HoldsSlot}
use Rattle.mv_core.specs.ReclaimSteps.{GoesToWord, head_cut, cut_lost}
use Rattle.mv_core.specs.Moves.{Moment, load_head, store_master, cut_head, IsStorable}
use Rattle.mv_core.proofs.logs.Links.{link_some, position_small}
use Rattle.mv_core.proofs.kinds.walking.WalkOn.{at_some}
use Rattle.seat_log.specs.Stands.{version_of}
use Rattle.seat_log.proofs.CutLogs.{stands_cut_lost}
use Rattle.replay_rules.specs.declared.plan.Call.TheVariants.{Tidy}
use Rattle.replay_rules.specs.declared.plan.CallOf.{CallOf}
use Rattle.replay_rules.specs.declared.seats.NotedVersion.{NotedVersion}
use Rattle.replay_rules.specs.declared.seats.Sweep.{Sweep}
use Rattle.replay_rules.specs.declared.seats.State.{State}
use Rattle.replay_rules.specs.declared.seats.WriteBackEnd.{WriteBackEnd}
use Rattle.replay_rules.specs.declared.seats.WriteBackEnd.TheVariants.{WasGone, WasAbove}
use Rattle.replay_rules.specs.declared.seats.Sweeping.{Sweeping}
use Rattle.replay_rules.specs.declared.seats.Sweeping.TheVariants.{LoadTop, StoreMaster, CutHead, LoadCutDeath, LeaveBack}
use Rattle.replay_rules.specs.declared.seats.NextStep.{NextStep}
use Rattle.replay_rules.specs.declared.seats.NextStep.TheVariants.{Tidies}
use Rattle.replay_rules.specs.declared.seats.Then.{Then}
use Rattle.replay_rules.specs.declared.seats.Then.TheVariants.{Goes}
use Rattle.replay_rules.specs.FitPlans.{IsFitCallOf}
use Rattle.replay_rules.specs.SeatNotes.{version_at}
use Rattle.replay_rules.specs.Tasks.{link_to}
use Rattle.replay_rules.specs.Learns.{other_seat}
use Rattle.replay_rules.specs.Sweeps.{back_by}
use Rattle.replay_rules.specs.States.{Made, state_of}
use Rattle.replay_rules.specs.Runs.{SeatOf, TapeOf}
use Rattle.replay_rules.specs.Behind.{IsTapeBehind}
use Rattle.replay_rules.proofs.runs.Notes.{note_of}
use Rattle.replay_rules.proofs.runs.Sections.{seat_with, Logs, InSection, IsBack, BacksUp}
use Rattle.replay_rules.proofs.runs.Standing.{IsBacking, IsUncut}
use Rattle.replay_rules.proofs.runs.Standing.{StepsSo, GoesSo, by_step}
use Rattle.replay_rules.proofs.runs.Stepping.{IsOfKind, view_by, next_is}
use Rattle.replay_rules.proofs.runs.Known.{if_so, ltb_lt, ltb_ge, facts, number_is, knows, starts, word_small, logs_left}
use Rattle.replay_rules.proofs.runs.Aborting.{holds_nothing}
use Rattle.replay_rules.proofs.runs.Building.{link_is}
use Rattle.replay_rules.proofs.runs.Rounds.{untimed}

module _ (c : Config) (k : Checked c) (n : ℕ) (lt : n < c.seats) (made : List Made) (t : TapeOf) (b : IsTapeBehind c t made)
    (log : List NotedVersion) (freed from : ℕ) (time : Option ℕ) (sweep : Sweep) (own : Option NextStep) (left : List CallOf)
    (no_scan : ((state_of c made).seats n).scan ≡ None) (before : All (IsFitCallOf c) left) where
  abbrev s : Moment
  s = state_of c made

  abbrev v : Knowledge
  v = s.seats n

  few_seats : n < 64
  few_seats = let seats = k.seats.1 in omega (arith, lt, seats)

  abbrev seat_so : SeatOf
  seat_so = seat_with n log freed from time Tidy sweep own left

  abbrev Made_so : Sweeping → Type 0
  Made_so step = StepsSo c n made t (Tidies step) seat_so

  -- what a write-back leaves that wasn't won
  uncut_so : (w : Knowledge) (at link : ℕ) → IsUncut c w log freed from sweep at
      → GoesSo c n w log freed from time Tidy sweep
      (Goes (Tidies (LeaveBack at (back_by (record { seat = n; time = time; from = from; freed = freed; call = Tidy; sweep = sweep }) link))))
  uncut_so w at link uncut =
      if_so (λ (x : WriteBackEnd). GoesSo c n w log freed from time Tidy sweep (Goes (Tidies (LeaveBack at x)))) (link == 0) WasGone
      (WasAbove (other_seat n link))
      (λ gone. by_step (Tidies (LeaveBack at WasGone)) refl (uncut, refl))
      (λ above. by_step (Tidies (LeaveBack at (WasAbove (other_seat n link)))) refl (uncut, refl))

  -- the version that is written back, in its slot
  module _ (logs : Logs c v log freed from) (none : from ≡ length log) (at : ℕ) (back : IsBack v.grace log freed at) where
    abbrev noted_as : (note : CommitNote) × (slot_at v.ring (index_of c at) ≡ Live (version_of (note_of at (version_at log at))) (Committed note))
        × (note.time ≡ (version_at log at).time) × (note.dead ≡ None) × (note.cut ≡ false)
    noted_as = untimed c v log freed from logs none at back.unfreed back.live back.no_death

    at_low : at < 2 ^ 57
    at_low =
        let f = facts c k n made b.each in
        position_small c s.history (λ (t : ℕ). (s.seats t).ring) f.checked f.history.in_time f.positions n (index_of c at)
        (version_of (note_of at (version_at log at))) (Committed noted_as.0) noted_as.1

    in_domain : (version_at log at).object < c.objects
    in_domain =
        let known = (knows c k n made b.each).commits (index_of c at) (version_of (note_of at (version_at log at))) noted_as.0 noted_as.1 in
        let range = known.in_range in
        let sized : length v.start ≡ c.objects = ap length (starts c k n made b.each) ∙ length-replicate c.objects (replicate {A = ℕ} 6 0) in
        omega (arith, range, sized)

    own_link : link_to n at ≡ link_of n at
    own_link = link_is n at few_seats at_low

    view_link : link_of v.number at ≡ link_to n at
    view_link = ap (λ p. link_of p at) (number_is c k n made b.each) ∙ sym own_link

    -- its words are of 64 bits
    word_low : (word : ℕ) → word < 6 → slice_index (version_at log at).words word < 2 ^ 64
    word_low word less =
        let f = facts c k n made b.each in
        let holds : HoldsVersion _ _ _ (version_of (note_of at (version_at log at))) = subst (HoldsSlot _ _ _) noted_as.1 (f.slot_words n (index_of c at)) in
        let is = holds.words word less in
        let small = word_small c k n made b.each (Data n (index_of c at) word) in
        omega (arith, is, small)

  -- HEAD is looked at
  top_made : (at o : ℕ) → InSection c v log freed from time → BacksUp v.grace log freed from sweep → at ≡ sweep.at → o ≡ (version_at log at).object
      → Made_so (LoadTop at o)
  top_made at o inside backs at_is o_is =
      let back : IsBack v.grace log freed at = subst (IsBack v.grace log freed) (sym at_is) backs.0 in
      let i = inside.section in
      let kind = load_head o i in
      let task = Tidies (LoadTop at o) in
      let range = in_domain inside.logs backs.2 at back in
      let of : IsOfKind c s n kind task =
      record {
        is = (i, refl);
        may = inside.walking;
        range = subst (λ x. x < c.objects) (sym o_is) range;
        place = refl;
        writes = λ x. refl;
        fits = λ x _. tt;
      } in
      let w = view_by c s n kind in
      let found = s.memory (Head o) in
      let logs2 = logs_left c v w log freed from refl refl refl refl _ refl (refl, refl) inside.logs in
      let state : State = record { seat = n; time = time; from = from; freed = freed; call = Tidy; sweep = sweep } in
      next_is c k n lt made t b kind task of seat_so refl log freed from time Tidy sweep own left refl no_scan before
      (if_so (GoesSo c n w log freed from time Tidy sweep) (found == link_to n at) (Goes (Tidies (StoreMaster at o (version_at log at).words 0)))
      (Goes (Tidies (LeaveBack at (back_by state found))))
      (λ e.
      let same : found ≡ link_of n at = eqb-true found (link_to n at) e ∙ own_link inside.logs backs.2 at back in
      let some : found ≢ 0 = λ z. link_some n at (sym same ∙ z) in
      by_step (Tidies (StoreMaster at o (version_at log at).words 0)) refl (
        (
          record {
            section = i;
            phase = inside.walking.phase;
            open_is = inside.walking.open_is;
            helped = inside.walking.helped;
            time_is = inside.time_is;
            logs = logs2;
            nothing = backs.2;
            back = back;
            swept = backs.1;
            object_is = o_is;
            goes = inl (
              refl,
              inside.walking.no_back,
              (
                record { object = o; link = found; first = None; stamp = None; passed = Nothing; late = false },
                sym (at_some o found Nothing false some),
                refl,
                same,
              ),
            );
          },
          refl,
          omega arith,
        ),
        refl,
      ))
      (λ e. uncut_so w at found (record {
        section = i;
        phase = inside.walking.phase;
        open_is = inside.walking.open_is;
        logs = logs2;
        nothing = backs.2;
        back = back;
        swept = backs.1;
      })))

  -- a word is stored into the master
  store_made : (at o word : ℕ) (words : List ℕ) → IsBacking c n v log freed from time sweep at o word → words ≡ (version_at log at).words → word < 6
      → Made_so (StoreMaster at o words word)
  store_made at o word words f words_are less =
      let noted = noted_as f.logs f.nothing at f.back in
      let number = number_is c k n made b.each in
      let x = version_of (note_of at (version_at log at)) in
      let value = slice_index words word in
      let value_is : value ≡ slice_index (version_at log at).words word = ap (λ l. slice_index l word) words_are in
      let kind = store_master o word value at x noted.0 f.section in
      let task = Tidies (StoreMaster at o words word) in
      let known = f.back.known in
      let time_same = noted.2 in
      let small = word_low f.logs f.nothing at f.back word less in
      let goes : GoesToWord v o word at x noted.0 = begins noted.0 f.goes noted.4 (omega (arith, known, time_same)) number in
      let of : IsOfKind c s n kind task = record {
        is = (x, noted.0, f.section, refl);
        may = record {
          phase = f.phase;
          open_is = f.open_is;
          past_help = f.helped;
          nothing = holds_nothing c v log freed from f.logs f.nothing;
          own = noted.1;
          position_is = refl;
          object_is = sym f.object_is;
          goes = goes;
          in_range = less;
          value_is = value_is;
        };
        range = (subst (λ y. y < c.objects) (sym f.object_is) (in_domain f.logs f.nothing at f.back), less);
        place = refl;
        writes = λ y. refl;
        fits = λ y _. omega (arith, value_is, small);
      } in
      let w = view_by c s n kind in
      let logs2 = logs_left c v w log freed from refl refl refl refl _ refl (refl, refl) f.logs in
      let more : (j : ℕ) → j ≡ word + 1 → IsBacking c n w log freed from time sweep at o j = λ j j_is. record {
        section = f.section;
        phase = f.phase;
        open_is = f.open_is;
        helped = f.helped;
        time_is = f.time_is;
        logs = logs2;
        nothing = f.nothing;
        back = f.back;
        swept = f.swept;
        object_is = f.object_is;
        goes = inr (omega (arith, j_is), ap (λ (i : ℕ). Some (record { object = o; position = at; stored = i; tried = false })) (sym j_is));
      } in
      next_is c k n lt made t b kind task of seat_so refl log freed from time Tidy sweep own left refl no_scan before
      (if_so (GoesSo c n w log freed from time Tidy sweep) (ltb word 5) (Goes (Tidies (StoreMaster at o words (word + 1)))) (Goes (Tidies (CutHead at o)))
      (λ e. by_step (Tidies (StoreMaster at o words (word + 1))) refl
      ((more (word + 1) refl, words_are, (let lower = ltb_lt word 5 e in omega (arith, lower))), refl))
      (λ e. by_step (Tidies (CutHead at o)) refl (more 6 (let ge = ltb_ge word 5 e in omega (arith, ge, less)), refl)))
    where
      begins : (note : CommitNote)
          → ((word ≡ 0) × (v.back ≡ None)
          × ((stand : Stand) × (v.walk ≡ walk.At stand) × (stand.object ≡ o) × (stand.link ≡ link_of n at)))
          ⊎ ((0 < word) × (v.back ≡ Some (record { object = o; position = at; stored = word; tried = false })))
          → note.cut ≡ false → note.time ≤ v.grace → v.number ≡ n → GoesToWord v o word at (version_of (note_of at (version_at log at))) note
      begins note (inl a) uncut old number = inl (a.0, a.1, (a.2.0, a.2.1, a.2.2, a.2.3 ∙ ap (λ p. link_of p at) (sym number)), uncut, old)
      begins note (inr a) uncut old number = inr a

  -- HEAD is exchanged for 0
  cut_made : (at o : ℕ) → IsBacking c n v log freed from time sweep at o 6 → Made_so (CutHead at o)
  cut_made at o f =
      let noted = noted_as f.logs f.nothing at f.back in
      let x = version_of (note_of at (version_at log at)) in
      let kind = cut_head o at x noted.0 in
      let task = Tidies (CutHead at o) in
      let link = view_link f.logs f.nothing at f.back in
      let of : IsOfKind c s n kind task = record {
        is = (x, noted.0, refl);
        may = record { back = stored f.goes; own = noted.1 };
        range = subst (λ y. y < c.objects) (sym f.object_is) (in_domain f.logs f.nothing at f.back);
        place = refl;
        writes = λ y. ap (λ (l : ℕ). stored_if y l 0) link;
        fits = λ y _. if_so IsStorable (y == link_to n at) (Some 0) None (λ e. omega arith) (λ e. tt);
      } in
      let found = s.memory (Head o) in
      let A = head_cut c v o at x noted.0 in
      let B = cut_lost c v o at found in
      let state : State = record { seat = n; time = time; from = from; freed = freed; call = Tidy; sweep = sweep } in
      let won : GoesSo c n A log freed from time Tidy sweep (Goes (Tidies (LoadCutDeath at))) =
      by_step (Tidies (LoadCutDeath at)) refl (
        record {
          before = v;
          section = f.section;
          phase = f.phase;
          open_is = f.open_is;
          scans = no_scan;
          logs = f.logs;
          nothing = f.nothing;
          back = f.back;
          swept = f.swept;
          note = noted.0;
          lives = noted.1;
          view_is = ap (λ y. head_cut c v y at x noted.0) f.object_is;
        },
        refl,
      ) in
      let lost : GoesSo c n B log freed from time Tidy sweep (Goes (Tidies (LeaveBack at (back_by state found)))) =
      uncut_so B at found (record {
        section = f.section;
        phase = f.phase;
        open_is = f.open_is;
        logs = record { noted = f.logs.noted; stands = stands_cut_lost c v f.logs.noted o at found f.logs.stands; is = f.logs.is };
        nothing = f.nothing;
        back = f.back;
        swept = f.swept;
      }) in
      let So : Knowledge → Then → Type 0 = λ u y. (u.scan ≡ None) × GoesSo c n u log freed from time Tidy sweep y in
      let W : Bool → Type 0 = λ y. So (if y then A else B)
      (if y then Goes (Tidies (LoadCutDeath at)) else Goes (Tidies (LeaveBack at (back_by state found)))) in
      let here : (found == link_of v.number at) ≡ (found == link_to n at) = ap (λ l. found == l) link in
      let both : W (found == link_of v.number at) = each W (found == link_of v.number at) (no_scan, won) (no_scan, lost) in
      next_is c k n lt made t b kind task of seat_so refl log freed from time Tidy sweep own left refl both.0 before
      (subst (λ y. GoesSo c n (if found == link_of v.number at then A else B) log freed from time Tidy sweep
      (if y then Goes (Tidies (LoadCutDeath at)) else Goes (Tidies (LeaveBack at (back_by state found))))) here both.1)
    where
      stored : ((◌≡◌ {A = ℕ} 6 0) × (v.back ≡ None)
          × ((stand : Stand) × (v.walk ≡ walk.At stand) × (stand.object ≡ o) × (stand.link ≡ link_of n at)))
          ⊎ ((0 < 6) × (v.back ≡ Some (record { object = o; position = at; stored = 6; tried = false })))
          → v.back ≡ Some (record { object = o; position = at; stored = 6; tried = false })
      stored (inl a) = let z = a.0 in absurd (omega (arith, z))
      stored (inr a) = a.1

      each : (P : Bool → Type 0) (y : Bool) → P true → P false → P y
      each P true p q = p
      each P false p q = q

  pub top_is : (at o : ℕ) → InSection c v log freed from time → BacksUp v.grace log freed from sweep → at ≡ sweep.at → o ≡ (version_at log at).object
      → Made_so (LoadTop at o)
  top_is = top_made

  pub store_is : (at o word : ℕ) (words : List ℕ) → IsBacking c n v log freed from time sweep at o word → words ≡ (version_at log at).words → word < 6
      → Made_so (StoreMaster at o words word)
  store_is = store_made

  pub cut_is : (at o : ℕ) → IsBacking c n v log freed from time sweep at o 6 → Made_so (CutHead at o)
  cut_is = cut_made
