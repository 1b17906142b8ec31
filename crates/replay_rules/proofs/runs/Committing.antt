-- The steps of a commit.
use Rattle.std.proofs.Common.{◌≡◌, ◌≢◌, ℕ, ◌+◌, ◌<◌, ◌≤◌, ◌^◌, ◌==◌, ◌&&◌, ltb, List, [], ◌∷◌, ◌++◌, length, true, false, Option, Some, None, All, Contains}
use Rattle.std.proofs.Common.{refl, sym, ap, ◌∙◌, subst, arith, inr, eq-eqb, ne_eqb, if◌then◌else◌, mod-lt, drop, ◌-◌}
use Rattle.std.specs.Prelude.{slice_get}
use Rattle.std.proofs.lemmas.List.Elements.{Contains-append_left, Contains-append_right, Contains-push}
use Rattle.mv_layout.proofs.Unpacking.{time_back, seat_back, slot_back}
use Rattle.mv_layout.specs.Words.{clock_of, clock_time_of, clock_seat_of, clock_slot_of, link_position_of, unset_of}
use Rattle.mv_core.proofs.Terms.{dite, ℕ_discrete, Config, Checked, Clock, Mark, Stamp}
use Rattle.mv_core.specs.declared.view.Knowledge.{Knowledge}
use Rattle.mv_core.specs.declared.view.OwnSection.{OwnSection}
use Rattle.mv_core.specs.declared.view.Naming.{Naming}
use Rattle.mv_core.specs.declared.view.Phase.TheVariants.{Inside}
use Rattle.mv_core.specs.declared.view.Mode.TheVariants.{Named}
use Rattle.mv_core.specs.Rings.{index_of, set_first}
use Rattle.mv_core.specs.EnterSteps.{MayLoadCheck, IsOwnNaming, is_own, stamped_phase, stamp_swapped, stored_if, if_none, checked_helped}
use Rattle.mv_core.specs.NameSteps.{MayNameCommit, commit_word, commit_named, commit_lost}
use Rattle.mv_core.specs.Moves.{Moment, clear_mark, load_check, stamp, name_commit, store_super, IsStorable}
use Rattle.mv_core.proofs.kinds.naming.name_commit.NameCommit.{commit_swaps}
use Rattle.mv_history.specs.declared.answers.Rival.{Rival}
use Rattle.reader_marks.specs.Sections.{inside_of, section_in}
use Rattle.seat_log.specs.Notes.{held_from, from_place, committed_noted}
use Rattle.commit_abort.specs.declared.committing.Ended.TheVariants as ends
use Rattle.commit_abort.specs.Finishes.{StampsIt, CommittedSlot, above_held, IsFinishing}
use Rattle.commit_abort.proofs.Finished.{has_named}
use Rattle.commit_abort.proofs.FinishParts as parts
use Rattle.replay_rules.specs.declared.plan.Call.{Call}
use Rattle.replay_rules.specs.declared.plan.Call.TheVariants.{Commit}
use Rattle.replay_rules.specs.declared.plan.CallOf.{CallOf}
use Rattle.replay_rules.specs.declared.seats.NotedVersion.{NotedVersion}
use Rattle.replay_rules.specs.declared.seats.Edit.TheVariants.{CommittedFrom}
use Rattle.replay_rules.specs.declared.seats.Test.TheVariants.{IsLinked}
use Rattle.replay_rules.specs.declared.seats.Sweep.{Sweep}
use Rattle.replay_rules.specs.declared.seats.State.{State}
use Rattle.replay_rules.specs.declared.seats.Helping.TheVariants.{LoadNamed}
use Rattle.replay_rules.specs.declared.seats.Ending.{Ending}
use Rattle.replay_rules.specs.declared.seats.Ending.TheVariants.{LoadNow, Name, StampOwn, StoreSuper, Leave}
use Rattle.replay_rules.specs.declared.seats.Leaving.TheVariants.{WithCommit}
use Rattle.replay_rules.specs.declared.seats.NextStep.{NextStep}
use Rattle.replay_rules.specs.declared.seats.NextStep.TheVariants.{Helps, EndsSection}
use Rattle.replay_rules.specs.declared.seats.CallAnswer.TheVariants.{Committed}
use Rattle.replay_rules.specs.declared.seats.Then.TheVariants.{Goes, Ends}
use Rattle.replay_rules.specs.FitPlans.{IsFitCallOf}
use Rattle.replay_rules.specs.SeatNotes.{edited_from, version_at, first_from}
use Rattle.replay_rules.specs.Tasks.{slot_at as slot_for, stamp_from, commit_clock}
use Rattle.replay_rules.specs.Kinds.{no_tag}
use Rattle.replay_rules.specs.GoesOn.{is_last, helped_in, help, store_super as then_super, after_name, after_now}
use Rattle.replay_rules.specs.States.{any_commit, any_start, zeros, Made, state_of}
use Rattle.replay_rules.specs.Runs.{TapeOf}
use Rattle.replay_rules.specs.Behind.{IsTapeBehind}
use Rattle.replay_rules.proofs.runs.Notes.{note_of, notes_from, notes_committed, edited_long, edited_behind}
use Rattle.replay_rules.proofs.runs.Sections.{seat_with, Logs, InSection}
use Rattle.replay_rules.proofs.runs.Standing.{HasNamed, Finishes, StepsSo, GoesSo, by_step, by_end}
use Rattle.replay_rules.proofs.runs.Stepping.{IsOfKind, view_by, next_is}
use Rattle.replay_rules.proofs.runs.Known.{if_so, eqb_ne, ltb_lt, ltb_ge, facts, number_is, view_there, starts, knows, logs_left}
use Rattle.replay_rules.proofs.runs.LogFacts.{noted_long, noted_from, noted_at, held_are, first_held}
use Rattle.replay_rules.proofs.runs.Searches.{first_within, first_after, one_of, unlinked}
use Rattle.replay_rules.proofs.runs.Fields.{stamp_is}
use Rattle.replay_rules.proofs.runs.Helping.{rests_in, named_so, section_kept}
use Rattle.replay_rules.proofs.runs.CommitFacts.{next_word_is, told_on}

module _ (c : Config) (k : Checked c) (n : ℕ) (lt : n < c.seats) (made : List Made) (t : TapeOf) (b : IsTapeBehind c t made)
    (log : List NotedVersion) (freed from : ℕ) (time : Option ℕ) (call : Call) (sweep : Sweep) (own : Option NextStep) (left : List CallOf)
    (no_scan : ((state_of c made).seats n).scan ≡ None) (before : All (IsFitCallOf c) left) where
  abbrev s : Moment
  s = state_of c made

  abbrev v : Knowledge
  v = s.seats n

  abbrev Made_so : Ending → Type 0
  Made_so step = StepsSo c n made t (EndsSection step) (seat_with n log freed from time call sweep own left)

  few_seats : n < 64
  few_seats = let seats = k.seats.1 in omega (arith, lt, seats)

  slot_low : (at : ℕ) → (at_slot : slot_for c at < c.slots) × (slot_for c at ≤ 8191)
  slot_low at =
      let slots = k.slots in
      let some = slots.0 in
      let few = slots.1 in
      let low : slot_for c at < c.slots = mod-lt at (omega (arith, some)) in
      (low, omega (arith, low, few))

  -- behind the last version below which SUPER is stored the section ends
  super_so : (w : Knowledge) (told at t2 : ℕ) → Finishes c w log freed from t2 told → at ≡ from + told → at ≤ length log
      → GoesSo c n w log freed from time call sweep (then_super log (first_from log at IsLinked) t2)
  super_so w told at t2 fin at_is within =
      let next = first_from log at IsLinked in
      let low = first_after log at IsLinked within in
      let high = first_within log at IsLinked within in
      let more = next - at in
      let on = told_on c w log freed from t2 told more fin (omega (arith, at_is, low, high))
      (λ j a d. unlinked log at j (omega (arith, at_is, a)) (omega (arith, at_is, d, low)) (omega (arith, at_is, d, low, high))) in
      if_so (GoesSo c n w log freed from time call sweep) (ltb next (length log)) (Goes (EndsSection (StoreSuper next (version_at log next).previous t2)))
      (Goes (EndsSection (Leave (WithCommit t2))))
      (λ e. by_step (EndsSection (StoreSuper next (version_at log next).previous t2)) refl
      (told + more, on, omega (arith, at_is, low), ltb_lt next (length log) e, refl, one_of log at within (ltb_lt next (length log) e)))
      (λ e. by_step (EndsSection (Leave (WithCommit t2))) refl
      (told + more, on, (let ge = ltb_ge next (length log) e in omega (arith, at_is, low, high, ge))))

  -- the clock is loaded
  pub loading_made : InSection c v log freed from time → from < length log → call ≡ Commit → Made_so LoadNow
  loading_made inside some commits =
      let task = EndsSection LoadNow in
      let of : IsOfKind c s n load_check task = record {
        is = refl;
        may = subst MayLoadCheck (sym inside.walking.phase) tt;
        range = tt;
        place = refl;
        writes = λ x. refl;
        fits = λ x _. tt;
      } in
      let w = view_by c s n load_check in
      let word = s.memory Clock in
      let f = facts c k n made b.each in
      let bound : clock_time_of word ≤ 35184372088831 = (let long = f.history.long in let top = f.history.in_time in omega (arith, long, top)) in
      let still = section_kept c v w log freed from time (λ i e o. e) refl
      (λ x has. Contains-append_left v.clocks.helped (if_none word ++ checked_helped v.clocks.found word) x has)
      (logs_left c v w log freed from refl refl refl refl _ refl (refl, refl)) inside in
      let loaded : Contains w.clocks.loaded word = Contains-push v.clocks.loaded word in
      let state : State = record { seat = n; time = time; from = from; freed = freed; call = call; sweep = sweep } in
      let as_commit : State = record { seat = n; time = time; from = from; freed = freed; call = Commit; sweep = sweep } in
      next_is c k n lt made t b load_check task of (seat_with n log freed from time call sweep own left) refl log freed from time call sweep own left
      refl no_scan before
      (subst (λ (x : Call). GoesSo c n w log freed from time x sweep (after_now x c log (record state { call = x }) word)) (sym commits)
      (if_so (GoesSo c n w log freed from time Commit sweep) (is_last (clock_time_of word)) (Ends (Committed ends.End)) (help c log as_commit word)
      (λ last. by_end (Committed ends.End) refl (rests_in c w log freed from time still))
      (λ on. if_so (GoesSo c n w log freed from time Commit sweep) (clock_slot_of word == 8191) (helped_in Commit c log as_commit word)
      (Goes (Helps (LoadNamed word)))
      (λ nobody. named_so c n w log freed from time sweep word bound still some loaded
      (Contains-append_right v.clocks.helped (if_none word ++ checked_helped v.clocks.found word) word
      (Contains-append_left (if_none word) (checked_helped v.clocks.found word) word
      (subst (λ x. Contains (if x then word ∷ [] else []) word) (sym nobody) (Contains-push [] word)))))
      (λ other. by_step (Helps (LoadNamed word)) refl ((loaded, eqb_ne (clock_slot_of word) 8191 other), (still, some))))))

  -- the commit is named, or another came first
  name_made : (word new : ℕ) → InSection c v log freed from time → from < length log → Contains v.clocks.loaded word → Contains v.clocks.helped word
      → clock_time_of word < 35184372088831 → new ≡ commit_clock c word n from → Made_so (Name word new)
  name_made word new inside some loaded helped room new_is =
      let i = inside.section in
      let l = inside.logs.noted in
      let task = EndsSection (Name word new) in
      let kind = name_commit word no_tag i in
      let held = held_are c k v log freed from inside.logs in
      let first = first_held c k v log freed from inside.logs in
      let low = slot_low from in
      let own_seat = number_is c k n made b.each in
      let may : MayNameCommit any_commit c v word no_tag i = record {
        phase = inside.walking.phase;
        open_is = inside.walking.open_is;
        past_help = inside.walking.helped;
        some_held = omega (arith, held, some);
        loaded = loaded;
        helped = helped;
        room = room;
        fit = λ st d. tt;
      } in
      let word_is : commit_word c v word ≡ new =
      (λ j. clock_of (clock_time_of word + 1) (own_seat j) (index_of c (first j))) ∙ sym
      (next_word_is c word n from (slot_for c from) room few_seats low.1 refl)
      ∙ sym new_is in
      let packed = new_is ∙ next_word_is c word n from (slot_for c from) room few_seats low.1 refl in
      let of : IsOfKind c s n kind task = record {
        is = (i, refl);
        may = may;
        range = tt;
        place = refl;
        writes = λ f. ap (stored_if f word) word_is;
        fits = λ f _. if_so IsStorable (f == word) (Some new) None
            (λ e. let seats = few_seats in let slot = low.1 in omega (arith, packed, seats, slot, room)) (λ e. tt);
      } in
      let found = s.memory Clock in
      let h = s.history in
      let A = commit_named c v i no_tag word h in
      let B = commit_lost c v found h in
      let f = facts c k n made b.each in
      dite (ℕ_discrete found word)
      (λ won.
      let yes : (found == word) ≡ true = eq-eqb found word won in
      let view : view_by c s n kind ≡ A = ap (λ x. if x then A else B) yes in
      let told = (commit_swaps any_start any_commit c (zeros c) v word no_tag i may (commit_word c v word) refl).0 s.memory h s.seats f
      (view_there c k n made b.each) (subst (λ (m : ℕ). m < c.seats) (sym own_seat) lt) (starts c k n made b.each) won in
      let named : HasNamed c A log freed from from (clock_time_of word + 1) = record {
        noted = l;
        won = record { before = v; inside = i; tag = no_tag; word = word; history = h };
        named = record {
          phase = inside.walking.phase;
          some = omega (arith, held, some);
          named = refl;
          log = told.3.0.0.2;
          stands = inside.logs.stands;
          unbuilt = inside.logs.is.unbuilt;
        };
        is = inside.logs.is;
        first_is = refl;
        time_is = refl;
        in_time = omega (arith, room);
      } in
      next_is c k n lt made t b kind task of (seat_with n log freed from time call sweep own left) refl log freed from time call sweep own left refl
      (subst (λ (u : Knowledge). u.scan ≡ None) (sym view) no_scan) before
      (subst (λ (u : Knowledge). GoesSo c n u log freed from time call sweep (after_name
      (record { seat = n; time = time; from = from; freed = freed; call = call; sweep = sweep })
      word found)) (sym view)
      (by_step (EndsSection (StampOwn from (clock_time_of word + 1)))
      (ap (λ x. if x then Goes (EndsSection (StampOwn from (clock_time_of word + 1)))
      else Ends (Committed (ends.Again (record { seat = clock_seat_of found; time = clock_time_of found })))) yes)
      named)))
      (λ lost.
      let not_so : (found == word) ≡ false = ne_eqb found word lost in
      let view : view_by c s n kind ≡ B = ap (λ x. if x then A else B) not_so in
      let rival : Rival = record { seat = clock_seat_of found; time = clock_time_of found } in
      let still = section_kept c v B log freed from time (λ i e o. e) refl (λ x has. Contains-append_left v.clocks.helped (if_none found) x has)
      (logs_left c v B log freed from refl refl refl refl _ refl (refl, refl)) inside in
      next_is c k n lt made t b kind task of (seat_with n log freed from time call sweep own left) refl log freed from time call sweep own left refl
      (subst (λ (u : Knowledge). u.scan ≡ None) (sym view) no_scan) before
      (subst (λ (u : Knowledge). GoesSo c n u log freed from time call sweep (after_name
      (record { seat = n; time = time; from = from; freed = freed; call = call; sweep = sweep })
      word found)) (sym view)
      (by_end (Committed (ends.Again rival))
      (ap (λ x. if x then Goes (EndsSection (StampOwn from (clock_time_of word + 1))) else Ends (Committed (ends.Again rival))) not_so)
      (rests_in c B log freed from time still))))

  -- the own stamp is exchanged
  stamp_made : (t2 : ℕ) → HasNamed c v log freed from from t2 → Made_so (StampOwn from t2)
  stamp_made t2 named =
      let l = named.noted in
      let won = named.won in
      let own_seat = number_is c k n made b.each in
      let low = slot_low from in
      let seats = few_seats in
      let next = named.named.stands.next in
      let held = named.named.stands.held in
      let long = noted_long c l log freed from named.is in
      let gone = named.is.gone in
      let of_held = named.is.held in
      let first : set_first won.before.ring ≡ from = omega (arith, next, held, long, gone, of_held) in
      let some = named.named.some in
      let short : from < length log = omega (arith, some, held, of_held) in
      let at = slot_for c from in
      let word = clock_of t2 v.number (index_of c from) in
      let unset = unset_of from in
      let naming : Naming = record { time = clock_time_of won.word + 1; first = set_first won.before.ring; stamped = false } in
      let here : OwnSection = record won.inside { mode = Named naming } in
      let phase : v.phase ≡ Inside here = has_named c v l won named.named in
      let small : from < 2 ^ 57 = (let top = (knows c k n made b.each).named here naming phase refl in omega (arith, top, first)) in
      let seat_low : v.number < 64 = omega (arith, own_seat, seats) in
      let of_first : index_of c from ≡ index_of c (set_first won.before.ring) = ap (index_of c) (sym first) in
      let may : IsOwnNaming c v word unset = (
        here,
        naming,
        phase,
        refl,
        (λ j. clock_of (named.time_is j) v.number (of_first j)),
        ap unset_of (sym first),
      ) in
      let task = EndsSection (StampOwn from t2) in
      let kind = stamp word unset in
      let time_is : clock_time_of word ≡ t2 = time_back t2 v.number (index_of c from) seat_low low.1 in
      let seat_is : clock_seat_of word ≡ v.number = seat_back t2 v.number (index_of c from) seat_low low.1 in
      let slot_is : clock_slot_of word ≡ index_of c from = slot_back t2 v.number (index_of c from) seat_low low.1 in
      let place : Stamp (clock_seat_of word) (clock_slot_of word) ≡ Stamp n at = (λ j. Stamp ((seat_is ∙ own_seat) j) (slot_is j)) in
      let of : IsOfKind c s n kind task = record {
        is = (word, ap (stamp word) (sym (stamp_is from small)));
        may = inr may;
        range = (lt, low.0);
        place = place;
        writes = λ f. (λ j. stored_if f (sym (stamp_is from small) j) (time_is j));
        fits = λ f _. if_so IsStorable (f == stamp_from from) (Some t2) None (λ e. let in_time = named.in_time in omega (arith, in_time)) (λ e. tt);
      } in
      let own_is : is_own c v.number naming word unset ≡ true =
      ap (λ x. x && (unset == unset_of naming.first)) (eq-eqb word (clock_of naming.time v.number (index_of c naming.first)) may.4)
      ∙ eq-eqb unset (unset_of naming.first) may.5 in
      let now : OwnSection = record won.inside { mode = Named (record { time = t2; first = from; stamped = true }) } in
      let after_phase : stamped_phase c v.number v.phase word unset ≡ Inside now =
      ap (λ p. stamped_phase c v.number p word unset) phase
      ∙ ap (λ x. Inside (record won.inside { mode = Named (record naming { stamped = x }) })) own_is
      ∙ (λ j. Inside (record won.inside { mode = Named (record { time = sym named.time_is j; first = first j; stamped = true }) })) in
      let was : section_in v ≡ here = ap inside_of phase in
      let so : (x : ℕ) → (stamp_swapped c v word unset x).scan ≡ None
      × GoesSo c n (stamp_swapped c v word unset x) log freed from time call sweep (then_super log (first_from log from IsLinked) t2) =
      λ x.
      let w = stamp_swapped c v word unset x in
      let stamps : StampsIt v w from t2 (section_in v) = record {
        phase = after_phase ∙ (λ j. Inside (record (sym was j) { mode = Named (record { time = t2; first = from; stamped = true }) }));
        trail = (_, refl, refl);
        rest = refl;
      } in
      let begins : Finishes c w log freed from t2 0 = record {
        before = v;
        noted = l;
        finishing = parts.finish_begins c v w l won named.named t2 from named.time_is (sym first) stamps;
        is = named.is;
        in_time = named.in_time;
      } in
      (no_scan, super_so w 0 from t2 begins (omega arith) (omega (arith, short))) in
      let found = s.memory (Stamp (clock_seat_of word) (clock_slot_of word)) in
      let both = if_so (λ (u : Knowledge). (u.scan ≡ None) × GoesSo c n u log freed from time call sweep (then_super log (first_from log from IsLinked) t2))
      (found == unset)
      (stamp_swapped c v word unset unset) (stamp_swapped c v word unset found) (λ e. so unset) (λ e. so found) in
      next_is c k n lt made t b kind task of (seat_with n log freed from time call sweep own left) refl log freed from time call sweep own left refl
      both.0 before
      both.1

  -- SUPER is stored below one version more
  super_made : (at told t2 : ℕ) → Finishes c v log freed from t2 told → at ≡ from + told → at < length log → (version_at log at).previous ≢ 0
      → Made_so (StoreSuper at (version_at log at).previous t2)
  super_made at told t2 fin at_is live some =
      let l = fin.noted in
      let m = note_of at (version_at log at) in
      let first = noted_from c l log freed from fin.is fin.finishing.named.stands.log.held in
      let place : at - freed ≡ held_from l + told = omega (arith, at_is, first) in
      let there = subst (λ (i : ℕ). slice_get l.live i ≡ Some m) place (noted_at c l log freed from at fin.is (omega (arith, at_is, first)) live) in
      let may = parts.next_may c fin.before v l t2 told fin.finishing m there some in
      let above : CommittedSlot = above_held c v l told in
      let kind = store_super m.previous t2 above.slot above.version above.note in
      let task = EndsSection (StoreSuper at m.previous t2) in
      let slots = k.slots.0 in
      let of : IsOfKind c s n kind task = record {
        is = (above.slot, above.version, above.note, refl);
        may = may.1;
        range = (may.0.1, mod-lt (link_position_of m.previous) (omega (arith, slots)));
        place = refl;
        writes = λ f. refl;
        fits = λ f _. (let in_time = fin.in_time in omega (arith, in_time));
      } in
      let w = view_by c s n kind in
      let more : Finishes c w log freed from t2 (told + 1) = record {
        before = fin.before;
        noted = l;
        finishing = (parts.goes_on c fin.before v l t2 told fin.finishing w m 0 1 there
            (record { none = λ none. absurd (some none); one = λ _. (refl, refl) })).0;
        is = fin.is;
        in_time = fin.in_time;
      } in
      next_is c k n lt made t b kind task of (seat_with n log freed from time call sweep own left) refl log freed from time call sweep own left refl
      no_scan before
      (super_so w (told + 1) (at + 1) t2 more (omega (arith, at_is)) (omega (arith, live)))

  -- the section ends, and what it held is committed
  pub ending_made : (t2 told : ℕ) → Finishes c v log freed from t2 told → from + told ≡ length log → Made_so (Leave (WithCommit t2))
  ending_made t2 told fin all =
      let l = fin.noted in
      let is = fin.is in
      let first = noted_from c l log freed from is fin.finishing.named.stands.log.held in
      let held = is.held in
      let within = is.within in
      let place : held_from l ≡ from - freed = omega (arith, first) in
      let there : freed + (from - freed) ≡ from = omega (arith, first) in
      let told_is : told ≡ l.held = omega (arith, all, held) in
      let finishing = subst (IsFinishing c fin.before v l t2) told_is fin.finishing in
      let task = EndsSection (Leave (WithCommit t2)) in
      let of : IsOfKind c s n clear_mark task = record {
        is = refl;
        may = parts.end_may c fin.before v l t2 finishing;
        range = lt;
        place = ap Mark (number_is c k n made b.each);
        writes = λ f. refl;
        fits = λ f _. omega arith;
      } in
      let w = view_by c s n clear_mark in
      let log2 = edited_from (CommittedFrom from t2) 0 log in
      let long2 = edited_long (CommittedFrom from t2) 0 log in
      let logs2 : Logs c w log2 freed (length log) = record {
        noted = committed_noted l t2;
        stands = (parts.finish_ends c fin.before v l t2 finishing w (committed_noted l t2) refl refl).1;
        is = record {
          live = (λ i. from_place (λ m. record m { time = t2 }) (place i) (is.live i)) ∙ sym (notes_committed (from - freed) freed t2 (drop freed log))
              ∙ ap (λ p. notes_from freed (edited_from (CommittedFrom p t2) freed (drop freed log))) there
              ∙ ap (notes_from freed) (sym (edited_behind (CommittedFrom from t2) freed log));
          gone = is.gone;
          within = omega (arith, within, long2);
          unbuilt = is.unbuilt;
          held = omega (arith, long2);
          few = omega arith;
        };
      } in
      next_is c k n lt made t b clear_mark task of (seat_with n log freed from time call sweep own left) refl log2 freed (length log) None call sweep
      own left refl no_scan
      before
      (by_end (Committed (ends.Done t2)) refl (refl, sym long2, logs2))

  pub naming_made : (word new : ℕ) → InSection c v log freed from time → from < length log → Contains v.clocks.loaded word → Contains v.clocks.helped word
      → clock_time_of word < 35184372088831 → new ≡ commit_clock c word n from → Made_so (Name word new)
  naming_made = name_made

  pub stamping_made : (first t2 : ℕ) → HasNamed c v log freed from first t2 → Made_so (StampOwn first t2)
  stamping_made first t2 named =
      subst (λ (x : ℕ). Made_so (StampOwn x t2)) (sym named.first_is)
      (stamp_made t2 (subst (λ (x : ℕ). HasNamed c v log freed from x t2) named.first_is named))

  pub telling_made : (at link told t2 : ℕ) → Finishes c v log freed from t2 told → at ≡ from + told → at < length log → link ≡ (version_at log at).previous
      → link ≢ 0 → Made_so (StoreSuper at link t2)
  telling_made at link told t2 fin at_is live link_is some =
      subst (λ (x : ℕ). Made_so (StoreSuper at x t2)) (sym link_is) (super_made at told t2 fin at_is live (subst (λ (x : ℕ). x ≢ 0) link_is some))
