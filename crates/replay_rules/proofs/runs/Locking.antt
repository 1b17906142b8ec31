-- The steps of a lock behind its walk: the build of its version, and the exchanges of HEAD.
use Rattle.std.proofs.Common.{◌≡◌, ℕ, ◌+◌, ◌<◌, ◌^◌, ◌==◌, ◌&&◌, ltb, not, List, [], ◌∷◌, ◌++◌, true, false, Option, Some, None, All, refl, sym, ap, ◌∙◌, subst}
use Rattle.std.proofs.Common.{arith, inl, eqb-true, eq-eqb, ne_eqb, if◌then◌else◌, mod-lt, length-append, length-drop, drop}
use Rattle.mv_layout.specs.Words.{link_of}
use Rattle.mv_core.proofs.Terms.{dite, ℕ_discrete, Config, Checked, Head}
use Rattle.mv_core.specs.declared.ring.Build as core
use Rattle.mv_core.specs.declared.ring.Slot.TheVariants as slots
use Rattle.mv_core.specs.declared.view.Knowledge.{Knowledge}
use Rattle.mv_core.specs.declared.view.OwnSection.{OwnSection}
use Rattle.mv_core.specs.declared.view.Passed.TheVariants.{Nothing}
use Rattle.mv_core.specs.declared.view.WalkStage.TheVariants as walk
use Rattle.mv_core.specs.Rings.{slot_at, index_of, set_first}
use Rattle.mv_core.specs.EnterSteps.{stored_if}
use Rattle.mv_core.specs.LockSteps.{StandsToLock, field_place, MayLock, head_locked, lock_lost}
use Rattle.mv_core.specs.Moves.{Moment, store_built, lock_head, IsStorable}
use Rattle.mv_core.proofs.kinds.walking.WalkOn.{at_zero, at_some}
use Rattle.mv_history.specs.declared.answers.LockAnswer.TheVariants as refusals
use Rattle.seat_log.specs.Notes.{IsNextOf, held_noted}
use Rattle.seat_log.specs.Stands.{Stands, HasBuilt}
use Rattle.seat_log.specs.Builds.{build_at}
use Rattle.seat_log.proofs.MayBuild.{may_store}
use Rattle.seat_log.proofs.Stays.{stands_locked}
use Rattle.replay_rules.specs.declared.plan.Call.{Call}
use Rattle.replay_rules.specs.declared.plan.CallOf.{CallOf}
use Rattle.replay_rules.specs.declared.seats.NotedVersion.{NotedVersion}
use Rattle.replay_rules.specs.declared.seats.Edit.TheVariants.{Kept, Pushed}
use Rattle.replay_rules.specs.declared.seats.Sweep.{Sweep}
use Rattle.replay_rules.specs.declared.seats.Locking.{Locking}
use Rattle.replay_rules.specs.declared.seats.Locking.TheVariants.{Build, LockHead, ClearPrevious, FoundFirst, FoundStamp}
use Rattle.replay_rules.specs.declared.seats.NextStep.{NextStep}
use Rattle.replay_rules.specs.declared.seats.NextStep.TheVariants.{Locks}
use Rattle.replay_rules.specs.declared.seats.CallAnswer.TheVariants.{Locked}
use Rattle.replay_rules.specs.declared.seats.Then.TheVariants.{Goes, Ends}
use Rattle.replay_rules.specs.FitPlans.{IsFitCallOf}
use Rattle.replay_rules.specs.SeatNotes.{applied}
use Rattle.replay_rules.specs.Tasks.{slot_at as slot_for, link_to, field_word}
use Rattle.replay_rules.specs.GoesOn.{is_lock, after_lock_head}
use Rattle.replay_rules.specs.States.{Made, state_of}
use Rattle.replay_rules.specs.Runs.{SeatOf, TapeOf, learned}
use Rattle.replay_rules.specs.Behind.{IsTapeBehind}
use Rattle.replay_rules.proofs.runs.Notes.{note_of, notes_from, notes_more, drop_more}
use Rattle.replay_rules.proofs.runs.Sections.{seat_with, Logs, InSection, MayHold}
use Rattle.replay_rules.proofs.runs.Standing.{HasFields, Builds, LocksAt, StepsSo}
use Rattle.replay_rules.proofs.runs.Standing.{GoesSo, by_step, by_end}
use Rattle.replay_rules.proofs.runs.Stepping.{IsOfKind, view_by, next_is}
use Rattle.replay_rules.proofs.runs.Known.{if_so, eqb_ne, ltb_lt, ltb_ge, and_left, number_is, knows, next_low, logs_plain}
use Rattle.replay_rules.proofs.runs.LogFacts.{noted_long, next_long, held_are, first_held, held_in_log, stands_whole}
use Rattle.replay_rules.proofs.runs.Fields.{field_range, field_small, field_fits, has_next, has_first, whole_words, has_link}
use Rattle.replay_rules.proofs.runs.Helping.{rests_in}
use Rattle.replay_rules.proofs.runs.WalkFacts.{section_stays}
use Rattle.replay_rules.proofs.runs.Building.{other_first, own_first, link_is, builds_stay, may_build_here, build_now, logs_built, built_there}
use Rattle.replay_rules.proofs.runs.LockMet.{first_made, stamp_made}

module _ (c : Config) (k : Checked c) (n : ℕ) (lt : n < c.seats) (made : List Made) (t : TapeOf) (b : IsTapeBehind c t made)
    (log : List NotedVersion) (freed from : ℕ) (time : Option ℕ) (call : Call) (sweep : Sweep) (own : Option NextStep) (left : List CallOf)
    (no_scan : ((state_of c made).seats n).scan ≡ None) (before : All (IsFitCallOf c) left)
    (lock : is_lock call ≡ true) (inside : InSection c ((state_of c made).seats n) log freed from time) (o : ℕ) (range : o < c.objects)
    (may : MayHold c log freed from o) where
  abbrev s : Moment
  s = state_of c made

  abbrev v : Knowledge
  v = s.seats n

  abbrev i : OwnSection
  i = inside.section

  abbrev seat : SeatOf
  seat = seat_with n log freed from time call sweep own left

  abbrev Made_so : NotedVersion → ℕ → Locking → Type 0
  Made_so version at step = StepsSo c n made t (Locks version at step) seat

  module _ (version : NotedVersion) (at : ℕ) (builds : Builds c v i log from o version at) where
    -- once a word was stored there the position fits a link
    low_at : (field : ℕ) → HasFields (build_at c v at) version at field → 0 < field → at < 2 ^ 57
    low_at field has some =
        let there = built_there c k v log freed from time at inside may.room builds.at_is version field has some in
        let next = next_long c k v log freed from inside.logs in
        let is = builds.at_is in
        let small = (knows c k n made b.each).next (index_of c at) (build_at c v at) there in
        omega (arith, next, is, small)

    few_seats : n < 64
    few_seats = let seats = k.seats.1 in omega (arith, lt, seats)

    first_low : version.first < 2 ^ 64
    first_low =
        let is = builds.first_is in
        let held = held_are c k v log freed from inside.logs in
        let next = next_long c k v log freed from inside.logs in
        let small = next_low c k n made b.each in
        omega (arith, is, held, next, small)

    -- one field is stored
    build_made : (field : ℕ) → field < 10 → (field ≡ 1 → version.first ≡ at) → StandsToLock v i o version.previous
        → HasFields (build_at c v at) version at field → Made_so version at (Build field)
    build_made field less one stands has =
        let x = field_word version at field in
        let first = first_held c k v log freed from inside.logs in
        let kind = store_built at field x (build_at c v at) in
        let slots = k.slots.0 in
        let place : field_place v.number (slot_for c at) field ≡ field_place n (slot_for c at) field =
        ap (λ (m : ℕ). field_place m (slot_for c at) field) (number_is c k n made b.each) in
        let of : IsOfKind c s n kind (Locks version at (Build field)) = record {
          is = (build_at c v at, refl);
          may = may_store c v at (may_build_here c k v log freed from time at inside may.room builds.at_is) field x
              (field_fits version at field (set_first v.ring) less (builds.first_is ∙ sym first) one (low_at field has));
          range = field_range c n (slot_for c at) field lt (mod-lt at (omega (arith, slots))) less;
          place = place;
          writes = λ f. refl;
          fits = λ f _. field_small version at field first_low builds.small_link builds.small;
        } in
        let w = view_by c s n kind in
        let more = has_next version at field (build_at c v at) less (low_at field has) has in
        let now = build_now c k v log freed from time at inside may.room builds.at_is field x more.wide in
        let still = section_stays c v w log freed from time inside refl refl refl
        (logs_built c k v log freed from time at inside may.room builds.at_is field x more.wide) in
        let keep = builds_stay c v w i log from o version at refl refl builds in
        let has_now : HasFields (build_at c w at) version at (field + 1) = subst (λ (y : core.Build). HasFields y version at (field + 1)) (sym now) more in
        next_is c k n lt made t b kind (Locks version at (Build field)) of seat refl log freed from time call sweep own left refl no_scan before
        (if_so (GoesSo c n w log freed from time call sweep) ((field == 0) && not (version.first == at)) (Goes (Locks version at (Build 2)))
        (if ltb field 9 then Goes (Locks version at (Build (field + 1))) else Goes (Locks version at LockHead))
        (λ e.
        let zero : field ≡ 0 = eqb-true field 0 (and_left (field == 0) (not (version.first == at)) e) in
        let next : field + 1 ≡ 1 = omega (arith, zero) in
        by_step (Locks version at (Build 2)) refl (
          record {
            inside = still;
            object = o;
            range = range;
            may = may;
            builds = keep;
            locks = (
              omega arith,
              (λ (z : 2 ≡ 1). absurd (omega (arith, z))),
              stands,
              has_first version at (build_at c w at) (other_first version at field e) (subst (HasFields (build_at c w at) version at) next has_now),
            );
          },
          lock,
        ))
        (λ e. if_so (GoesSo c n w log freed from time call sweep) (ltb field 9) (Goes (Locks version at (Build (field + 1)))) (Goes (Locks version at LockHead))
        (λ on. by_step (Locks version at (Build (field + 1))) refl (
          record {
            inside = still;
            object = o;
            range = range;
            may = may;
            builds = keep;
            locks = ((let lower = ltb_lt field 9 on in omega (arith, lower)), (λ z. own_first version at field z e), stands, has_now);
          },
          lock,
        ))
        (λ last. by_step (Locks version at LockHead) refl (
          record {
            inside = still;
            object = o;
            range = range;
            may = may;
            builds = keep;
            locks = (stands, subst (HasFields (build_at c w at) version at) (let ge = ltb_ge field 9 last in omega (arith, ge, less)) has_now);
          },
          lock,
        ))))

    -- HEAD may be exchanged for a link to the whole version
    may_lock : StandsToLock v i o version.previous → HasFields (build_at c v at) version at 10 → MayLock c c.write_max v o version.previous at
        version.words (build_at c v at) i
    may_lock stands has =
        let first = first_held c k v log freed from inside.logs in
        let held = held_are c k v log freed from inside.logs in
        let few = may.few in record {
          walking = inside.walking;
          in_range = range;
          stands = stands;
          unheld = held_in_log c k v log freed from inside.logs o may.unheld;
          room = omega (arith, held, few);
          next = builds.at_is ∙ sym (next_long c k v log freed from inside.logs);
          build = built_there c k v log freed from time at inside may.room builds.at_is version 10 has (omega arith);
          first = has.first (omega arith) ∙ ap Some (builds.first_is ∙ sym first);
          stamp = λ e. has.stamp (omega arith) (builds.first_is ∙ sym first ∙ e);
          previous_is = has.previous (omega arith);
          successor = has.successor (omega arith);
          words_are = whole_words (build_at c v at) version at builds.wide has;
        }

    -- the won lock: the version is held
    won_logs : HasFields (build_at c v at) version at 10 → Logs c (head_locked c v o version.previous at version.words) (log ++ version ∷ []) freed from
    won_logs has =
        let l = inside.logs.noted in
        let is = inside.logs.is in
        let m = note_of at version in
        let long = noted_long c l log freed from is in
        let gone = is.gone in
        let within = is.within in
        let low = low_at 10 has (omega arith) in
        let held = is.held in
        let at_is = builds.at_is in
        let first_is = builds.first_is in
        let few = may.few in
        let size = inside.logs.stands.slots in
        let room = may.room in
        let next : IsNextOf l m = (omega (arith, long, gone, at_is), omega (arith, long, gone, held, first_is), builds.no_time, builds.no_death, low) in
        let there : slot_at v.ring (index_of c v.ring.next) ≡ slots.Built (build_at c v at) =
        ap (λ p. slot_at v.ring (index_of c p)) (next_long c k v log freed from inside.logs ∙ sym at_is)
        ∙ built_there c k v log freed from time at inside may.room builds.at_is version 10 has (omega arith) in
        let has_built : HasBuilt c v.ring (Some m) = (
          build_at c v at,
          there,
          record {
            first = has.first (omega arith);
            stamp = has.stamp (omega arith);
            previous = has.previous (omega arith);
            successor = has.successor (omega arith);
            words = whole_words (build_at c v at) version at builds.wide has;
            wide = builds.wide;
          },
        ) in
        let whole = stands_whole c v l m inside.logs.stands has_built next (omega (arith, long, size, room)) in
        let so = stands_locked c v (record l { built = Some m }) m whole refl in
        record {
          noted = held_noted (record l { built = Some m });
          stands = subst (λ (x : ℕ). Stands c (head_locked c v x version.previous at version.words) (held_noted (record l { built = Some m })))
              builds.object_is so;
          is = record {
            live = ap (λ ns. ns ++ m ∷ []) is.live
                ∙ ap (λ p. notes_from freed (drop freed log) ++ note_of p version ∷ []) (let d = length-drop freed log in omega (arith, at_is, d, within))
                ∙ sym (ap (notes_from freed) (drop_more freed log version within) ∙ notes_more freed (drop freed log) version);
            gone = is.gone;
            within = (let more = length-append log (version ∷ []) in omega (arith, within, more));
            unbuilt = refl;
            held = (let more = length-append log (version ∷ []) in omega (arith, held, more));
            few = omega (arith, held, few);
          };
        }

    -- the exchange of HEAD
    head_made : StandsToLock v i o version.previous → HasFields (build_at c v at) version at 10 → Made_so version at LockHead
    head_made stands has =
        let kind = lock_head o version.previous at version.words (build_at c v at) i in
        let task = Locks version at LockHead in
        let found = s.memory (Head o) in
        let low = low_at 10 has (omega arith) in
        let link : link_of v.number at ≡ link_to n at = ap (λ m. link_of m at) (number_is c k n made b.each) ∙ sym (link_is n at few_seats low) in
        let place : Head o ≡ Head version.object = ap Head (sym builds.object_is) in
        let of : IsOfKind c s n kind task = record {
          is = (build_at c v at, i, ap (λ x. lock_head x version.previous at version.words (build_at c v at) i) (sym builds.object_is));
          may = may_lock stands has;
          range = subst (λ (x : ℕ). x < c.objects) (sym builds.object_is) range;
          place = place;
          writes = λ f. ap (stored_if f version.previous) link;
          fits = λ f _. if_so IsStorable (f == version.previous) (Some (link_to n at)) None
              (λ e. let is = link_is n at few_seats low in let seats = few_seats in omega (arith, is, seats, low)) (λ e. tt);
        } in
        let A = head_locked c v o version.previous at version.words in
        let B = lock_lost c v o found in
        let at_head : s.memory (Head version.object) ≡ found = ap (λ p. s.memory (Head p)) builds.object_is in
        dite (ℕ_discrete found version.previous)
        (λ won.
        let yes : (found == version.previous) ≡ true = eq-eqb found version.previous won in
        let there : (s.memory (Head version.object) == version.previous) ≡ true = ap (λ x. x == version.previous) at_head ∙ yes in
        let view : view_by c s n kind ≡ A = ap (λ x. if x then A else B) yes in
        let seat_is : learned task (s.memory (Head version.object)) seat ≡ seat_with n (log ++ version ∷ []) freed from time call sweep own left =
        ap (λ x. record seat { log = applied (if x then Pushed version else Kept) log }) there in
        let inside2 : InSection c A (log ++ version ∷ []) freed from time = record {
          section = i;
          walking = record {
            phase = inside.walking.phase;
            open_is = inside.walking.open_is;
            helped = inside.walking.helped;
            no_back = inside.walking.no_back;
          };
          time_is = inside.time_is;
          logs = won_logs has;
        } in
        next_is c k n lt made t b kind task of seat refl (log ++ version ∷ []) freed from time call sweep own left seat_is
        (subst (λ (u : Knowledge). u.scan ≡ None) (sym view) no_scan) before
        (subst (λ (u : Knowledge). GoesSo c n u (log ++ version ∷ []) freed from time call sweep
        (after_lock_head version at (s.memory (Head version.object)))) (sym view)
        (by_end (Locked refusals.Held)
        (ap (λ x. if x then Ends (Locked refusals.Held)
        else (if s.memory (Head version.object) == 0 then Goes (Locks (record version { previous = 0 }) at ClearPrevious)
        else Goes (Locks version at (FoundFirst (s.memory (Head version.object)))))) there)
        (rests_in c A (log ++ version ∷ []) freed from time inside2))))
        (λ lost.
        let not_so : (found == version.previous) ≡ false = ne_eqb found version.previous lost in
        let there : (s.memory (Head version.object) == version.previous) ≡ false = ap (λ x. x == version.previous) at_head ∙ not_so in
        let view : view_by c s n kind ≡ B = ap (λ x. if x then A else B) not_so in
        let seat_is : learned task (s.memory (Head version.object)) seat ≡ seat = ap
        (λ x. record seat { log = applied (if x then Pushed version else Kept) log }) there in
        let still = section_stays c v B log freed from time inside refl refl refl
        (logs_plain c v B log freed from refl refl refl refl _ refl (refl, refl, refl, refl) inside.logs) in
        let keep = builds_stay c v B i log from o version at refl refl builds in
        let cleared = builds_stay c v B i log from o version at refl refl builds in
        let goes : GoesSo c n B log freed from time call sweep
        (if found == 0 then Goes (Locks (record version { previous = 0 }) at ClearPrevious) else Goes (Locks version at (FoundFirst found))) =
        if_so (GoesSo c n B log freed from time call sweep) (found == 0) (Goes (Locks (record version { previous = 0 }) at ClearPrevious))
        (Goes (Locks version at (FoundFirst found)))
        (λ e. by_step (Locks (record version { previous = 0 }) at ClearPrevious) refl (
          record {
            inside = still;
            object = o;
            range = range;
            may = may;
            builds = record {
              object_is = keep.object_is;
              at_is = keep.at_is;
              first_is = keep.first_is;
              words = keep.words;
              wide = keep.wide;
              small = keep.small;
              small_link = omega arith;
              no_time = keep.no_time;
              no_death = keep.no_death;
            };
            locks = (sym (at_zero o found Nothing true (eqb-true found 0 e)), refl, (version.previous, has));
          },
          lock,
        ))
        (λ e. by_step (Locks version at (FoundFirst found)) refl (
          record {
            inside = still;
            object = o;
            range = range;
            may = may;
            builds = keep;
            locks = record {
              stand = record { object = o; link = found; first = None; stamp = None; passed = Nothing; late = true };
              at = sym (at_some o found Nothing true (eqb_ne found 0 e));
              object_is = refl;
              link_is = refl;
            };
          },
          lock,
        )) in
        next_is c k n lt made t b kind task of seat refl log freed from time call sweep own left seat_is
        (subst (λ (u : Knowledge). u.scan ≡ None) (sym view) no_scan) before
        (subst (λ (u : Knowledge). GoesSo c n u log freed from time call sweep (after_lock_head version at (s.memory (Head version.object)))) (sym view)
        (subst (λ (x : ℕ). GoesSo c n B log freed from time call sweep (after_lock_head version at x)) (sym at_head)
        (subst (λ x. GoesSo c n B log freed from time call sweep (if x then Ends (Locked refusals.Held)
        else (if found == 0 then Goes (Locks (record version { previous = 0 }) at ClearPrevious) else Goes (Locks version at (FoundFirst found)))))
        (sym not_so) goes))))

    -- PREV is cleared where the chain was cut
    clear_made : v.walk ≡ walk.Master o → version.previous ≡ 0 → ((previous : ℕ) × HasFields (build_at c v at) (record version { previous = previous }) at 10)
        → Made_so version at ClearPrevious
    clear_made stands none has =
        let kind = store_built at 2 0 (build_at c v at) in
        let task = Locks version at ClearPrevious in
        let slots = k.slots.0 in
        let of : IsOfKind c s n kind task = record {
          is = (build_at c v at, refl);
          may = may_store c v at (may_build_here c k v log freed from time at inside may.room builds.at_is) 2 0 tt;
          range = (lt, mod-lt at (omega (arith, slots)));
          place = ap (λ m. field_place m (slot_for c at) 2) (number_is c k n made b.each);
          writes = λ f. refl;
          fits = λ f _. omega arith;
        } in
        let w = view_by c s n kind in
        let now = build_now c k v log freed from time at inside may.room builds.at_is 2 0 has.1.wide in
        let still = section_stays c v w log freed from time inside refl refl refl
        (logs_built c k v log freed from time at inside may.room builds.at_is 2 0 has.1.wide) in
        let linked : HasFields (build_at c w at) (record version { previous = 0 }) at 10 =
        subst (λ (y : core.Build). HasFields y (record version { previous = 0 }) at 10) (sym now) (has_link (build_at c v at) version at has.0 0 has.1) in
        next_is c k n lt made t b kind task of seat refl log freed from time call sweep own left refl no_scan before
        (by_step (Locks version at LockHead) refl (
          record {
            inside = still;
            object = o;
            range = range;
            may = may;
            builds = builds_stay c v w i log from o version at refl refl builds;
            locks = (inl (stands, none), subst (λ (p : ℕ). HasFields (build_at c w at) (record version { previous = p }) at 10) (sym none) linked);
          },
          lock,
        ))

    pub locking_made : (step : Locking) → LocksAt c v i o version at step → Made_so version at step
    locking_made (Build field) locks = build_made field locks.0 locks.1 locks.2 locks.3
    locking_made LockHead locks = head_made locks.0 locks.1
    locking_made ClearPrevious locks = clear_made locks.0 locks.1 locks.2
    locking_made (FoundFirst link) locks =
        first_made c k n lt made t b log freed from time call sweep own left no_scan before lock inside o range may version at builds link locks
    locking_made (FoundStamp link first) locks =
        stamp_made c k n lt made t b log freed from time call sweep own left no_scan before lock inside o range may version at builds link first locks.0 locks.1
