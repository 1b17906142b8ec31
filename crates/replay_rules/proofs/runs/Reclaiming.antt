-- The steps of a tidy outside a section: watermarks, frees, scans and rests.
use Rattle.std.proofs.Common.{◌≡◌, ◌≢◌, ◌⊎◌, ℕ, ◌+◌, ◌-◌, ◌<◌, ◌≤◌, ◌^◌, ◌==◌, ◌&&◌, ltb, leb, not, max, List, [], ◌∷◌, ◌++◌, length, drop, Bool, true, false}
use Rattle.std.proofs.Common.{Option, Some, None, All, Contains, refl, sym, ap, ◌∙◌, subst, arith, inl, inr, eq-eqb, ne_eqb, lt-ltb, le-ltb, if◌then◌else◌}
use Rattle.std.proofs.Common.{mod-lt}
use Rattle.std.proofs.lemmas.Bool.{cases_lt}
use Rattle.std.proofs.lemmas.List.Elements.{Contains-append_left, Contains-append_right, Contains-push}
use Rattle.mv_layout.specs.Words.{clock_of, clock_time_of, clock_slot_of}
use Rattle.mv_core.proofs.Terms.{dite, ℕ_discrete, Config, Checked, Clock, Grace, Mark, Stamp}
use Rattle.mv_core.specs.declared.view.Knowledge.{Knowledge}
use Rattle.mv_core.specs.declared.view.Scan.{Scan}
use Rattle.mv_core.specs.EnterSteps.{MayLoadCheck, stored_if, if_none, checked_helped}
use Rattle.mv_core.specs.NameSteps.{rest_word, rest_named, rest_lost}
use Rattle.mv_core.specs.ReclaimSteps.{other_from, scan_on as scan_goes, grace_on, least_with, free_stored, MayStoreFree}
use Rattle.mv_core.specs.Moves.{Moment, MoveKind, load_check, name_rest, load_scan, load_mark, load_grace, raise_grace, store_free, IsStorable}
use Rattle.seat_log.specs.Notes.{rest_noted}
use Rattle.seat_log.specs.Stands.{Stands}
use Rattle.seat_log.specs.Frees.{slots_freed, freed_noted}
use Rattle.seat_log.proofs.FreedLogs.{stands_freed, each_may_free, few_freed, one_freed}
use Rattle.seat_log.proofs.Rested.{rests_room, stands_rested, stands_unrested}
use Rattle.replay_rules.specs.declared.plan.Call.TheVariants.{Tidy}
use Rattle.replay_rules.specs.declared.plan.CallOf.{CallOf}
use Rattle.replay_rules.specs.declared.seats.NotedVersion.{NotedVersion}
use Rattle.replay_rules.specs.declared.seats.Sweep.{Sweep}
use Rattle.replay_rules.specs.declared.seats.State.{State}
use Rattle.replay_rules.specs.declared.seats.Helping.TheVariants.{LoadNamed}
use Rattle.replay_rules.specs.declared.seats.Ending.TheVariants.{LoadNow}
use Rattle.replay_rules.specs.declared.seats.Sweeping.TheVariants.{LoadGrace, Free, LoadScan, LoadMark, RaiseGrace, NameRest}
use Rattle.replay_rules.specs.declared.seats.NextStep.{NextStep}
use Rattle.replay_rules.specs.declared.seats.NextStep.TheVariants.{Helps, EndsSection, Tidies}
use Rattle.replay_rules.specs.declared.seats.Then.{Then}
use Rattle.replay_rules.specs.declared.seats.Then.TheVariants.{Goes}
use Rattle.replay_rules.specs.FitPlans.{IsFitCallOf}
use Rattle.replay_rules.specs.Tasks.{slot_at as slot_for, next_clock, place_in_task}
use Rattle.replay_rules.specs.Learns.{lowered, scan_begun, scanned}
use Rattle.replay_rules.specs.GoesOn.{helped_in}
use Rattle.replay_rules.specs.Sweeps.{free, look_at, then_after}
use Rattle.replay_rules.specs.States.{any_commit, any_start, Made, state_of}
use Rattle.replay_rules.specs.Runs.{SeatOf, TapeOf, learned}
use Rattle.replay_rules.specs.Behind.{IsTapeBehind}
use Rattle.replay_rules.proofs.runs.Notes.{notes_from, notes_drop, drop_on}
use Rattle.replay_rules.proofs.runs.Sections.{seat_with, Logs, RestsAt, HelpsFor, later}
use Rattle.replay_rules.proofs.runs.Standing.{IsFreeing, StepsSo, GoesSo, by_step}
use Rattle.replay_rules.proofs.runs.Stepping.{IsOfKind, view_by, next_is, scan_on}
use Rattle.replay_rules.proofs.runs.Known.{if_so, eqb_ne, leb_le, leb_gt, facts, number_is, knows, logs_left}
use Rattle.replay_rules.proofs.runs.LogFacts.{noted_long}
use Rattle.replay_rules.proofs.runs.Helping.{helped_so}
use Rattle.replay_rules.proofs.runs.Rounds.{free_so, settle_so}
use Rattle.replay_rules.proofs.runs.ScanFacts.{next_is_word, lowered_low}

module _ (c : Config) (k : Checked c) (n : ℕ) (lt : n < c.seats) (made : List Made) (t : TapeOf) (b : IsTapeBehind c t made)
    (log : List NotedVersion) (freed from : ℕ) (sweep : Sweep) (own : Option NextStep) (left : List CallOf) (before : All (IsFitCallOf c) left) where
  abbrev s : Moment
  s = state_of c made

  abbrev v : Knowledge
  v = s.seats n

  abbrev seat_so : SeatOf
  seat_so = seat_with n log freed from None Tidy sweep own left

  abbrev Made_so : NextStep → Type 0
  Made_so task = StepsSo c n made t task seat_so

  module _ (rests : RestsAt c v log freed from None) where
    -- a step that leaves the log alone leaves the seat at rest
    rests_on : (w : Knowledge) → w.phase ≡ v.phase → Logs c w log freed from → RestsAt c w log freed from None
    rests_on w phase logs = (phase ∙ rests.0, rests.1, logs)

    grace_made : v.scan ≡ None → (again : Bool) → Made_so (Tidies (LoadGrace again))
    grace_made no_scan again =
        let of : IsOfKind c s n load_grace (Tidies (LoadGrace again)) =
        record { is = refl; may = tt; range = tt; place = refl; writes = λ f. refl; fits = λ f _. tt } in
        let w = view_by c s n load_grace in
        let found = s.memory Grace in
        let still = rests_on w refl (logs_left c v w log freed from refl refl refl refl _ refl (refl, refl) rests.2) in
        let bound : found ≤ max v.grace found = omega arith in
        next_is c k n lt made t b load_grace (Tidies (LoadGrace again)) of seat_so refl log freed from None Tidy
        (record sweep { again = again; swept = false; bound = found }) own left refl no_scan before
        (free_so c n w log freed from (record sweep { again = again; swept = false; bound = found }) no_scan still bound)

    -- a scan goes on, or is finished and raises GRACE
    module _ (kind : MoveKind) (task : NextStep) (of : IsOfKind c s n kind task) (sweep2 : Sweep) (seat clock least g : ℕ)
        (is : learned task (s.memory (place_in_task c n task)) seat_so ≡ seat_with n log freed from None Tidy sweep2 own left)
        (then_is : then_after task c log (record { seat = n; time = None; from = from; freed = freed; call = Tidy; sweep = sweep2 })
        (s.memory (place_in_task c n task))
        ≡ look_at c (record { seat = n; time = None; from = from; freed = freed; call = Tidy; sweep = sweep2 }) seat)
        (scan : (view_by c s n kind).scan ≡ scan_goes c clock least (other_from n seat))
        (grace : (view_by c s n kind).grace ≡ grace_on c g least (other_from n seat))
        (low : least ≡ sweep2.last.low) (still : RestsAt c (view_by c s n kind) log freed from None) where
      abbrev state2 : State
      state2 = record { seat = n; time = None; from = from; freed = freed; call = Tidy; sweep = sweep2 }

      abbrev w : Knowledge
      w = view_by c s n kind

      abbrev Then_is : Then → Type 0
      Then_is x = then_after task c log (record { seat = n; time = None; from = from; freed = freed; call = Tidy; sweep = sweep2 })
          (s.memory (place_in_task c n task)) ≡ x

      marks : (m : ℕ) → other_from n seat ≡ m → m < c.seats → Then_is (Goes (Tidies (LoadMark m))) → Made_so task
      marks m next inside e =
          let running = scan ∙ ap (scan_goes c clock least) next
          ∙ ap (λ x. if x then Some (record { clock = clock; least = least; next = m }) else None) (lt-ltb m c.seats inside) in
          scan_on c k n lt made t b kind task of seat_so refl log freed from None Tidy sweep2 own left is before m e
          ((still, refl, (record { clock = clock; least = least; next = m }, running, refl, low, inside)), refl)

      ends : (m : ℕ) → other_from n seat ≡ m → c.seats ≤ m → Then_is (Goes (Tidies (RaiseGrace sweep2.last.low))) → Made_so task
      ends m next outside e =
          let none = scan ∙ ap (scan_goes c clock least) next
          ∙ ap (λ x. if x then Some (record { clock = clock; least = least; next = m }) else None) (le-ltb m c.seats outside) in
          let risen = grace ∙ ap (grace_on c g least) next ∙ ap (λ x. if x then g else max g least) (le-ltb m c.seats outside) in
          next_is c k n lt made t b kind task of seat_so refl log freed from None Tidy sweep2 own left is none before
          (by_step (Tidies (RaiseGrace sweep2.last.low)) e ((still, refl, refl, omega (arith, risen, low)), refl))

      own_so : seat ≡ n → (seat + 1 < c.seats) ⊎ (c.seats ≤ seat + 1) → Made_so task
      own_so own_is order =
          let next : other_from n seat ≡ seat + 1 = ap (λ x. if x then seat + 1 else seat) (eq-eqb seat n own_is) in
          let first = then_is ∙ ap (λ x. if not x && ltb seat c.seats then Goes (Tidies (LoadMark seat))
          else (if ltb (seat + 1) c.seats then Goes (Tidies (LoadMark (seat + 1))) else Goes (Tidies (RaiseGrace sweep2.last.low)))) (eq-eqb seat n own_is) in
          by order next first
        where
          by : (seat + 1 < c.seats) ⊎ (c.seats ≤ seat + 1) → other_from n seat ≡ seat + 1
              → Then_is (if ltb (seat + 1) c.seats then Goes (Tidies (LoadMark (seat + 1))) else Goes (Tidies (RaiseGrace sweep2.last.low))) → Made_so task
          by (inl inside) next first =
              marks (seat + 1) next inside
              (first ∙ ap (λ x. if x then Goes (Tidies (LoadMark (seat + 1))) else Goes (Tidies (RaiseGrace sweep2.last.low)))
              (lt-ltb (seat + 1) c.seats inside))
          by (inr outside) next first =
              ends (seat + 1) next outside
              (first ∙ ap (λ x. if x then Goes (Tidies (LoadMark (seat + 1))) else Goes (Tidies (RaiseGrace sweep2.last.low)))
              (le-ltb (seat + 1) c.seats outside))

      other_so : seat ≢ n → (seat < c.seats) ⊎ (c.seats ≤ seat) → Made_so task
      other_so other order =
          let next : other_from n seat ≡ seat = ap (λ x. if x then seat + 1 else seat) (ne_eqb seat n other) in
          let first = then_is ∙ ap (λ x. if not x && ltb seat c.seats then Goes (Tidies (LoadMark seat))
          else (if ltb (seat + 1) c.seats then Goes (Tidies (LoadMark (seat + 1))) else Goes (Tidies (RaiseGrace sweep2.last.low)))) (ne_eqb seat n other) in
          by order next first
        where
          by : (seat < c.seats) ⊎ (c.seats ≤ seat) → other_from n seat ≡ seat
              → Then_is (if ltb seat c.seats then Goes (Tidies (LoadMark seat))
              else (if ltb (seat + 1) c.seats then Goes (Tidies (LoadMark (seat + 1))) else Goes (Tidies (RaiseGrace sweep2.last.low)))) → Made_so task
          by (inl inside) next first =
              marks seat next inside
              (first ∙ ap (λ x. if x then Goes (Tidies (LoadMark seat))
              else (if ltb (seat + 1) c.seats then Goes (Tidies (LoadMark (seat + 1))) else Goes (Tidies (RaiseGrace sweep2.last.low))))
              (lt-ltb seat c.seats inside))
          by (inr outside) next first =
              ends seat next outside
              (first ∙ ap (λ x. if x then Goes (Tidies (LoadMark seat))
              else (if ltb (seat + 1) c.seats then Goes (Tidies (LoadMark (seat + 1))) else Goes (Tidies (RaiseGrace sweep2.last.low))))
              (le-ltb seat c.seats outside)
              ∙ ap (λ x. if x then Goes (Tidies (LoadMark (seat + 1))) else Goes (Tidies (RaiseGrace sweep2.last.low)))
              (le-ltb (seat + 1) c.seats (omega (arith, outside))))

      go : (seat ≡ n) ⊎ (seat ≢ n) → Made_so task
      go (inl own_is) = own_so own_is (cases_lt (seat + 1) c.seats)
      go (inr other) = other_so other (cases_lt seat c.seats)

      look_made : Made_so task
      look_made = go (dite (ℕ_discrete seat n) (λ e. inl e) (λ ne. inr ne))

    scan_made : v.scan ≡ None → Made_so (Tidies LoadScan)
    scan_made no_scan =
        let of : IsOfKind c s n load_scan (Tidies LoadScan) =
        record { is = refl; may = record { outside = rests.0; no_scan = no_scan }; range = tt; place = refl; writes = λ f. refl; fits = λ f _. tt } in
        let w = view_by c s n load_scan in
        let word = s.memory Clock in
        let time = clock_time_of word in
        let number = number_is c k n made b.each in
        let still = rests_on w refl (logs_left c v w log freed from refl refl refl refl _ refl (refl, refl) rests.2) in
        look_made load_scan (Tidies LoadScan) of (later (record sweep { last = scan_begun word }) word) 0 time time v.grace refl refl
        (ap (λ m. scan_goes c time time (other_from m 0)) number) (ap (λ m. grace_on c v.grace time (other_from m 0)) number) refl still

    mark_made : (seat : ℕ) (scan : Scan) → v.scan ≡ Some scan → scan.next ≡ seat → scan.least ≡ sweep.last.low → seat < c.seats
        → Made_so (Tidies (LoadMark seat))
    mark_made seat scan running next low inside =
        let of : IsOfKind c s n (load_mark seat scan) (Tidies (LoadMark seat)) = record {
          is = (scan, refl);
          may = record { running = running; next = next; in_range = inside };
          range = inside;
          place = refl;
          writes = λ f. refl;
          fits = λ f _. tt;
        } in
        let w = view_by c s n (load_mark seat scan) in
        let mark = s.memory (Mark seat) in
        let least = least_with scan.least mark in
        let number = number_is c k n made b.each in
        let still = rests_on w refl (logs_left c v w log freed from refl refl refl refl _ refl (refl, refl) rests.2) in
        look_made (load_mark seat scan) (Tidies (LoadMark seat)) of (record sweep { last = lowered sweep.last seat mark }) (seat + 1) scan.clock least
        v.grace refl
        refl (ap (λ m. scan_goes c scan.clock least (other_from m (seat + 1))) number) (ap (λ m. grace_on c v.grace least (other_from m (seat + 1))) number)
        (ap (λ x. least_with x mark) low ∙ sym (lowered_low sweep.last seat mark)) still

    raise_made : v.scan ≡ None → (low : ℕ) → low ≡ sweep.last.low → sweep.last.low ≤ v.grace → Made_so (Tidies (RaiseGrace low))
    raise_made no_scan low low_is known =
        let low_small : low ≤ v.grace = omega (arith, low_is, known) in
        let f = facts c k n made b.each in
        let top : v.grace < 2 ^ 64 =
        (let g = (f.grace.views n).0 in let long = f.history.long in let most = f.history.in_time in omega (arith, g, long, most)) in
        let of : IsOfKind c s n (raise_grace low) (Tidies (RaiseGrace low)) = record {
          is = refl;
          may = low_small;
          range = tt;
          place = refl;
          writes = λ f. refl;
          fits = λ found small. omega (arith, small, low_small, top);
        } in
        let w = view_by c s n (raise_grace low) in
        let found = s.memory Grace in
        let still = rests_on w refl (logs_left c v w log freed from refl refl refl refl _ refl (refl, refl) rests.2) in
        let risen : max sweep.last.low found ≤ max v.grace found = omega (arith, known) in
        let within = rests.2.is.within in
        next_is c k n lt made t b (raise_grace low) (Tidies (RaiseGrace low)) of seat_so refl log freed from None Tidy (scanned sweep found) own left
        refl no_scan
        before
        (settle_so c n w log freed from (scanned sweep found) no_scan still (risen, risen) freed (omega arith) within)

    -- the clock is loaded for a rest
    now_made : v.scan ≡ None → Made_so (EndsSection LoadNow)
    now_made no_scan =
        let task = EndsSection LoadNow in
        let of : IsOfKind c s n load_check task = record {
          is = refl;
          may = subst MayLoadCheck (sym rests.0) tt;
          range = tt;
          place = refl;
          writes = λ x. refl;
          fits = λ x _. tt;
        } in
        let w = view_by c s n load_check in
        let word = s.memory Clock in
        let f = facts c k n made b.each in
        let bound : clock_time_of word ≤ 35184372088831 = (let long = f.history.long in let top = f.history.in_time in omega (arith, long, top)) in
        let still = rests_on w refl (logs_left c v w log freed from refl refl refl refl _ refl (refl, refl) rests.2) in
        let loaded : Contains w.clocks.loaded word = Contains-push v.clocks.loaded word in
        let helps : HelpsFor c w log freed from None sweep word Tidy = inr (still, refl) in
        next_is c k n lt made t b load_check task of seat_so refl log freed from None Tidy sweep own left refl no_scan before
        (if_so (GoesSo c n w log freed from None Tidy sweep) (clock_slot_of word == 8191)
        (helped_in Tidy c log (record { seat = n; time = None; from = from; freed = freed; call = Tidy; sweep = sweep }) word) (Goes (Helps (LoadNamed word)))
        (λ nobody. helped_so c n w log freed from None Tidy sweep word bound helps loaded
        (Contains-append_right v.clocks.helped (if_none word ++ checked_helped v.clocks.found word) word
        (Contains-append_left (if_none word) (checked_helped v.clocks.found word) word
        (subst (λ x. Contains (if x then word ∷ [] else []) word) (sym nobody) (Contains-push [] word)))))
        (λ other. by_step (Helps (LoadNamed word)) refl ((loaded, eqb_ne (clock_slot_of word) 8191 other), helps)))

    -- and the rest is made, or another came first
    rest_made : v.scan ≡ None → (word new : ℕ) → Contains v.clocks.loaded word → Contains v.clocks.helped word → clock_time_of word < 35184372088831
        → new ≡ next_clock word n 8191 → Made_so (Tidies (NameRest word new))
    rest_made no_scan word new loaded helped room new_is =
        let task = Tidies (NameRest word new) in
        let kind = name_rest word in
        let seats = k.seats.1 in
        let seat_low : n < 64 = omega (arith, lt, seats) in
        let number = number_is c k n made b.each in
        let new_word : next_clock word n 8191 ≡ clock_of (clock_time_of word + 1) n 8191 = next_is_word c word n room seat_low in
        let word_is : rest_word v word ≡ new = ap (λ m. clock_of (clock_time_of word + 1) m 8191) number ∙ sym new_word ∙ sym new_is in
        let packed = new_is ∙ new_word in
        let of : IsOfKind c s n kind task = record {
          is = refl;
          may = record { outside = rests.0; loaded = loaded; helped = helped; room = room };
          range = tt;
          place = refl;
          writes = λ f. ap (stored_if f word) word_is;
          fits = λ f _. if_so IsStorable (f == word) (Some new) None (λ e. omega (arith, packed, seat_low, room)) (λ e. tt);
        } in
        let found = s.memory Clock in
        let h = s.history in
        let A = rest_named c v word h in
        let B = rest_lost c v found h in
        let l = rests.2.noted in
        let is = rests.2.is in
        let few = rests_room any_start any_commit c v l rests.2.stands ∣ knows c k n made b.each ∣₁ in
        let won : Logs c A log freed from = record {
          noted = rest_noted l;
          stands = stands_rested c v l word h rests.2.stands few;
          is = record { live = is.live; gone = is.gone; within = is.within; unbuilt = is.unbuilt; held = is.held; few = is.few };
        } in
        let lost : Logs c B log freed from = record { noted = l; stands = stands_unrested c v l found h rests.2.stands; is = is } in
        let So : Knowledge → Type 0 = λ u. (u.scan ≡ None) × GoesSo c n u log freed from None Tidy sweep (Goes (Tidies (LoadGrace true))) in
        let both : So (if found == word then A else B) = if_so So (found == word) A B
        (λ e. (no_scan, by_step (Tidies (LoadGrace true)) refl (((rests.0, rests.1, won), refl), refl)))
        (λ e. (no_scan, by_step (Tidies (LoadGrace true)) refl (((rests.0, rests.1, lost), refl), refl))) in
        next_is c k n lt made t b kind task of seat_so refl log freed from None Tidy sweep own left refl both.0 before both.1

  -- one slot more of the oldest write set is freed
  free_made : v.scan ≡ None → (at rest : ℕ) → IsFreeing c v log freed from sweep at rest → Made_so (Tidies (Free at rest))
  free_made no_scan at rest f =
      let l = f.noted in
      let is = f.is in
      let gone = is.gone in
      let at_is = f.at_is in
      let freed_is = f.freed_is in
      let left_is = f.left_is in
      let some = f.some in
      let frees = f.frees in
      let few = few_freed l sweep.bound f.all frees in
      let long = noted_long c l log f.first from is in
      let kind = store_free at in
      let task = Tidies (Free at rest) in
      let place_is : l.freed + f.done ≡ at = omega (arith, gone, at_is, freed_is) in
      let same_view : slots_freed c f.before l.freed f.done ≡ v = ap (λ p. slots_freed c f.before p f.done) gone ∙ sym f.view_is in
      let may : MayStoreFree c v at =
      subst (MayStoreFree c v) place_is
      (subst (λ (u : Knowledge). MayStoreFree c u (l.freed + f.done)) same_view
      (each_may_free c f.before l sweep.bound f.all f.stands f.outside f.bounded frees f.done (omega (arith, left_is, some)))) in
      let slots = k.slots.0 in
      let of : IsOfKind c s n kind task = record {
        is = refl;
        may = may;
        range = (lt, mod-lt at (omega (arith, slots)));
        place = ap (λ m. Stamp m (slot_for c at)) (number_is c k n made b.each);
        writes = λ x. refl;
        fits = λ x _. omega arith;
      } in
      let w = view_by c s n kind in
      let place2 : f.first + f.done ≡ at = omega (arith, at_is, freed_is) in
      let more : w ≡ slots_freed c f.before f.first (f.done + 1) =
      one_freed c f.before v w f.first f.done f.view_is (ap (free_stored c v) (sym place2)) in
      let room : freed < length log = omega (arith, freed_is, left_is, some, few, long) in
      let state2 : State = record { seat = n; time = None; from = from; freed = freed + 1; call = Tidy; sweep = sweep } in
      let is_next : learned task (s.memory (place_in_task c n task)) seat_so ≡ seat_with n log (freed + 1) from None Tidy sweep own left =
      ap (λ x. record seat_so { state = if x then state2 else seat_so.state }) (lt-ltb freed (length log) room) in
      next_is c k n lt made t b kind task of seat_so refl log (freed + 1) from None Tidy sweep own left is_next no_scan before
      (if_so (GoesSo c n w log (freed + 1) from None Tidy sweep) (leb rest 1) (free log state2) (Goes (Tidies (Free (freed + 1) (rest - 1))))
      (λ e.
      let one : rest ≡ 1 = (let le = leb_le rest 1 e in omega (arith, le, some)) in
      let whole : f.done + 1 ≡ f.all = omega (arith, left_is, one) in
      let there : f.first + f.all ≡ freed + 1 = omega (arith, freed_is, whole) in
      let view_now : slots_freed c f.before l.freed f.all ≡ w =
      (λ i. slots_freed c f.before (gone i) (sym whole i)) ∙ sym more in
      let logs2 : Logs c w log (freed + 1) from = record {
        noted = freed_noted l f.all;
        stands = subst (λ (u : Knowledge). Stands c u (freed_noted l f.all)) view_now (stands_freed c f.before l sweep.bound f.all f.stands frees);
        is = record {
          live = ap (drop f.all) is.live ∙ notes_drop f.all f.first (drop f.first log)
              ∙ (λ i. notes_from (there i) (drop_on f.all f.first log i)) ∙ ap (λ p. notes_from (freed + 1) (drop p log)) there;
          gone = omega (arith, gone, there);
          within = omega (arith, room);
          unbuilt = is.unbuilt;
          held = is.held;
          few = is.few;
        };
      } in
      free_so c n w log (freed + 1) from sweep no_scan (f.outside_now, f.nothing, logs2) f.bounded_now)
      (λ e.
      let gt = leb_gt rest 1 e in
      by_step (Tidies (Free (freed + 1) (rest - 1))) refl (
        (
          record {
            before = f.before;
            noted = l;
            stands = f.stands;
            first = f.first;
            is = is;
            outside = f.outside;
            scans = f.scans;
            nothing = f.nothing;
            done = f.done + 1;
            all = f.all;
            frees = frees;
            bounded = f.bounded;
            view_is = more;
            freed_is = omega (arith, freed_is);
            at_is = refl;
            left_is = omega (arith, left_is, gt);
            some = omega (arith, gt);
            outside_now = f.outside_now;
            bounded_now = f.bounded_now;
          },
          refl,
        ),
        refl,
      )))

  pub grace_is : RestsAt c v log freed from None → v.scan ≡ None → (again : Bool) → Made_so (Tidies (LoadGrace again))
  grace_is = grace_made

  pub scan_is : RestsAt c v log freed from None → v.scan ≡ None → Made_so (Tidies LoadScan)
  scan_is = scan_made

  pub mark_is : RestsAt c v log freed from None → (seat : ℕ) (scan : Scan) → v.scan ≡ Some scan → scan.next ≡ seat → scan.least ≡ sweep.last.low
      → seat < c.seats → Made_so (Tidies (LoadMark seat))
  mark_is = mark_made

  pub raise_is : RestsAt c v log freed from None → v.scan ≡ None → (low : ℕ) → low ≡ sweep.last.low → sweep.last.low ≤ v.grace
      → Made_so (Tidies (RaiseGrace low))
  raise_is = raise_made

  pub now_rests : RestsAt c v log freed from None → v.scan ≡ None → Made_so (EndsSection LoadNow)
  now_rests = now_made

  pub rest_is : RestsAt c v log freed from None → v.scan ≡ None → (word new : ℕ) → Contains v.clocks.loaded word → Contains v.clocks.helped word
      → clock_time_of word < 35184372088831 → new ≡ next_clock word n 8191 → Made_so (Tidies (NameRest word new))
  rest_is = rest_made

  pub free_is : v.scan ≡ None → (at rest : ℕ) → IsFreeing c v log freed from sweep at rest → Made_so (Tidies (Free at rest))
  free_is = free_made
