-- The steps of a walk, of a read or of a lock.
use Rattle.std.proofs.Common.{◌≡◌, ◌≢◌, ◌⊎◌, ℕ, ◌+◌, ◌<◌, ◌≤◌, ◌^◌, ◌==◌, ◌&&◌, ltb, leb, not, List, length, Bool, true, false, Option, Some, None, All, ne_eqb}
use Rattle.std.proofs.Common.{replicate, refl, sym, ap, ◌∙◌, subst, arith, inl, inr, if◌then◌else◌, slice_set, mod-lt}
use Rattle.std.specs.Prelude.{unwrap_or}
use Rattle.mv_layout.specs.Words.{link_seat_of, IsUnset}
use Rattle.mv_core.proofs.Terms.{Config, Checked, Head, Master, First, Stamp, Prev, Data, IsPlace}
use Rattle.mv_core.specs.declared.view.Knowledge.{Knowledge}
use Rattle.mv_core.specs.declared.view.OwnSection.{OwnSection}
use Rattle.mv_core.specs.declared.view.Stand.{Stand}
use Rattle.mv_core.specs.declared.view.Passed.TheVariants.{Nothing}
use Rattle.mv_core.specs.declared.view.WalkStage.TheVariants as walk
use Rattle.mv_core.specs.Views.{time_in}
use Rattle.mv_core.specs.WalkSteps.{slot_named, stand_at, passed_too, word_read, words_read, MayLoadMaster, MayLoadData}
use Rattle.mv_core.specs.Rings.{index_of}
use Rattle.mv_core.specs.LockSteps.{StandsToLock}
use Rattle.mv_core.specs.Moves.{Moment, load_head, load_first, load_stamp, load_prev, load_data, load_master}
use Rattle.mv_core.proofs.logs.Links.{names_some, names_link, lives_within}
use Rattle.mv_core.proofs.kinds.walking.Walks.{lives_named, standing_of}
use Rattle.mv_core.proofs.kinds.walking.LoadData.{data_loads}
use Rattle.mv_core.proofs.kinds.walking.LoadMaster.{master_loads}
use Rattle.replay_rules.specs.declared.plan.Call.{Call}
use Rattle.replay_rules.specs.declared.plan.CallOf.{CallOf}
use Rattle.replay_rules.specs.declared.seats.NotedVersion.{NotedVersion}
use Rattle.replay_rules.specs.declared.seats.Sweep.{Sweep}
use Rattle.replay_rules.specs.declared.seats.State.{State}
use Rattle.replay_rules.specs.declared.seats.Walking.{Walking}
use Rattle.replay_rules.specs.declared.seats.Walking.TheVariants.{LoadHead, LoadFirst, LoadStamp, LoadPrev, LoadWord}
use Rattle.replay_rules.specs.declared.seats.Locking.TheVariants as locking
use Rattle.replay_rules.specs.declared.seats.NextStep.{NextStep}
use Rattle.replay_rules.specs.declared.seats.NextStep.TheVariants.{Walks, Locks}
use Rattle.replay_rules.specs.declared.seats.CallAnswer.TheVariants.{SixWords}
use Rattle.replay_rules.specs.declared.seats.Then.TheVariants.{Goes, Ends}
use Rattle.replay_rules.specs.FitPlans.{IsFitCallOf}
use Rattle.replay_rules.specs.GoesOn.{is_lock, is_unset, refusal, new_version, after_words}
use Rattle.replay_rules.specs.States.{any_commit, any_start, zeros, Made, state_of}
use Rattle.replay_rules.specs.Runs.{TapeOf}
use Rattle.replay_rules.specs.Behind.{IsTapeBehind}
use Rattle.replay_rules.proofs.runs.Sections.{seat_with, InSection, WalksFor, StandsAt, WordsSoFar, WalksAt}
use Rattle.replay_rules.proofs.runs.Standing.{StepsSo}
use Rattle.replay_rules.proofs.runs.Standing.{GoesSo, by_step, by_end}
use Rattle.replay_rules.proofs.runs.Stepping.{IsOfKind, view_by, next_is}
use Rattle.replay_rules.proofs.runs.Known.{if_so, ltb_lt, ltb_ge, leb_le, leb_gt, and_right, same_list, facts, view_there, starts, seated, word_small}
use Rattle.replay_rules.proofs.runs.Known.{logs_left}
use Rattle.replay_rules.proofs.runs.Helping.{rests_in}
use Rattle.replay_rules.proofs.runs.WalkFacts.{no_words, one_word, refused, section_stays, stand_so, lock_holds, built_wide}

module _ (c : Config) (k : Checked c) (n : ℕ) (lt : n < c.seats) (made : List Made) (t : TapeOf) (b : IsTapeBehind c t made)
    (log : List NotedVersion) (freed from : ℕ) (time : Option ℕ) (call : Call) (sweep : Sweep) (own : Option NextStep) (left : List CallOf)
    (no_scan : ((state_of c made).seats n).scan ≡ None) (before : All (IsFitCallOf c) left) where
  abbrev s : Moment
  s = state_of c made

  abbrev v : Knowledge
  v = s.seats n

  -- the version that the walk stands at is in a slot of the domain, and the link isn't 0
  pub stands_in : (inside : InSection c v log freed from time) (o link : ℕ) → StandsAt v o link
      → (link_seat_of link < c.seats) × (slot_named c link < c.slots) × (link ≢ 0) × (link < 2 ^ 64)
  stands_in inside o link at =
      let f = facts c k n made b.each in
      let is = view_there c k n made b.each in
      let r = standing_of s.seats v f is inside.section inside.walking.phase at.stand at.at in
      let rings = λ (t : ℕ). (s.seats t).ring in
      let lives = lives_named s.seats f at.stand.link r.version r.status r.names in
      let within = lives_within c s.history rings f.checked f.history.in_time f.positions (link_seat_of at.stand.link) (slot_named c at.stand.link) r.version
      r.status lives in
      let packed = names_link c s.history rings f.checked f.history.in_time f.positions at.stand.link r.version r.status r.names in
      let some = names_some rings at.stand.link r.version r.status r.names in
      let high = packed.0.1 in
      subst (λ l. (link_seat_of l < c.seats) × (slot_named c l < c.slots) × (l ≢ 0) × (l < 2 ^ 64)) at.link_is
      (within.0, within.1, some, omega (arith, high))

  module _ (inside : InSection c v log freed from time) (o : ℕ) (range : o < c.objects) (for : WalksFor c log freed from o call) where
    abbrev i : OwnSection
    i = inside.section

    abbrev Made_so : Walking → Type 0
    Made_so step = StepsSo c n made t (Walks o step) (seat_with n log freed from time call sweep own left)

    head_made : Made_so LoadHead
    head_made =
        let of : IsOfKind c s n (load_head o i) (Walks o LoadHead) =
        record { is = (i, refl); may = inside.walking; range = range; place = refl; writes = λ x. refl; fits = λ x _. tt } in
        let w = view_by c s n (load_head o i) in
        let link = s.memory (Head o) in
        let still = section_stays c v w log freed from time inside refl refl refl
        (logs_left c v w log freed from refl refl refl refl _ refl (refl, refl) inside.logs) in
        next_is c k n lt made t b (load_head o i) (Walks o LoadHead) of (seat_with n log freed from time call sweep own left) refl log freed from time
        call sweep own left
        refl no_scan before
        (stand_so c n w log freed from time call sweep o link Nothing refl (word_small c k n made b.each (Head o)) still range for)

    first_made : (link : ℕ) → StandsAt v o link → Made_so (LoadFirst link)
    first_made link at =
        let in_range = stands_in inside o link at in
        let of : IsOfKind c s n (load_first link at.stand) (Walks o (LoadFirst link)) = record {
          is = (at.stand, refl);
          may = record { stands = at.at; link_is = at.link_is };
          range = (in_range.0, in_range.1);
          place = refl;
          writes = λ x. refl;
          fits = λ x _. tt;
        } in
        let w = view_by c s n (load_first link at.stand) in
        let still = section_stays c v w log freed from time inside refl refl refl
        (logs_left c v w log freed from refl refl refl refl _ refl (refl, refl) inside.logs) in
        next_is c k n lt made t b (load_first link at.stand) (Walks o (LoadFirst link)) of (seat_with n log freed from time call sweep own left) refl
        log freed from time
        call sweep own left refl no_scan before
        (by_step (Walks o (LoadStamp link (s.memory (First (link_seat_of link) (slot_named c link))))) refl
        (still, range, for, (record { stand = _; at = refl; object_is = at.object_is; link_is = at.link_is }, refl)))

    -- a stamp that is a time up to the section's is that of the version read
    stamp_made : (link first : ℕ) (at : StandsAt v o link) → at.stand.first ≡ Some first → Made_so (LoadStamp link first)
    stamp_made link first at first_is =
        let in_range = stands_in inside o link at in
        let slots = k.slots.0 in
        let of : IsOfKind c s n (load_stamp link first at.stand) (Walks o (LoadStamp link first)) = record {
          is = (at.stand, refl);
          may = record { stands = at.at; link_is = at.link_is; first_is = first_is };
          range = (in_range.0, mod-lt first (omega (arith, slots)));
          place = refl;
          writes = λ x. refl;
          fits = λ x _. tt;
        } in
        let w = view_by c s n (load_stamp link first at.stand) in
        let found = s.memory (Stamp (link_seat_of link) (index_of c first)) in
        let still = section_stays c v w log freed from time inside refl refl refl
        (logs_left c v w log freed from refl refl refl refl _ refl (refl, refl) inside.logs) in
        let stands : StandsAt w o link =
        record { stand = record at.stand { stamp = Some found }; at = refl; object_is = at.object_is; link_is = at.link_is } in
        let limit : unwrap_or time 0 ≡ time_in i = ap (λ x. unwrap_or x 0) inside.time_is in
        next_is c k n lt made t b (load_stamp link first at.stand) (Walks o (LoadStamp link first)) of
        (seat_with n log freed from time call sweep own left) refl log freed
        from time call sweep own left refl no_scan before
        (if_so (GoesSo c n w log freed from time call sweep) (not (is_unset found) && leb found (unwrap_or time 0))
        (Goes (Walks o (LoadWord link (replicate 6 0) 0)))
        (if is_lock call then refusal link found else Goes (Walks o (LoadPrev link)))
        (λ e.
        let le = leb_le found (unwrap_or time 0) (and_right (not (is_unset found)) (leb found (unwrap_or time 0)) e) in
        by_step (Walks o (LoadWord link (replicate 6 0) 0)) refl (
          still,
          range,
          for,
          (
            omega arith,
            in_range.3,
            inr (record at.stand { stamp = Some found }, found, refl, at.object_is, at.link_is, refl, omega (arith, le, limit)),
            no_words c w i o,
          ),
        ))
        (λ e. if_so (GoesSo c n w log freed from time call sweep) (is_lock call) (refusal link found) (Goes (Walks o (LoadPrev link)))
        (λ lock. refused c n w log freed from time call sweep link found still)
        (λ read. by_step (Walks o (LoadPrev link)) refl
        (still, range, for, (stands, found, refl, goes (is_unset found) refl (leb found (unwrap_or time 0)) refl e limit)))))
      where
        goes : (u : Bool) {found : ℕ} → is_unset found ≡ u → (l : Bool) → leb found (unwrap_or time 0) ≡ l → (not u && l) ≡ false
            → unwrap_or time 0 ≡ time_in inside.section → IsUnset found ⊎ (time_in inside.section < found)
        goes true {found} p l q e limit = inl (leb_le 9223372036854775808 found p)
        goes false {found} p true q e limit = absurd (cc)
        goes false {found} p false q e limit = inr (let gt = leb_gt found (unwrap_or time 0) q in omega (arith, gt, limit))

    prev_made : (link : ℕ) (at : StandsAt v o link) (found : ℕ) → at.stand.stamp ≡ Some found → IsUnset found ⊎ (time_in inside.section < found)
        → Made_so (LoadPrev link)
    prev_made link at found stamp_is on =
        let in_range = stands_in inside o link at in
        let of : IsOfKind c s n (load_prev link at.stand) (Walks o (LoadPrev link)) = record {
          is = (at.stand, refl);
          may = record {
            inside = i;
            phase = inside.walking.phase;
            stands = at.at;
            link_is = at.link_is;
            found = found;
            stamp_is = stamp_is;
            goes_on = on;
          };
          range = (in_range.0, in_range.1);
          place = refl;
          writes = λ x. refl;
          fits = λ x _. tt;
        } in
        let w = view_by c s n (load_prev link at.stand) in
        let below = s.memory (Prev (link_seat_of link) (slot_named c link)) in
        let still = section_stays c v w log freed from time inside refl refl refl
        (logs_left c v w log freed from refl refl refl refl _ refl (refl, refl) inside.logs) in
        next_is c k n lt made t b (load_prev link at.stand) (Walks o (LoadPrev link)) of (seat_with n log freed from time call sweep own left) refl log
        freed from time call
        sweep own left refl no_scan before
        (stand_so c n w log freed from time call sweep o below (passed_too at.stand.passed at.stand.stamp)
        (ap (λ x. stand_at x below (passed_too at.stand.passed at.stand.stamp) false) at.object_is)
        (word_small c k n made b.each (Prev (link_seat_of link) (slot_named c link))) still range for)

    -- all words are read: a read answers them, and a lock builds its version
    words_so : (v2 : Knowledge) (link : ℕ) (words : List ℕ) → (still : InSection c v2 log freed from time) → link < 2 ^ 64
        → StandsToLock v2 still.section o link
        → WordsSoFar c v2 still.section o words 6 → length (words_read c v2 still.section o) ≡ 6
        → GoesSo c n v2 log freed from time call sweep
        (after_words log (record { seat = n; time = time; from = from; freed = freed; call = call; sweep = sweep }) o link words)
    words_so v2 link words still small stands so wide =
        let state : State = record { seat = n; time = time; from = from; freed = freed; call = call; sweep = sweep } in
        if_so (GoesSo c n v2 log freed from time call sweep) (is_lock call) (Goes (Locks (new_version state o link words) (length log) (locking.Build 0)))
        (Ends (SixWords words))
        (λ lock.
        let may = lock_holds c log freed from o call lock for in
        by_step (Locks (new_version state o link words) (length log) (locking.Build 0)) refl (
          record {
            inside = still;
            object = o;
            range = range;
            may = may;
            builds = record {
              object_is = refl;
              at_is = refl;
              first_is = refl;
              words = same_list 0 words (words_read c v2 still.section o) (so.wide ∙ sym wide)
                  (λ j in_words. so.are j (let long = so.wide in omega (arith, in_words, long)));
              wide = so.wide;
              small = so.small;
              small_link = small;
              no_time = refl;
              no_death = refl;
            };
            locks = (
              omega arith,
              (λ (z : 0 ≡ 1). absurd (omega (arith, z))),
              stands,
              record {
                wide = built_wide c v2 log freed from still.logs may.room;
                first = λ z. absurd (omega (arith, z));
                stamp = λ z. absurd (omega (arith, z));
                previous = λ z. absurd (omega (arith, z));
                successor = λ z. absurd (omega (arith, z));
                words = λ j z. absurd (omega (arith, z));
              },
            );
          },
          lock,
        ))
        (λ read. by_end (SixWords words) refl (rests_in c v2 log freed from time still))

    -- one word more is read
    word_so : (v2 : Knowledge) (link : ℕ) (words : List ℕ) (w found : ℕ) → (still : InSection c v2 log freed from time) → link < 2 ^ 64
        → StandsToLock v2 still.section o link
        → w < 6 → found < 2 ^ 64 → found ≡ word_read c v2 still.section o w → WordsSoFar c v2 still.section o words w
        → length (words_read c v2 still.section o) ≡ 6
        → GoesSo c n v2 log freed from time call sweep
        (if ltb w 5 then Goes (Walks o (LoadWord link (slice_set words w found) (w + 1)))
        else after_words log (record { seat = n; time = time; from = from; freed = freed; call = call; sweep = sweep }) o link (slice_set words w found))
    word_so v2 link words w found still small stands less fits is so wide =
        let more = one_word c v2 still.section o words w found less fits is so in
        if_so (GoesSo c n v2 log freed from time call sweep) (ltb w 5) (Goes (Walks o (LoadWord link (slice_set words w found) (w + 1))))
        (after_words log (record { seat = n; time = time; from = from; freed = freed; call = call; sweep = sweep }) o link (slice_set words w found))
        (λ e. let on = ltb_lt w 5 e in by_step (Walks o (LoadWord link (slice_set words w found) (w + 1))) refl
        (still, range, for, (omega (arith, on), small, stands, more)))
        (λ e. let last : w + 1 ≡ 6 = (let ge = ltb_ge w 5 e in omega (arith, ge, less)) in
        words_so v2 link (slice_set words w found) still small stands (subst (WordsSoFar c v2 still.section o (slice_set words w found)) last more) wide)

    master_made : (words : List ℕ) (w : ℕ) → w < 6 → v.walk ≡ walk.Master o → WordsSoFar c v i o words w → Made_so (LoadWord 0 words w)
    master_made words w less stands so =
        let may : (o < c.objects) × MayLoadMaster v o w i = (range, record { phase = inside.walking.phase; stands = stands; in_range = less }) in
        let of : IsOfKind c s n (load_master o w i) (Walks o (LoadWord 0 words w)) =
        record { is = inl (refl, (i, refl)); may = may; range = (range, less); place = refl; writes = λ x. refl; fits = λ x _. tt } in
        let v2 = view_by c s n (load_master o w i) in
        let found = s.memory (Master o w) in
        let small = word_small c k n made b.each (Master o w) in
        let told = (master_loads any_start any_commit c (zeros c) v o w i range may.1 s.memory s.history s.seats (facts c k n made b.each)
        (view_there c k n made b.each) (seated c k n made b.each lt) (starts c k n made b.each) small).2.0.0 in
        let still = section_stays c v v2 log freed from time inside refl refl refl
        (logs_left c v v2 log freed from refl refl refl refl _ refl (refl, refl) inside.logs) in
        next_is c k n lt made t b (load_master o w i) (Walks o (LoadWord 0 words w)) of (seat_with n log freed from time call sweep own left) refl log
        freed from time call
        sweep own left refl no_scan before
        (word_so v2 0 words w found still (omega arith) (inl (stands, refl)) less small told.1
        (record { wide = so.wide; small = so.small; are = so.are }) told.2)

    data_made : (link : ℕ) (words : List ℕ) (w : ℕ) → w < 6 → link < 2 ^ 64
        → ((stand : Stand) × (found : ℕ) × (v.walk ≡ walk.At stand) × (stand.object ≡ o) × (stand.link ≡ link) × (stand.stamp ≡ Some found)
        × (found ≤ time_in inside.section)) → WordsSoFar c v i o words w → Made_so (LoadWord link words w)
    data_made link words w less small_link at so =
        let in_range = stands_in inside o link (record { stand = at.0; at = at.2; object_is = at.3; link_is = at.4 }) in
        let may : MayLoadData v link w at.0 i = record {
          phase = inside.walking.phase;
          stands = at.2;
          link_is = at.4;
          found = at.1;
          stamp_is = at.5;
          time_is = at.6;
          in_range = less;
        } in
        let there : (if link == 0 then Master o w else Data (link_seat_of link) (slot_named c link) w) ≡ Data (link_seat_of link) (slot_named c link) w =
        ap (λ x. if x then Master o w else Data (link_seat_of link) (slot_named c link) w) (ne_eqb link 0 in_range.2) in
        let of : IsOfKind c s n (load_data link w at.0 i) (Walks o (LoadWord link words w)) = record {
          is = inr (at.0, i, refl);
          may = may;
          range = subst (IsPlace c) (sym there) (in_range.0, in_range.1, less);
          place = sym there;
          writes = λ x. refl;
          fits = λ x _. tt;
        } in
        let v2 = view_by c s n (load_data link w at.0 i) in
        let found = s.memory (Data (link_seat_of link) (slot_named c link) w) in
        let small = word_small c k n made b.each (Data (link_seat_of link) (slot_named c link) w) in
        let told = (data_loads any_start any_commit c (zeros c) v link w at.0 i may s.memory s.history s.seats (facts c k n made b.each)
        (view_there c k n made b.each) (seated c k n made b.each lt) (starts c k n made b.each) small).2.0.0 in
        let still = section_stays c v v2 log freed from time inside refl refl refl
        (logs_left c v v2 log freed from refl refl refl refl _ refl (refl, refl) inside.logs) in
        let state : State = record { seat = n; time = time; from = from; freed = freed; call = call; sweep = sweep } in
        next_is c k n lt made t b (load_data link w at.0 i) (Walks o (LoadWord link words w)) of (seat_with n log freed from time call sweep own left)
        refl log freed from
        time call sweep own left refl no_scan before
        (subst (λ p. GoesSo c n v2 log freed from time call sweep
        (if ltb w 5 then Goes (Walks o (LoadWord link (slice_set words w (s.memory p)) (w + 1)))
        else after_words log state o link (slice_set words w (s.memory p)))) (sym there)
        (word_so v2 link words w found still small_link (inr at) less small (told.1 ∙ ap (λ x. word_read c v i x w) at.3)
        (record { wide = so.wide; small = so.small; are = so.are }) (ap (λ x. length (words_read c v i x)) (sym at.3) ∙ told.2)))

    word_made : (link : ℕ) (words : List ℕ) (w : ℕ) → w < 6 → link < 2 ^ 64 → StandsToLock v i o link → WordsSoFar c v i o words w
        → Made_so (LoadWord link words w)
    word_made link words w less small (inl at) so = subst (λ l. Made_so (LoadWord l words w)) (sym at.1) (master_made words w less at.0 so)
    word_made link words w less small (inr at) so = data_made link words w less small at so

    pub walking_made : (step : Walking) → WalksAt c v i o step → Made_so step
    walking_made LoadHead at = head_made
    walking_made (LoadFirst link) at = first_made link at
    walking_made (LoadStamp link first) at = stamp_made link first at.0 at.1
    walking_made (LoadPrev link) at = prev_made link at.0 at.1 at.2 at.3
    walking_made (LoadWord link words w) at = word_made link words w at.0 at.1 at.2 at.3
