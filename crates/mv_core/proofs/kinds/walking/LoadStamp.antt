-- load STAMP: what is found is the stamp of the version that the walk stands at, and a time found is seen.
use Rattle.std.proofs.Common.{◌≡◌, ℕ, zero, suc, ◌+◌, ◌-◌, ◌<◌, ◌≤◌, ◌^◌, true, List, [], ◌∷◌, ◌++◌, length, take, drop, Some, None, sym, refl, ap, ◌∙◌, subst}
use Rattle.std.proofs.Common.{inl, inr, ⊎_elim, arith, take-append-drop, append-nil, length-take, length-append}
use Rattle.std.specs.Prelude.{slice_get}
use Rattle.std.proofs.Math.Seq.{take-append-add}
use Rattle.mv_core.proofs.Terms.{dec_lt, dec_le, dite, Entry, State, Writes, Config, Clock, Stamp, Memory, link_seat_of, IsUnset, Knowledge, OwnSection, Stand}
use Rattle.mv_core.proofs.Terms.{Past}
use Rattle.mv_core.proofs.Terms.{Inside, Version, WriteSetStatus, Held, Aborted, Committed, CommitNote, Lives, index_of, parts_of, time_in, time_of, set_at}
use Rattle.mv_core.proofs.Terms.{IsEntry}
use Rattle.mv_core.proofs.Terms.{writes_to, section_of, slot_at, Open, Named, Live}
use Rattle.mv_core.specs.declared.view.WalkStage.TheVariants as walk
use Rattle.mv_core.proofs.FactTerms.{HasPassed, IsBelowPassed, IsPastHelp, BeginsWith, StampedAs, stamp_of, RunsOn, Facts, Loads, IsKept}
use Rattle.mv_core.proofs.logs.Written.{version_writes, commit_within}
use Rattle.mv_core.specs.WalkSteps.{MayLoadStamp, SeesStamp, StampSays, IsOwnTime, stamp_loaded, slot_named}
use Rattle.mv_core.proofs.frames.FrameLaw.{set_at_all}
use Rattle.mv_core.proofs.logs.Links.{live_once}
use Rattle.mv_core.proofs.history.SectionWords.{section_is}
use Rattle.mv_core.proofs.kinds.walking.Walks.{lives_named, Standing, section_there, standing_of, walked}
use Rattle.mv_core.proofs.logs.SeenDeaths.{sees_on}
use Rattle.mv_core.proofs.history.LongerSeen.{sees_more}

-- a stamp that is a time is that of a commit
stamped_time : (clock s k stamp first : ℕ) (st : WriteSetStatus) → StampedAs clock s k stamp first st → stamp < 2 ^ 63
    → (note : CommitNote) × (st ≡ Committed note) × (note.time ≡ stamp)
stamped_time clock s k stamp first Held e low = absurd (omega arith)
stamped_time clock s k stamp first (Aborted dead) e low = absurd (omega arith)
stamped_time clock s k stamp first (Committed note) e low = (note, refl, ⊎_elim (λ is. sym is) (λ u. let v = u.0 in absurd (omega arith)) e)

-- a longer beginning of a list begins with a shorter one
begins_take : (h seen : List Entry) (n : ℕ) → BeginsWith h seen → length seen ≤ n → BeginsWith (take n h) seen
begins_take h seen n front le =
    let j : ℕ = n - length seen in
    let is : n ≡ length seen + j = omega arith in
    (take j front.0, ap (take n) front.1 ∙ ap (λ i. take i (seen ++ front.0)) is ∙ take-append-add seen front.0 j)

-- how much is seen where this was found, a time in the history or no time
pub seen_to : (c : Config) (v : Knowledge) (h : List Entry) (found : ℕ) → BeginsWith h v.past.seen → (found < 2 ^ 63 → found ≤ c.base + length h)
    → (seen : List Entry) × BeginsWith h seen × SeesStamp c v found seen
seen_to c v h found front within =
    let old = v.past.seen in
    dite (dec_lt found (2 ^ 63))
    (λ low.
    dite (dec_le found (c.base + length old))
    (λ le. (old, front, record { more = ([], sym (append-nil old)); time = λ l. le; least = inl refl }))
    (λ gt.
    let n : ℕ = found - c.base in
    let le = within low in
    let long : length (take n h) ≡ n = omega (arith, length-take n h) in (
      take n h,
      (drop n h, sym (take-append-drop n h)),
      record { more = begins_take h old n front (omega arith); time = λ l. omega arith; least = inr (omega arith) },
    )))
    (λ high. (old, front, record { more = ([], sym (append-nil old)); time = λ l. absurd (high l); least = inl refl }))

pub slice_get-front : (xs ys : List Entry) (i : ℕ) → i < length xs → slice_get (xs ++ ys) i ≡ slice_get xs i
slice_get-front [] ys i lt = absurd (omega arith)
slice_get-front (x ∷ xs) ys zero lt = refl
slice_get-front (x ∷ xs) ys (suc i) lt = slice_get-front xs ys i (omega arith)

-- an entry of the history up to a time that was seen was seen
pub entry_seen : (base : ℕ) (h seen : List Entry) (t : ℕ) (e : Entry) → BeginsWith h seen → t ≤ base + length seen → IsEntry base h t e → IsEntry base seen t e
entry_seen base h seen t e front le is =
    let low = is.0 in
    (low, sym (slice_get-front seen front.0 (t - (base + 1)) (omega arith)) ∙ ap (λ l. slice_get l (t - (base + 1))) (sym front.1) ∙ is.1)

module _ {starts : State → Type 0} {allows : List ℕ → State → Writes → Type 0} {c : Config} {start : State} {m : Memory} {h : List Entry}
    (seats : ℕ → Knowledge)
    (k : Facts starts allows c start m h (parts_of seats)) (v : Knowledge) (is : seats v.number ≡ v) where
  -- a seat that sees more has seen its section's time still
  pub seen_by_all : (seen : List Entry) → BeginsWith seen v.past.seen → (u t : ℕ) → time_of (seats u).phase ≡ Some t
      → t ≤ c.base + length (set_at (λ q. (seats q).past) v.number (record v.past { seen = seen }) u).seen
  seen_by_all seen more u t =
      set_at_all (λ u (p : Past). time_of (seats u).phase ≡ Some t → t ≤ c.base + length p.seen) (λ q. (seats q).past) v.number (record v.past { seen = seen })
      (λ e.
      let old = subst (λ (q : Knowledge). t ≤ c.base + length q.past.seen) is (k.phases_and_scan.seen v.number t e) in
      let longer : length seen ≡ length v.past.seen + length more.0 = ap length more.1 ∙ length-append v.past.seen more.0 in
      omega arith)
      (λ u ne. k.phases_and_scan.seen u t) u

  -- the seat stands at a version of which it found FIRST, and n is the stamp there
  module _ (inside : OwnSection) (phase : v.phase ≡ Inside inside) (stand : Stand) (r : Standing c start m h (λ t. (seats t).ring) v.clocks inside stand)
      (n : ℕ)
      (found_is : n ≡ stamp_of c (λ t j. m (Stamp t j)) (link_seat_of stand.link) r.version) where
    abbrev seat : ℕ
    seat = link_seat_of stand.link

    lives : Lives (λ t. (seats t).ring) seat (slot_named c stand.link) r.version r.status
    lives = lives_named seats k stand.link r.version r.status r.names

    committed : (note : CommitNote) → r.status ≡ Committed note → Lives (λ t. (seats t).ring) seat (slot_named c stand.link) r.version (Committed note)
    committed note e = subst (Lives (λ t. (seats t).ring) seat (slot_named c stand.link) r.version) e lives

    within : (note : CommitNote) → r.status ≡ Committed note → (note.time ≤ c.base + length h) × (note.time < 2 ^ 63)
    within note e =
        let t = (commit_within c h (λ u. (seats u).ring) k.write_sets seat (slot_named c stand.link) r.version note (committed note e)).1 in let top =
        k.history.in_time in (t, omega arith)

    by_time : n < 2 ^ 63 → (note : CommitNote) × (r.status ≡ Committed note) × (note.time ≡ n)
    by_time low =
        let x : Version = r.version in
        let t = stamped_time (m Clock) seat (index_of c x.first) (stamp_of c (λ t j. m (Stamp t j)) seat x) x.first r.status
        (k.stamps.live seat (slot_named c stand.link) x r.status lives) (subst (λ (q : ℕ). q < 2 ^ 63) found_is low) in
        (t.0, t.1, t.2 ∙ sym found_is)

    in_history : n < 2 ^ 63 → n ≤ c.base + length h
    in_history low = let t = by_time low in let e = t.2 in let w = (within t.0 t.1).0 in omega arith

    passed_low : HasPassed stand.passed → (n < 2 ^ 63) × IsBelowPassed n stand.passed
    passed_low passed =
        let f = r.falls passed in
        let e : n ≡ f.0.time = found_is ∙ f.2 in
        let w = (within f.0 f.1).1 in
        (omega arith, subst (λ (t : ℕ). IsBelowPassed t stand.passed) (sym e) f.3)

    -- a commit of the own log is stamped while the section is open
    own_time : IsOwnTime c v stand.link n
    own_time at x note there in_it phase_is open_is =
        let there_too : slot_at v.ring (slot_named c stand.link) ≡ Live r.version r.status =
        ap (λ (u : Knowledge). slot_at u.ring (slot_named c stand.link)) (sym is) ∙ ap (λ (s : ℕ). slot_at (seats s).ring (slot_named c stand.link)) (sym at)
        ∙ lives in
        let st = (live_once (slot_at v.ring (slot_named c stand.link)) r.version x r.status (Committed note) there_too there).1 in
        dite (dec_lt n (2 ^ 63)) (λ low. low)
        (λ high.
        let w = (within note st).1 in
        let u = k.unstamped_is_unfinished seat (slot_named c stand.link) r.version note (committed note st) (λ made. let e = found_is in omega arith) in
        let here : section_of v.phase ≡ Some u.0 = ap (λ (q : Knowledge). section_of q.phase) (sym is)
        ∙ ap (λ (s : ℕ). section_of (seats s).phase) (sym at) ∙ u.2 in
        let same : Some in_it ≡ Some u.0 = ap section_of (sym phase_is) ∙ here in
        let one : in_it ≡ u.0 = cc in
        let clash : Open ≡ Named u.1 = sym open_is ∙ ap (λ (q : OwnSection). q.mode) one ∙ u.3 in absurd (cc))

    -- past its help a section finds each commit up to its time stamped
    unset_late : (note : CommitNote) → IsUnset n → r.status ≡ Committed note → time_in inside < note.time
    unset_late note high st =
        let w = (within note st).1 in
        dite (dec_lt (time_in inside) note.time) (λ lt. lt)
        (λ ge.
        let is_time =
        k.stamped_past_help v.number inside (section_is seats v inside k is phase) (subst (λ (u : Knowledge). IsPastHelp u.clocks inside) (sym is) r.helped)
        seat (slot_named c stand.link) r.version note (committed note st) (omega arith) in
        absurd (omega arith))

    stamp_stands : Standing c start m h (λ t. (seats t).ring) v.clocks inside (record stand { stamp = Some n })
    stamp_stands = record {
      version = r.version;
      status = r.status;
      names = r.names;
      object_is = r.object_is;
      may = r.may;
      helped = r.helped;
      death = r.death;
      below = r.below;
      first = r.first;
      stamp = λ found e low. let same : n ≡ found = cc in let t = by_time (omega arith) in (t.0, t.1, t.2 ∙ same);
      unset = λ found note e high st. let same : n ≡ found = cc in unset_late note (omega arith) st;
      falls = r.falls;
      found = λ found passed e. let same : n ≡ found = cc in let low = (passed_low passed).0 in omega arith;
      late = r.late;
    }

    stamp_says : (seen : List Entry) → BeginsWith h seen → SeesStamp c v n seen → StampSays c v stand n seen
    stamp_says seen front sees = record {
      sees = sees;
      write = λ low.
          let t = by_time low in
          let w = version_writes c h (λ u. (seats u).ring) k.write_sets seat (slot_named c stand.link) r.version t.0 (committed t.0 t.1) in (
            w.0,
            entry_seen c.base h seen n w.0 front (sees.time low) (subst (λ (u : ℕ). IsEntry c.base h u w.0) t.2 w.1),
            subst (λ (o : ℕ). writes_to o w.0 ≡ true) r.object_is w.2,
          );
      falls = passed_low;
      late = λ in_it phase_is late low.
          let same : inside ≡ in_it = (let e : Inside inside ≡ Inside in_it = sym phase ∙ phase_is in cc) in
          let t = by_time low in
          subst (λ (u : ℕ). time_in in_it < u) t.2 (subst (λ (q : OwnSection). time_in q < t.0.time) same (r.late t.0 late t.1));
    }

    -- the rule after the load, which sees this much
    stamp_rule : (first : ℕ) (seen : List Entry) → BeginsWith h seen → SeesStamp c v n seen
        → Facts starts allows c start m h (parts_of (set_at seats v.number (stamp_loaded c v stand first n seen)))
    stamp_rule first seen front sees =
        let p : Past = record v.past { seen = seen } in
        walked seats v k is inside phase (walk.At (record stand { stamp = Some n })) stamp_stands (stamp_loaded c v stand first n seen) (Some p) None
        (refl, refl, refl, refl, refl, refl, refl, refl, refl, refl, refl)
        (sees_more starts allows c start (m Clock) h (λ q. (seats q).past) v.number v.past (ap (λ (u : Knowledge). u.past) is) k.history seen front sees.more)
        (seen_by_all seen sees.more) k.succeeded_has_super
        (sees_on c (λ q. (seats q).past) (λ q. (seats q).ring) v.number p (subst (λ (u : Knowledge). BeginsWith seen u.past.seen) (sym is) sees.more)
        k.deaths_seen)

module _ (starts : State → Type 0) (allows : List ℕ → State → Writes → Type 0) (c : Config) (start : State) (v : Knowledge) (first : ℕ) (stand : Stand) where
  stamp_loads_there : MayLoadStamp v stand.link first stand
      → Loads starts allows c start v (Stamp (link_seat_of stand.link) (index_of c first))
      (λ n w. (((w ≡ stamp_loaded c v stand first n w.past.seen) × StampSays c v stand n w.past.seen × IsOwnTime c v stand.link n) × RunsOn v w) × IsKept v w)
  stamp_loads_there may m h seats k is own begins small =
      let n : ℕ = m (Stamp (link_seat_of stand.link) (index_of c first)) in
      let there = section_there seats v k is stand may.stands in
      let r = standing_of seats v k is there.0 there.1 stand may.stands in
      let found_is : n ≡ stamp_of c (λ t j. m (Stamp t j)) (link_seat_of stand.link) r.version =
      ap (λ p. m (Stamp (link_seat_of stand.link) (index_of c p))) (r.first first may.first_is) in
      let front : BeginsWith h v.past.seen = subst (λ (u : Knowledge). BeginsWith h u.past.seen) is (k.history.seats v.number).seen in
      let to = seen_to c v h n front (in_history seats k v is there.0 there.1 stand r n found_is) in
      let w : Knowledge = stamp_loaded c v stand first n to.0 in (
        w,
        stamp_rule seats k v is there.0 there.1 stand r n found_is first to.0 to.1 to.2,
        (
          (
            (
              refl {a = w},
              stamp_says seats k v is there.0 there.1 stand r n found_is to.0 to.1 to.2,
              own_time seats k v is there.0 there.1 stand r n found_is,
            ),
            (λ t f a b. (a, b)),
          ),
          (refl {a = v.number}, refl {a = v.start}, refl {a = v.base}, refl {a = v.made}, refl {a = v.notes}, refl {a = v.spent}),
        ),
      )

  pub stamp_loads : (link : ℕ) → MayLoadStamp v link first stand
      → Loads starts allows c start v (Stamp (link_seat_of link) (index_of c first))
      (λ n w. (((w ≡ stamp_loaded c v stand first n w.past.seen) × StampSays c v stand n w.past.seen × IsOwnTime c v link n) × RunsOn v w) × IsKept v w)
  stamp_loads link may =
      subst (λ (l : ℕ). Loads starts allows c start v (Stamp (link_seat_of l) (index_of c first))
      (λ n w. (((w ≡ stamp_loaded c v stand first n w.past.seen) × StampSays c v stand n w.past.seen × IsOwnTime c v l n) × RunsOn v w) × IsKept v w))
      may.link_is (stamp_loads_there (record { stands = may.stands; link_is = refl; first_is = may.first_is }))
