-- load CLOCK (time a dead version): the own aborted and cut versions that wait for it are dead from the time after the clock's, and their seat sees the whole
-- history.
use Rattle.std.proofs.Common.{◌≡◌, ◌≢◌, ◌⊎◌, ℕ, ◌+◌, ◌-◌, ◌/◌, ◌<◌, ◌≤◌, false, List, ◌++◌}
use Rattle.std.proofs.Common.{length, map, length-append, refl, sym, ap, ◌∙◌, subst, inl, inr, ⊎_elim, arith, Option, Some}
use Rattle.mv_core.proofs.Terms.{Entry, State, Writes, Config, Clock, First, Prev, Super, Data, Memory, clock_time_of, Ring, Slot, Free, Built, Live}
use Rattle.mv_core.proofs.Terms.{Freeing, Version, WriteSetStatus, Held, Aborted, Committed, CommitNote, Knowledge, Past, slot_at, is_held, held_count, Lives}
use Rattle.mv_core.proofs.Terms.{Names, ViewParts, parts_of}
use Rattle.mv_core.proofs.FactTerms.{HoldsSlot, SlotWords, IsWord, IsBeforeDeath, WalkerBeforeDeath, Deaths, DeathSeen, DeathsSeen, DeathAfterWrite}
use Rattle.mv_core.proofs.FactTerms.{SuccessorFlag, RunsOn, Facts, Loads, IsKept}
use Rattle.mv_core.specs.EnterSteps.{IsWhole}
use Rattle.mv_core.specs.LockSteps.{timed_status, timed, death_loaded}
use Rattle.mv_core.proofs.frames.FrameLaw.{set_at_here, unchanged, changed, settle}
use Rattle.mv_core.proofs.logs.BelowCommit.{link_below}
use Rattle.mv_core.proofs.logs.Written.{commit_within}
use Rattle.mv_core.proofs.frames.ClockLoads.{whole_seen}
use Rattle.mv_core.proofs.logs.Counts.{held_mapped}
use Rattle.mv_core.proofs.logs.Slots.{Matches, match_weaker, match_map, mapped, slots_mapped}
use Rattle.mv_core.proofs.frames.Matching.{LivesOn, Alike, names_back}
use Rattle.mv_core.proofs.kinds.building.DeathNotes.{timed_back, aborted_was, timed_note, committed_was, note_time, note_cut, note_linked, note_uncut}
use Rattle.mv_core.proofs.kinds.building.DeathNotes.{dead_is, note_dead, before_timed, timed_seen, Timed, timed_self, timed_place, timed_alike}
use Rattle.mv_core.proofs.frames.MatchedFacts.{same_stamp_facts}
use Rattle.mv_core.proofs.frames.InPlace.{IsUnlived, StaysInPlace, in_place_map, in_place_facts}

module _ {starts : State → Type 0} {allows : List ℕ → State → Writes → Type 0} {c : Config} {start : State} {m : Memory} {h : List Entry} {f : ViewParts}
    (k : Facts starts allows c start m h f) where
  module _ (n : ℕ) where
    abbrev d : ℕ
    d = clock_time_of (m Clock) + 1

    abbrev rings : ℕ → Ring
    rings = mapped f.ring n (timed d) refl

    matches : Matches (Timed d) f.ring rings
    matches = match_map (Timed d) (timed_self d) f.ring n (timed d) refl
        (λ z y st e. (y, timed_status d st, ap (timed d) e, (refl, inr refl)))
        (λ z x su e. let b = timed_back d z x su e in (x, b.0, b.1, (refl, inr (sym b.2))))

    alike : Matches Alike f.ring rings
    alike = match_weaker (Timed d) Alike f.ring rings (timed_alike d) matches

    -- what holds of each slot of the log, and of each other, holds of all
    all_slots : (P : ℕ → ℕ → Slot → Type 0) → ((j : ℕ) → P n j (timed d (slot_at (f.ring n) j))) → ((s j : ℕ) → s ≢ n → P s j (slot_at (f.ring s) j))
        → (s j : ℕ) → P s j (slot_at (rings s) j)
    all_slots = slots_mapped f.ring n (timed d) refl

    now_is : clock_time_of (m Clock) ≡ c.base + length h
    now_is = k.history.long

    -- the time of a section isn't above the clock's
    section_time : (s t : ℕ) → f.time s ≡ Some t → t < d
    section_time s t e =
        let front = (k.history.seats s).seen in
        let long : length h ≡ length (f.past s).seen + length front.0 = ap length front.1 ∙ length-append (f.past s).seen front.0 in
        let le = k.phases_and_scan.seen s t e in
        let now = now_is in
        omega arith

    -- a commit's time isn't either
    commit_time : (s j : ℕ) (x : Version) (note : CommitNote) → Lives f.ring s j x (Committed note) → note.time < d
    commit_time s j x note lives = let t = (commit_within c h f.ring k.write_sets s j x note lives).1 in let now = now_is in omega arith

    -- nor is the time of the round that a position is of
    round_time : (s j : ℕ) (x : Version) (st : WriteSetStatus) → Lives f.ring s j x st → c.base + x.position / c.slots < d
    round_time s j x st lives = let low = k.positions_and_grace.live s j x st lives in let known = (k.grace.views s).0 in omega arith

    -- an aborted version had its death before, or has the new one
    aborted_back : (s j dead : ℕ) (x : Version) → Lives rings s j x (Aborted (Some dead))
        → (o : Option ℕ) × Lives f.ring s j x (Aborted o) × ((o ≡ Some dead) ⊎ (dead ≡ d))
    aborted_back s j dead x = all_slots (λ t i z. z ≡ Live x (Aborted (Some dead)) → (o : Option ℕ) × (slot_at (f.ring t) i ≡ Live x (Aborted o)) ×
        ((o ≡ Some dead) ⊎ (dead ≡ d)))
        (λ i e.
        let b = timed_back d (slot_at (f.ring n) i) x (Aborted (Some dead)) e in
        let w = aborted_was d b.0 (Some dead) b.2 in
        (w.0, b.1 ∙ ap (Live x) w.1, dead_is d w.0 dead w.2))
        (λ t i ne e. (Some dead, e, inl refl)) s j

    -- and so had a committed one, if it was cut; else its note is as before
    committed_back : (s j : ℕ) (x : Version) (note : CommitNote) → Lives rings s j x (Committed note)
        → (was : CommitNote) × Lives f.ring s j x (Committed was) × ((note ≡ was) ⊎ (note ≡ timed_note d was))
    committed_back s j x note = all_slots (λ t i z. z ≡ Live x (Committed note) → (was : CommitNote) × (slot_at (f.ring t) i ≡ Live x (Committed was)) ×
        ((note ≡ was) ⊎ (note ≡ timed_note d was)))
        (λ i e.
        let b = timed_back d (slot_at (f.ring n) i) x (Committed note) e in
        let w = committed_was d b.0 note b.2 in
        (w.0, b.1 ∙ ap (Live x) w.1, inr (sym w.2)))
        (λ t i ne e. (note, e, inl refl)) s j

    -- a note by what it was: the same time, cut where it was, and a death that was noted before or is the new one, and this of a cut version alone
    record IsTimed (was note : CommitNote) : Type 0 where
      time_is : note.time ≡ was.time
      cut_is : note.cut ≡ was.cut
      linked_is : note.linked ≡ was.linked
      dead_was : (t : ℕ) → note.dead ≡ Some t → (was.dead ≡ Some t) ⊎ (t ≡ d)
      uncut_same : was.cut ≡ false → note ≡ was

    is_timed : (was note : CommitNote) → (note ≡ was) ⊎ (note ≡ timed_note d was) → IsTimed was note
    is_timed was note a =
        ⊎_elim
        (λ e. record {
          time_is = ap (λ (o : CommitNote). o.time) e;
          cut_is = ap (λ (o : CommitNote). o.cut) e;
          linked_is = ap (λ (o : CommitNote). o.linked) e;
          dead_was = λ t is. inl (ap (λ (o : CommitNote). o.dead) (sym e) ∙ is);
          uncut_same = λ _. e;
        })
        (λ e. record {
          time_is = ap (λ (o : CommitNote). o.time) e ∙ note_time d was;
          cut_is = ap (λ (o : CommitNote). o.cut) e ∙ note_cut d was;
          linked_is = ap (λ (o : CommitNote). o.linked) e ∙ note_linked d was;
          dead_was = λ t is. note_dead d was t (ap (λ (o : CommitNote). o.dead) (sym e) ∙ is);
          uncut_same = λ uncut. e ∙ note_uncut d was uncut;
        })
        a

    deaths_after : Deaths c h rings
    deaths_after = record {
      aborted = λ s j dead x lives.
          let b = aborted_back s j dead x lives in
          let now = now_is in
          ⊎_elim (λ e. k.deaths.aborted s j dead x (subst (λ (o : Option ℕ). Lives f.ring s j x (Aborted o)) e b.1))
          (λ e. let le : dead ≤ c.base + length h + 1 = omega arith in le) b.2;
      cut = λ s j dead x note lives cut e.
          let b = committed_back s j x note lives in
          let i = is_timed b.0 note b.2 in
          let now = now_is in
          ⊎_elim (λ was. k.deaths.cut s j dead x b.0 b.1 (sym i.cut_is ∙ cut) was)
          (λ is. let le : dead ≤ c.base + length h + 1 = omega arith in le) (i.dead_was dead e);
      superseded = λ s j dead x note lives uncut e.
          let b = committed_back s j x note lives in
          let i = is_timed b.0 note b.2 in
          let same : note ≡ b.0 = i.uncut_same (sym i.cut_is ∙ uncut) in
          k.deaths.superseded s j dead x note (subst (λ (o : CommitNote). Lives f.ring s j x (Committed o)) (sym same) b.1) uncut e;
    }

    -- where the seat has seen the whole history
    deaths_seen_after : (f.past n).seen ≡ h → DeathsSeen c f.past rings
    deaths_seen_after whole s j x st = all_slots (λ t i z. z ≡ Live x st → DeathSeen (c.base + length (f.past t).seen) st)
        (λ i e.
        let b = timed_back d (slot_at (f.ring n) i) x st e in
        let now = now_is in
        let long : length (f.past n).seen ≡ length h = ap length whole in
        subst (DeathSeen (c.base + length (f.past n).seen)) b.2
        (timed_seen (c.base + length (f.past n).seen) d b.0 (omega arith) (k.deaths_seen n i x b.0 b.1)))
        (λ t i ne e. k.deaths_seen t i x st e) s j

    death_after : DeathAfterWrite rings
    death_after s j dead x note lives e =
        let b = committed_back s j x note lives in
        let i = is_timed b.0 note b.2 in
        let now = commit_time s j x b.0 b.1 in
        let time = i.time_is in
        ⊎_elim (λ was. let lt = k.death_after_write s j dead x b.0 b.1 was in let r : note.time < dead = omega arith in r)
        (λ is. let r : note.time < dead = omega arith in r) (i.dead_was dead e)

    before_death_after : WalkerBeforeDeath f.time f.walk rings
    before_death_after = record {
      here = λ s t stand y su e w names.
          let b = names_back (Timed d) (timed_place d) f.ring rings matches stand.link y su names in
          before_either t b.1 su (section_time s t e) (k.walker_before_death.here s t stand b.0 b.1 e w b.2) b.3.1;
      below = λ s t stand y z dead su e w names below.
          let a = aborted_any names.seat names.slot y dead names.lives in
          let g = names_back (Timed d) (timed_place d) f.ring rings matches y.previous z su below in
          before_either t g.1 su (section_time s t e) (k.walker_before_death.below s t stand y g.0 a.0 g.1 e w
          (record { seat = names.seat; slot = names.slot; lives = a.1; is = names.is }) g.2) g.3.1;
    }
      where
        before_either : (t : ℕ) (st su : WriteSetStatus) → t < d → IsBeforeDeath t st → (su ≡ st) ⊎ (su ≡ timed_status d st) → IsBeforeDeath t su
        before_either t st su lt a b = ⊎_elim (λ e. subst (IsBeforeDeath t) (sym e) a) (λ e. subst (IsBeforeDeath t) (sym e) (before_timed t d st lt a)) b

        aborted_any : (s j : ℕ) (x : Version) (e : Option ℕ) → Lives rings s j x (Aborted e) → (o : Option ℕ) × Lives f.ring s j x (Aborted o)
        aborted_any s j x e = all_slots (λ t i z. z ≡ Live x (Aborted e) → (o : Option ℕ) × (slot_at (f.ring t) i ≡ Live x (Aborted o)))
            (λ i is. let b = timed_back d (slot_at (f.ring n) i) x (Aborted e) is in let w = aborted_was d b.0 e b.2 in (w.0, b.1 ∙ ap (Live x) w.1))
            (λ t i ne is. (e, is)) s j

    flag_after : SuccessorFlag (λ s j. m (Super s j)) f.section rings
    flag_after s j inside naming x note in_section mode lives time =
        let b = committed_back s j x note lives in
        let i = is_timed b.0 note b.2 in
        let r = k.successor_flag s j inside naming x b.0 in_section mode b.1 (sym i.time_is ∙ time) in (
          λ zero_is. i.linked_is ∙ r.0 zero_is,
          λ y other below.
              let a = committed_back below.seat below.slot y other below.lives in
              let o = is_timed a.0 other a.2 in
              let named : Names f.ring x.previous y (Committed a.0) = record { seat = below.seat; slot = below.slot; lives = a.1; is = below.is } in
              let same : other ≡ a.0 = o.uncut_same (link_below k s j x b.0 b.1 y a.0 named).2 in
              let q = r.1 y a.0 named in (
                λ linked. q.0 (sym i.linked_is ∙ linked),
                λ unlinked. let z = q.1 (sym i.linked_is ∙ unlinked) in
                    (z.0, ap (λ (p : CommitNote). p.dead) same ∙ z.1),
              ),
        )

    stays : StaysInPlace f.ring rings
    stays = in_place_map f.ring n (timed d) refl same was
      where
        same : (z : Slot) → IsUnlived z → timed d z ≡ z
        same Free unlived = refl
        same (Built b) unlived = refl
        same (Live x st) unlived = absurd unlived
        same (Freeing p q) unlived = refl

        was : (z : Slot) → IsUnlived (timed d z) → IsUnlived z
        was Free unlived = tt
        was (Built b) unlived = tt
        was (Live x st) unlived = absurd unlived
        was (Freeing p q) unlived = tt

    slot_words_after : SlotWords (λ s j. m (First s j)) (λ s j. m (Prev s j)) (λ s j i. m (Data s j i)) rings
    slot_words_after = all_slots (λ s j z. HoldsSlot (m (First s j)) (m (Prev s j)) (λ i. m (Data s j i)) z)
        (λ j. go j (slot_at (f.ring n) j) (k.slot_words n j)) (λ s j ne. k.slot_words s j)
      where
        go : (j : ℕ) (z : Slot) → HoldsSlot (m (First n j)) (m (Prev n j)) (λ i. m (Data n j i)) z
            → HoldsSlot (m (First n j)) (m (Prev n j)) (λ i. m (Data n j i)) (timed d z)
        go j Free a = a
        go j (Built b) a = a
        go j (Live x st) a = a
        go j (Freeing p q) a = a

    dead_after : (s j t : ℕ) (x : Version) (note : CommitNote) → Lives rings s j x (Committed note) → note.dead ≡ Some t → c.base + x.position / c.slots < t
    dead_after s j t x note lives e =
        let b = committed_back s j x note lives in
        let low = round_time s j x (Committed b.0) b.1 in
        ⊎_elim (λ was. k.positions_and_grace.dead s j t x b.0 b.1 was)
        (λ is. subst (λ (u : ℕ). c.base + x.position / c.slots < u) (sym is) low) ((is_timed b.0 note b.2).dead_was t e)

    aborted_after : (s j t : ℕ) (x : Version) → Lives rings s j x (Aborted (Some t)) → c.base + x.position / c.slots < t
    aborted_after s j t x lives =
        let b = aborted_back s j t x lives in
        let low = round_time s j x (Aborted b.0) b.1 in
        ⊎_elim (λ e. k.positions_and_grace.aborted s j t x (subst (λ (o : Option ℕ). Lives f.ring s j x (Aborted o)) e b.1))
        (λ is. subst (λ (u : ℕ). c.base + x.position / c.slots < u) (sym is) low) b.2

    -- all facts after the load, but for what its seat has seen
    death_facts : (f.past n).seen ≡ h
        → Facts starts allows c start m h (changed f n (record unchanged { ring = Some (record (f.ring n) { slots = map (timed d) (f.ring n).slots }) }))
    death_facts whole =
        let on = match_weaker Alike LivesOn f.ring rings (λ x st y su a. a.0.0) alike in
        let deaths_seen_after = deaths_seen_after whole in
        let in_place = in_place_facts k rings on stays in
        let same_stamp = same_stamp_facts k rings alike in
        assumption (slot_words_after, deaths_after, before_death_after, flag_after, death_after, dead_after, aborted_after, k)

-- the timed slot is held where it was
held_timed : (d : ℕ) (z : Slot) → is_held (timed d z) ≡ is_held z
held_timed d Free = refl
held_timed d (Built b) = refl
held_timed d (Freeing p q) = refl
held_timed d (Live x Held) = refl
held_timed d (Live x (Aborted e)) = refl
held_timed d (Live x (Committed note)) = refl

module _ (starts : State → Type 0) (allows : List ℕ → State → Writes → Type 0) (c : Config) (start : State) (v : Knowledge) where
  pub death_loads : Loads starts allows c start v Clock (λ n w. ((((h : List Entry) × IsWhole c v n h × (w ≡ death_loaded c v n h)) × IsWord c n) × RunsOn v w)
      × IsKept v w)
  death_loads m h seats k is own begins wide =
      let clock = m Clock in
      let d : ℕ = clock_time_of clock + 1 in
      let n = v.number in
      let f : ViewParts = parts_of seats in
      let w : Knowledge = death_loaded c v clock h in
      let p : Past = record (seats n).past { seen = h } in
      let r : Ring = record (seats n).ring { slots = map (timed d) (seats n).ring.slots } in
      let seen = whole_seen k n in
      let held : held_count w.ring ≡ held_count v.ring = held_mapped (timed d) (held_timed d) v.ring in
      let front : (rest : List Entry) × (h ≡ v.past.seen ++ rest) =
      subst (λ (u : Knowledge). (rest : List Entry) × (h ≡ u.past.seen ++ rest)) is (k.history.seats n).seen in (
        w,
        settle starts allows c start m h seats n v w is (record unchanged { past = Some p; ring = Some r }) (
          ap (λ (u : Knowledge). record u.past { seen = h }) (sym is),
          refl,
          refl,
          refl,
          refl,
          refl,
          refl,
          ap (λ (u : Knowledge). record u.ring { slots = map (timed d) u.ring.slots }) (sym is),
          refl,
          refl,
          refl,
        )
            (death_facts seen n
            (ap (λ (q : Past). q.seen) (set_at_here f.past n p))),
        (
          (
            ((h, (front, k.history.long, k.history.makers), refl), k.loaded_words.clock_is),
            (λ time first a begun.
                (a, λ i e mode some_held. begun i e mode (subst (λ (u : ℕ). 0 < u) held some_held) ∙ ap (λ (u : ℕ). v.ring.next - u) (sym held))),
          ),
          (refl, refl, refl, refl, refl, refl),
        ),
      )
