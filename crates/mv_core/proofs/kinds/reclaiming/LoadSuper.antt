-- load SUPER: a time found there is that of the object's next write, from which on the version is dead; where none is found, no write of the object comes
-- before the watermark.
use Rattle.std.proofs.Common.{◌≡◌, ◌≢◌, ◌⊎◌, ℕ, ◌+◌, ◌-◌, ◌/◌, ◌==◌, ◌<◌, ◌≤◌, Bool, true, false, cond, List, length, refl, sym, ap, ◌∙◌, subst, inl, inr}
use Rattle.std.proofs.Common.{⊎_elim, arith, Option, Some, None}
use Rattle.std.proofs.lemmas.Bool.{eqb-false}
use Rattle.std.specs.Prelude.{slice_get, Contains}
use Rattle.std.proofs.lemmas.Option.{slice_get_within}
use Rattle.mv_core.proofs.Terms.{dite, dec_lt, ℕ_discrete, Entry, State, Writes, Config, Clock, Master, First, Prev, Super, Data, Memory, link_of, Ring, Slot}
use Rattle.mv_core.proofs.Terms.{Live, Version, WriteSetStatus, Aborted, Committed, CommitNote, Knowledge, Past, Stand, OwnSection, slot_at, index_of, put_slot}
use Rattle.mv_core.proofs.Terms.{is_held}
use Rattle.mv_core.proofs.Terms.{held_count, Lives, Names, writes_to, IsEntry, IsNextWrite, NotAbove, ViewParts, parts_of, set_at, time_in}
use Rattle.mv_core.specs.declared.view.WalkStage.TheVariants.{At}
use Rattle.mv_core.proofs.FactTerms.{BeginsWith, HoldsSlot, SlotWords, IsRightFor, MayStandAt, StandsRight, IsBeforeDeath, WalkerBeforeDeath, Deaths}
use Rattle.mv_core.proofs.FactTerms.{DeathAfterWrite, SuccessorFlag, RunsOn, Facts, Loads, IsKept}
use Rattle.mv_core.specs.ReclaimSteps.{super_note, MayLoadSuper, super_loaded, SeesSuper, FoundEmpty}
use Rattle.mv_core.proofs.frames.FrameLaw.{set_at_here, unchanged, changed, settle}
use Rattle.mv_core.proofs.history.Latest.{latest_at-reaches, latest-reaches, next_write, entry-within}
use Rattle.mv_core.proofs.logs.Links.{live_once, note_once, names_once, none_names_zero}
use Rattle.mv_core.proofs.logs.Written.{commit_within}
use Rattle.mv_core.proofs.kinds.walking.EmptyHeads.{time_of_section}
use Rattle.mv_core.proofs.logs.SeenDeaths.{seen_put}
use Rattle.mv_core.proofs.history.LongerSeen.{sees_more}
use Rattle.mv_core.proofs.frames.SuperSeen.{more_seen}
use Rattle.mv_core.proofs.kinds.walking.LoadStamp.{seen_to, seen_by_all, slice_get-front}
use Rattle.mv_core.proofs.logs.Slots.{Matches, match_weaker, match_put, slots_after, live_within}
use Rattle.mv_core.proofs.frames.Matching.{LivesOn, Alike, alike_self, alike_committed}
use Rattle.mv_core.proofs.frames.MatchedFacts.{same_stamp_facts}
use Rattle.mv_core.proofs.frames.InPlace.{in_place_put, in_place_facts}
use Rattle.mv_core.proofs.logs.Counts.{held_same}

-- the note differs in its death alone
pub super_keeps : (note : CommitNote) (found : ℕ) → ((super_note note found).time ≡ note.time) × ((super_note note found).cut ≡ note.cut)
    × ((super_note note found).linked ≡ note.linked)
super_keeps note found = go (found == 0)
  where
    go : (b : Bool) → ((cond b note (record note { dead = Some found })).time ≡ note.time) × ((cond b note (record note { dead = Some found })).cut ≡ note.cut)
        × ((cond b note (record note { dead = Some found })).linked ≡ note.linked)
    go true = (refl, refl, refl)
    go false = (refl, refl, refl)

-- a death noted there is the time found
super_dead : (note : CommitNote) (found dead : ℕ) → note.dead ≡ None → (super_note note found).dead ≡ Some dead → (dead ≡ found) × (found ≢ 0)
super_dead note found dead none e = go (found == 0) refl e
  where
    go : (b : Bool) → (found == 0) ≡ b → (cond b note (record note { dead = Some found })).dead ≡ Some dead → (dead ≡ found) × (found ≢ 0)
    go true is e = let f : None ≡ Some dead = sym none ∙ e in absurd (cc)
    go false is e = let f : Some found ≡ Some dead = e in (cc, λ zero_is. eqb-false found 0 is zero_is)

-- and without one nothing is noted
super_none : (note : CommitNote) (found : ℕ) → note.dead ≡ None → found ≡ 0 → (super_note note found).dead ≡ None
super_none note found none e = go (found == 0) refl
  where
    go : (b : Bool) → (found == 0) ≡ b → (cond b note (record note { dead = Some found })).dead ≡ None
    go true is = none
    go false is = absurd (eqb-false found 0 is e)

module _ {starts : State → Type 0} {allows : List ℕ → State → Writes → Type 0} {c : Config} {start : State} {m : Memory} {h : List Entry} {f : ViewParts}
    (k : Facts starts allows c start m h f)
    (n slot : ℕ) (x : Version) (note : CommitNote) (lives : Lives f.ring n slot x (Committed note)) (no_death : note.dead ≡ None) where
  abbrev found : ℕ
  found = m (Super n slot)

  abbrev new : CommitNote
  new = super_note note found

  abbrev loaded : Ring
  loaded = put_slot (f.ring n) slot (Live x (Committed new))

  abbrev rings : ℕ → Ring
  rings = set_at f.ring n loaded

  within : slot < length (f.ring n).slots
  within = live_within (f.ring n) slot x (Committed note) lives

  alike : Matches Alike f.ring rings
  alike = match_put Alike alike_self f.ring n slot (Live x (Committed new)) loaded refl within refl x (Committed note) x (Committed new) lives refl
      (alike_committed x note new (super_keeps note found).0 (super_keeps note found).1)

  -- what holds of the slot, and of each other, holds of all
  all_slots : (P : ℕ → ℕ → Slot → Type 0) → P n slot (Live x (Committed new)) → ((s j : ℕ) → ¬ ((s ≡ n) × (j ≡ slot)) → P s j (slot_at (f.ring s) j))
      → (s j : ℕ) → P s j (slot_at (rings s) j)
  all_slots = slots_after f.ring n slot (Live x (Committed new)) loaded refl within

  -- a time found is that of the next write
  pub next_is : found ≢ 0 → IsNextWrite c.base h x.object note.time found
  next_is some = k.successors.next n slot x note lives some

  -- what a committed version was
  record WasCommitted (s j : ℕ) (y : Version) (o : CommitNote) : Type 0 where
    was : CommitNote
    lived : Lives f.ring s j y (Committed was)
    time_is : o.time ≡ was.time
    linked_is : o.linked ≡ was.linked
    same_or : (o ≡ was) ⊎ ((s ≡ n) × (j ≡ slot) × (y ≡ x) × (was ≡ note) × (o ≡ new))

  committed_was : (s j : ℕ) (y : Version) (o : CommitNote) → Lives rings s j y (Committed o) → WasCommitted s j y o
  committed_was s j y o = all_slots (λ t i z. z ≡ Live y (Committed o) → WasCommitted t i y o)
      (λ e.
      let one = live_once (Live x (Committed new)) x y (Committed new) (Committed o) refl e in
      let is : new ≡ o = note_once new o one.1 in
      record {
        was = note;
        lived = subst (λ (v : Version). Lives f.ring n slot v (Committed note)) one.0 lives;
        time_is = ap (λ (q : CommitNote). q.time) (sym is) ∙ (super_keeps note found).0;
        linked_is = ap (λ (q : CommitNote). q.linked) (sym is) ∙ (super_keeps note found).2;
        same_or = inr (refl, refl, sym one.0, refl, sym is);
      })
      (λ t i ne e. record { was = o; lived = e; time_is = refl; linked_is = refl; same_or = inl refl })
      s j

  aborted_was : (s j : ℕ) (y : Version) (d : Option ℕ) → Lives rings s j y (Aborted d) → Lives f.ring s j y (Aborted d)
  aborted_was s j y d = all_slots (λ t i z. z ≡ Live y (Aborted d) → slot_at (f.ring t) i ≡ Live y (Aborted d)) (λ e. absurd (cc)) (λ t i ne e. e) s j

  -- a walk that the version is right for is of a time before its death
  before_new : (t : ℕ) → IsRightFor c h t x note → (dead : ℕ) → new.dead ≡ Some dead → t < dead
  before_new t right dead e =
      let d = super_dead note found dead no_death e in
      let next = next_is d.1 in
      let later = next.later in
      let is = d.0 in
      ⊎_elim
      (λ early. let r : t < dead = omega arith in r)
      (λ last.
      dite (dec_lt t dead) (λ lt. lt)
      (λ ge. let reach = latest_at-reaches c.base h x.object found t next.entry next.there next.writes (omega arith) in absurd (omega arith)))
      right

  -- the version that a link names is as before, or it is this one
  names_was : (link : ℕ) (y : Version) (su : WriteSetStatus) → (names : Names rings link y su)
      → (Names f.ring link y su) ⊎ ((su ≡ Committed new) × Names f.ring link x (Committed note))
  names_was link y su names = all_slots (λ t i z. z ≡ Live y su → t ≡ names.seat → i ≡ names.slot → (Names f.ring link y su) ⊎
      ((su ≡ Committed new) × Names f.ring link x (Committed note)))
      (λ e at_seat at_slot.
      let one = live_once (Live x (Committed new)) x y (Committed new) su refl e in
      inr (
        sym one.1,
        record {
          seat = n;
          slot = slot;
          lives = lives;
          is = names.is ∙ ap (λ t. link_of t y.position) (sym at_seat)
              ∙ ap (λ (v : Version). link_of n v.position) (sym one.0);
        },
      ))
      (λ t i ne e at_seat at_slot. inl (record { seat = t; slot = i; lives = e; is = names.is ∙ ap (λ u. link_of u y.position) (sym at_seat) }))
      names.seat names.slot names.lives refl refl

  -- where a walk stands at it, it is right for the walk
  right_here : (s t : ℕ) (stand : Stand) → f.time s ≡ Some t → f.walk s ≡ At stand → Names f.ring stand.link x (Committed note) → IsRightFor c h t x note
  right_here s t stand e w names =
      let r : StandsRight c start h (λ o i. m (Master o i)) f.ring t (At stand) =
      subst (StandsRight c start h (λ o i. m (Master o i)) f.ring t) w (k.walker_place s t e) in
      let one = names_once c h f.ring k.checked k.history.in_time k.positions stand.link r.0 x r.1 (Committed note) r.2 names in
      subst (λ (v : Version). MayStandAt c start h (λ o i. m (Master o i)) f.ring t v (Committed note)) one.2
      (subst (MayStandAt c start h (λ o i. m (Master o i)) f.ring t r.0) one.3 r.4)

  right_below : (s t : ℕ) (stand : Stand) (a : Version) (dead : Option ℕ) → f.time s ≡ Some t → f.walk s ≡ At stand → Names f.ring stand.link a (Aborted dead)
      → Names f.ring a.previous x (Committed note) → IsRightFor c h t x note
  right_below s t stand a dead e w names below =
      let r : StandsRight c start h (λ o i. m (Master o i)) f.ring t (At stand) =
      subst (StandsRight c start h (λ o i. m (Master o i)) f.ring t) w (k.walker_place s t e) in
      let one = names_once c h f.ring k.checked k.history.in_time k.positions stand.link r.0 a r.1 (Aborted dead) r.2 names in
      let may : MayStandAt c start h (λ o i. m (Master o i)) f.ring t a (Aborted dead) =
      subst (λ (v : Version). MayStandAt c start h (λ o i. m (Master o i)) f.ring t v (Aborted dead)) one.2
      (subst (MayStandAt c start h (λ o i. m (Master o i)) f.ring t r.0) one.3 r.4) in
      ⊎_elim
      (λ master. absurd (none_names_zero f.ring a.previous master.0 x (Committed note) below))
      (λ p.
      let same = names_once c h f.ring k.checked k.history.in_time k.positions a.previous p.0 x (Committed p.1) (Committed note) p.2 below in
      subst (λ (v : Version). IsRightFor c h t v note) same.2 (subst (λ (o : CommitNote). IsRightFor c h t p.0 o) (note_once p.1 note same.3) p.4))
      may

  before_death_after : WalkerBeforeDeath f.time f.walk rings
  before_death_after = record {
    here = λ s t stand y su e w names.
        ⊎_elim
        (λ old. k.walker_before_death.here s t stand y su e w old)
        (λ this. subst (IsBeforeDeath t) (sym this.0) (before_new t (right_here s t stand e w this.1)))
        (names_was stand.link y su names);
    below = λ s t stand a y dead su e w names below.
        let old_names : Names f.ring stand.link a (Aborted dead) =
        record { seat = names.seat; slot = names.slot; lives = aborted_was names.seat names.slot a dead names.lives; is = names.is } in
        ⊎_elim
        (λ old. k.walker_before_death.below s t stand a y dead su e w old_names old)
        (λ this. subst (IsBeforeDeath t) (sym this.0) (before_new t (right_below s t stand a dead e w old_names this.1)))
        (names_was a.previous y su below);
  }

  deaths_after : Deaths c h rings
  deaths_after = record {
    aborted = λ s j dead y l. k.deaths.aborted s j dead y (aborted_was s j y (Some dead) l);
    cut = λ s j dead y o l cut e.
        let w = committed_was s j y o l in
        ⊎_elim
        (λ same. k.deaths.cut s j dead y o (subst (λ (q : CommitNote). Lives f.ring s j y (Committed q)) (sym same) w.lived) cut e)
        (λ this.
        let d = super_dead note found dead no_death (ap (λ (q : CommitNote). q.dead) (sym this.4) ∙ e) in
        let low = (entry-within c.base h x.object found (next_is d.1).entry (next_is d.1).there).1 in
        let is = d.0 in
        let r : dead ≤ c.base + length h + 1 = omega arith in r)
        w.same_or;
    superseded = λ s j dead y o l uncut e.
        let w = committed_was s j y o l in
        ⊎_elim
        (λ same. k.deaths.superseded s j dead y o (subst (λ (q : CommitNote). Lives f.ring s j y (Committed q)) (sym same) w.lived) uncut e)
        (λ this.
        let d = super_dead note found dead no_death (ap (λ (q : CommitNote). q.dead) (sym this.4) ∙ e) in
        let time : o.time ≡ note.time = w.time_is ∙ ap (λ (q : CommitNote). q.time) this.3 in
        subst (IsNextWrite c.base h y.object o.time) (sym d.0)
        (subst (λ (t : ℕ). IsNextWrite c.base h y.object t found) (sym time)
        (subst (λ (v : Version). IsNextWrite c.base h v.object note.time found) (sym this.2) (next_is d.1))))
        w.same_or;
  }

  death_after : DeathAfterWrite rings
  death_after s j dead y o l e =
      let w = committed_was s j y o l in
      ⊎_elim
      (λ same. k.death_after_write s j dead y o (subst (λ (q : CommitNote). Lives f.ring s j y (Committed q)) (sym same) w.lived) e)
      (λ this.
      let d = super_dead note found dead no_death (ap (λ (q : CommitNote). q.dead) (sym this.4) ∙ e) in
      let later = (next_is d.1).later in
      let is = d.0 in
      let time : o.time ≡ note.time = w.time_is ∙ ap (λ (q : CommitNote). q.time) this.3 in
      let r : o.time < dead = omega arith in r)
      w.same_or

  flag_after : SuccessorFlag (λ s j. m (Super s j)) f.section rings
  flag_after s j inside naming y o in_section mode l time =
      let w = committed_was s j y o l in
      let r = k.successor_flag s j inside naming y w.was in_section mode w.lived (sym w.time_is ∙ time) in (
        λ zero_is. w.linked_is ∙ r.0 zero_is,
        λ z other below.
            let a = committed_was below.seat below.slot z other below.lives in
            let q = r.1 z a.was (record { seat = below.seat; slot = below.slot; lives = a.lived; is = below.is }) in (
              λ linked. q.0 (sym w.linked_is ∙ linked),
              λ unlinked.
                  let none = q.1 (sym w.linked_is ∙ unlinked) in (
                    none.0,
                    ⊎_elim
                        (λ same. ap (λ (p : CommitNote). p.dead) same ∙ none.1)
                        (λ this.
                        let zero_is : found ≡ 0 = subst (λ (t : ℕ). m (Super t slot) ≡ 0) this.0
                        (subst (λ (i : ℕ). m (Super below.seat i) ≡ 0) this.1 none.0) in
                        ap (λ (p : CommitNote). p.dead) this.4 ∙ super_none note found no_death zero_is)
                        a.same_or,
                  ),
            ),
      )

  slot_words_after : SlotWords (λ s j. m (First s j)) (λ s j. m (Prev s j)) (λ s j i. m (Data s j i)) rings
  slot_words_after = all_slots (λ s j z. HoldsSlot (m (First s j)) (m (Prev s j)) (λ i. m (Data s j i)) z)
      (subst (HoldsSlot (m (First n slot)) (m (Prev n slot)) (λ i. m (Data n slot i))) lives (k.slot_words n slot))
      (λ s j other. k.slot_words s j)

  dead_after : (s j t : ℕ) (y : Version) (o : CommitNote) → Lives rings s j y (Committed o) → o.dead ≡ Some t → c.base + y.position / c.slots < t
  dead_after s j t y o l e =
      let w = committed_was s j y o l in
      let lt = k.positions_and_grace.commit s j y w.was w.lived in
      ⊎_elim
      (λ same. k.positions_and_grace.dead s j t y o (subst (λ (q : CommitNote). Lives f.ring s j y (Committed q)) (sym same) w.lived) e)
      (λ this.
      let d = super_dead note found t no_death (ap (λ (q : CommitNote). q.dead) (sym this.4) ∙ e) in
      let later = (next_is d.1).later in
      let is = d.0 in
      let time : w.was.time ≡ note.time = ap (λ (q : CommitNote). q.time) this.3 in
      let r : c.base + y.position / c.slots < t = omega arith in r)
      w.same_or

  aborted_after : (s j t : ℕ) (y : Version) → Lives rings s j y (Aborted (Some t)) → c.base + y.position / c.slots < t
  aborted_after s j t y l = k.positions_and_grace.aborted s j t y (aborted_was s j y (Some t) l)

  -- all facts after the load, but for what its seat has seen
  pub super_facts : found ≤ c.base + length (f.past n).seen → Facts starts allows c start m h (changed f n (record unchanged { ring = Some loaded }))
  super_facts sees =
      let seen = seen_put c f.past f.ring n slot loaded x (Committed new) refl within
      (λ dead e. let is = (super_dead note found dead no_death e).0 in (omega arith, λ _. omega arith)) k.deaths_seen in
      let on = match_weaker Alike LivesOn f.ring rings (λ y st z su a. a.0.0) alike in
      let stays = in_place_put f.ring n slot loaded x x (Committed note) (Committed new) lives refl in
      let in_place = in_place_facts k rings on stays in
      let same_stamp = same_stamp_facts k rings alike in
      assumption (slot_words_after, deaths_after, seen, before_death_after, flag_after, death_after, dead_after, aborted_after, in_place, same_stamp, k)

  -- a time found is in the history
  pub found_within : found ≤ c.base + length h
  found_within =
      dite (ℕ_discrete found 0) (λ e. let r : found ≤ c.base + length h = omega arith in r)
      (λ ne. let next = next_is ne in (entry-within c.base h x.object found next.entry next.there).1)

  -- where none is found, no section is at or after a later write of the object
  pub none_written : ((t : ℕ) (inside : OwnSection) → f.section t ≡ Some inside → f.time t ≡ Some (time_in inside)) → note.cut ≡ false → found ≡ 0
      → (t : ℕ) (e : Entry) → IsEntry c.base h t e → writes_to x.object e ≡ true → note.time < t → f.grace n < t
  none_written timed uncut none t e there writes late =
      let low = (commit_within c h f.ring k.write_sets n slot x note lives).0 in
      let last = latest-reaches c.base h x.object t e there writes in
      let next = next_write c.base h x.object note.time (omega arith) (omega arith) in
      let naming = k.successors.unfinished n slot x note lives uncut none next.0 next.1 in
      let named = k.named_commit naming.seat naming.inside naming.naming naming.in_section naming.mode in
      let below : f.grace n ≤ time_in naming.inside = subst (NotAbove (f.grace n)) (timed naming.seat naming.inside naming.in_section)
      ((k.grace.views n).1 naming.seat) in
      let later = named.later in
      let is = naming.time_is in
      let none_between = next.1.none_between in
      dite (dec_lt t next.0)
      (λ lt. let reach = latest_at-reaches c.base h x.object t (next.0 - 1) e there writes (omega arith) in absurd (omega arith))
      (λ ge. let r : f.grace n < t = omega arith in r)

-- an entry seen is one of the history
entry_of_history : (base : ℕ) (h seen : List Entry) (t : ℕ) (e : Entry) → BeginsWith h seen → IsEntry base seen t e → IsEntry base h t e
entry_of_history base h seen t e front is =
    let low = is.0 in
    let lt = slice_get_within seen (t - (base + 1)) e is.1 in
    (low, ap (λ l. slice_get l (t - (base + 1))) front.1 ∙ slice_get-front seen front.0 (t - (base + 1)) lt ∙ is.1)

module _ (starts : State → Type 0) (allows : List ℕ → State → Writes → Type 0) (c : Config) (start : State) (v : Knowledge) (position : ℕ) (x : Version)
    (note : CommitNote) where
  pub super_loads : MayLoadSuper c v position x note
      → Loads starts allows c start v (Super v.number (index_of c position)) (λ found w. (((w ≡ super_loaded c v position x note found w.past.seen)
      × SeesSuper c v x note found w.past.seen × (FoundEmpty v x.object note.time → found ≢ 0)) × RunsOn v w) × IsKept v w)
  super_loads may m h seats k is own begins small =
      let n = v.number in
      let slot = index_of c position in
      let found = m (Super n slot) in
      let f : ViewParts = parts_of seats in
      let ring : (seats n).ring ≡ v.ring = ap (λ (y : Knowledge). y.ring) is in
      let lives : slot_at (seats n).ring slot ≡ Live x (Committed note) = ap (λ (r : Ring). slot_at r slot) ring ∙ may.own in
      let in_time = found_within k n slot x note lives may.no_death in
      let last = k.history.in_time in
      let front : BeginsWith h v.past.seen = subst (λ (u : Knowledge). BeginsWith h u.past.seen) is (k.history.seats n).seen in
      let to = seen_to c v h found front (λ low. in_time) in
      let seen = to.0 in
      let w : Knowledge = super_loaded c v position x note found seen in
      let p : Past = record v.past { seen = seen } in
      let held : held_count w.ring ≡ held_count v.ring =
      held_same v.ring slot (Live x (Committed (super_note note found))) (live_within v.ring slot x (Committed note) may.own) (sym (ap is_held may.own)) in
      let more : Facts starts allows c start m h (changed f n (record unchanged { past = Some p })) =
      more_seen starts allows c start m h f k n p (sees_more starts allows c start (m Clock) h f.past n v.past
      (ap (λ (u : Knowledge). u.past) is) k.history seen to.1 to.2.more) (seen_by_all seats k v is seen to.2.more)
      (subst (λ (u : Knowledge). BeginsWith seen u.past.seen) (sym is) to.2.more) in
      let below : found ≡ 0 → (t : ℕ) (e : Entry) → IsEntry c.base v.past.seen t e → writes_to x.object e ≡ true → note.time < t → v.grace < t =
      λ none t e there writes late.
      subst (λ (u : Knowledge). u.grace < t) is (none_written k n slot x note lives may.no_death
      (λ s inside in_section. time_of_section (seats s).phase inside in_section) may.uncut none t e
      (entry_of_history c.base h v.past.seen t e front there) writes late) in
      let sees : SeesSuper c v x note found seen = record { more = to.2.more; time = to.2.time (omega arith); least = to.2.least; no_write = below } in
      let some : FoundEmpty v x.object note.time → found ≢ 0 =
      λ e. (k.succeeded_has_super n e.0 (subst (λ (u : Knowledge). Contains u.empty e.0) (sym is) e.1)).1 slot x note lives (sym e.2) e.3 may.uncut in (
        w,
        settle starts allows c start m h seats n v w is
            (record unchanged { past = Some p; ring = Some (put_slot (seats n).ring slot (Live x (Committed (super_note note found)))) }) (
              refl,
              refl,
              refl,
              refl,
              refl,
              refl,
              refl,
              ap (λ (r : Ring). put_slot r slot (Live x (Committed (super_note note found)))) (sym ring),
              refl,
              refl,
              refl,
            )
            (super_facts more n slot x note lives may.no_death
            (subst (λ (q : Past). found ≤ c.base + length q.seen) (sym (set_at_here f.past n p)) (to.2.time (omega arith)))),
        (
          (
            (refl, sees, some),
            (λ time first a begun.
                (a, λ i e mode some_held. begun i e mode (subst (λ (y : ℕ). 0 < y) held some_held) ∙ ap (λ (y : ℕ). v.ring.next - y) (sym held))),
          ),
          (refl, refl, refl, refl, refl, refl),
        ),
      )
