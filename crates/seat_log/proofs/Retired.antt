-- The log stands for the pass after a load of SUPER: a committed version is noted as dead where a time was found. What its log notes of a committed
-- version, and the log after such a version is noted otherwise.
use Rattle.std.proofs.Common.{◌≡◌, ◌≢◌, ℕ, zero, suc, ◌+◌, ◌-◌, ◌<◌, ◌≤◌, nat_le, Bool, false, cond, count_by, List}
use Rattle.std.proofs.Common.{length, refl, sym, ap, ◌∙◌, subst, ⊎_elim, arith, Option, Some, None, slice_get}
use Rattle.std.proofs.lemmas.Bool.{ne_eqb}
use Rattle.std.proofs.lemmas.List.{length-set, set-get_or}
use mathlib.Core.Logic.{dite}
use native.Mathlib.Decide.{ℕ_discrete}
use Rattle.mv_history.specs.declared.Entry.{Entry}
use Rattle.mv_layout.specs.declared.Config.{Config}
use Rattle.reader_marks.specs.mv_core.declared.ring.Ring.{Ring}
use Rattle.reader_marks.specs.mv_core.declared.ring.Slot.{Slot}
use Rattle.reader_marks.specs.mv_core.declared.ring.Slot.TheVariants.{Free, Built, Live, Freeing}
use Rattle.reader_marks.specs.mv_core.declared.ring.WriteSetStatus.{WriteSetStatus}
use Rattle.reader_marks.specs.mv_core.declared.ring.WriteSetStatus.TheVariants.{Held, Aborted, Committed}
use Rattle.reader_marks.specs.mv_core.declared.ring.CommitNote.{CommitNote}
use Rattle.reader_marks.specs.mv_core.declared.view.Knowledge.{Knowledge}
use Rattle.reader_marks.specs.mv_core.Rings.{slot_at, index_of, put_slot, is_held, is_spare}
use Rattle.reader_marks.specs.mv_core.ReclaimSteps.{MayLoadSuper, super_note, super_loaded}
use Rattle.reader_marks.proofs.mv_core_lemmas.logs.Links.{live_once}
use Rattle.reader_marks.proofs.mv_core_lemmas.logs.Slots.{slot_here, slot_else, live_within}
use Rattle.reader_marks.proofs.mv_core_lemmas.logs.Counts.{count_same}
use Rattle.seat_log.specs.declared.version.Note.{Note}
use Rattle.seat_log.specs.Notes.{Noted, next_of, held_from, IsNoteAt, IsLive, retired}
use Rattle.seat_log.specs.Stands.{version_of, death_of, IsAsNoted, HasNoted, HasBuilt, is_cut, cut_count, is_free, is_won_cut, writes_in, Stands}
use Rattle.seat_log.proofs.Places.{length-at_place, at_before, get_within}
use Rattle.seat_log.proofs.Noting.{renoted_is_log, counted_is_log}
use Rattle.seat_log.proofs.BuildsOn.{unpassed}
use Rattle.seat_log.proofs.StepCounts.{KeepsLocks, keeps_same, keeps_one}
use Rattle.seat_log.proofs.NotedSlots.{places_apart}
use Rattle.seat_log.proofs.Stays.{stands_same}

-- what is noted with a time is committed
committed_status : (held : Bool) (n : Note) (st : WriteSetStatus) → IsAsNoted held n st → 0 < n.time → (note : CommitNote) × (st ≡ Committed note)
committed_status held n Held a time = let none = a.1 in absurd (omega arith)
committed_status held n (Aborted d) a time = let none = a.1 in absurd (omega arith)
committed_status held n (Committed note) a time = (note, refl)

module _ (c : Config) (v : Knowledge) (l : Noted) (i : ℕ) (n : Note) (k : Stands c v l) (is_note : IsNoteAt l i n) where
  -- the slot of a noted version
  place_is : l.freed + i ≡ n.position
  place_is = sym (k.log.notes.position i n is_note)

  -- it is live
  pub noted_live : IsLive l n.position
  noted_live = let at = place_is in let lt = get_within l.live i n is_note in (omega arith, omega arith)

  -- a committed version is noted so, with its time and its death
  pub as_committed : (note : CommitNote) → slot_at v.ring (index_of c n.position) ≡ Live (version_of n) (Committed note)
      → IsAsNoted (nat_le (held_from l) i) n (Committed note)
  as_committed note here =
      let h = k.live i n is_note in
      let lives : slot_at v.ring (index_of c n.position) ≡ Live (version_of n) h.status = ap (λ p. slot_at v.ring (index_of c p)) (sym place_is) ∙ h.lives in
      subst (IsAsNoted (nat_le (held_from l) i) n)
      (live_once (slot_at v.ring (index_of c n.position)) (version_of n) (version_of n) h.status (Committed note) lives here).1 h.as_noted

  -- a version that is noted with a time is committed at it, in its slot, with the death that is noted, and was not cut where none is
  pub committed_at : 0 < n.time
      → (note : CommitNote) × (slot_at v.ring (index_of c n.position) ≡ Live (version_of n) (Committed note)) × (note.time ≡ n.time)
      × (note.dead ≡ death_of n.dead) × (n.dead ≡ 0 → note.cut ≡ false)
  committed_at time =
      let h = k.live i n is_note in
      let s = committed_status (nat_le (held_from l) i) n h.status h.as_noted time in
      let here : slot_at v.ring (index_of c n.position) ≡ Live (version_of n) (Committed s.0) =
      ap (λ p. slot_at v.ring (index_of c p)) (sym place_is) ∙ h.lives ∙ ap (Live (version_of n)) s.1 in
      let a = as_committed s.0 here in
      (s.0, here, sym a.2, a.3, a.4)

  -- without a death it waits for none
  pub no_death : (note : CommitNote) → slot_at v.ring (index_of c n.position) ≡ Live (version_of n) (Committed note) → n.dead ≡ 0
      → (note.dead ≡ None) × (note.cut ≡ false)
  no_death note here alive = let a = as_committed note here in (a.3 ∙ ap death_of alive, a.4 alive)

  -- SUPER of it may be loaded
  pub may_load_super : (note : CommitNote) → slot_at v.ring (index_of c n.position) ≡ Live (version_of n) (Committed note) → n.dead ≡ 0
      → MayLoadSuper c v n.position (version_of n) note
  may_load_super note here alive = let a = no_death note here alive in record { own = here; position_is = refl; no_death = a.0; uncut = a.1 }

-- The slot of a noted version has another note of its commit, and the log notes another death of it and another count of write-backs; nothing else of
-- the log has changed.
pub record Renotes (c : Config) (v w : Knowledge) (l : Noted) (n : Note) (new : CommitNote) (dead back : ℕ) : Type 0 where
  pub number : w.number ≡ v.number
  pub ring : w.ring ≡ put_slot v.ring (index_of c n.position) (Live (version_of n) (Committed new))
  pub mine : w.past.mine ≡ v.past.mine
  pub rests : w.past.rests ≡ v.past.rests
  pub frees : count_by is_free w.trail ≡ count_by is_free v.trail
  pub backs : back ≡ count_by is_won_cut w.trail
  pub keeps : KeepsLocks v.trail w.trail
  pub cuts : back ≤ l.freed + cut_count (put_slot v.ring (index_of c n.position) (Live (version_of n) (Committed new)))
  pub few : back ≤ next_of l
  pub time : n.time ≡ new.time
  pub death : new.dead ≡ death_of dead
  pub uncut : dead ≡ 0 → new.cut ≡ false

module _ (c : Config) (v w : Knowledge) (l : Noted) (i : ℕ) (n : Note) (note new : CommitNote) (dead back : ℕ) (k : Stands c v l)
    (is_note : IsNoteAt l i n) (here : slot_at v.ring (index_of c n.position) ≡ Live (version_of n) (Committed note))
    (e : Renotes c v w l n new dead back) where
  abbrev m : Noted
  m = record (retired l n.position dead) { back = back }

  abbrev z : Slot
  z = Live (version_of n) (Committed new)

  abbrev put : Ring
  put = put_slot v.ring (index_of c n.position) (Live (version_of n) (Committed new))

  within : index_of c n.position < length v.ring.slots
  within = live_within v.ring (index_of c n.position) (version_of n) (Committed note) here

  -- the place of its note
  at_is : n.position - l.freed ≡ i
  at_is = let p = place_is c v l i n k is_note in omega arith

  long : length m.live ≡ length l.live
  long = length-at_place (λ (x : Note). record x { dead = dead }) (n.position - l.freed) l.live

  heads : held_from m ≡ held_from l
  heads = let a = long in omega arith

  next_is : next_of m ≡ next_of l
  next_is = let a = long in omega arith

  -- a noted version at another place is in another slot
  else_slot : (j : ℕ) → j < length l.live → j ≢ i → index_of c (l.freed + j) ≢ index_of c n.position
  else_slot j lt ne same =
      let room = k.log.room in
      let slots = k.slots in
      let in_range = get_within l.live i n is_note in
      ne (places_apart c l.freed j i (omega arith) (omega arith) (same ∙ ap (index_of c) (sym (place_is c v l i n k is_note))))

  -- what isn't a version was there before
  was : (j : ℕ) (y : Slot) → (z ≢ y) → slot_at put j ≡ y → slot_at v.ring j ≡ y
  was j y other is =
      dite (ℕ_discrete j (index_of c n.position))
      (λ at_s. absurd (other (sym (slot_here v.ring (index_of c n.position) z within) ∙ ap (slot_at put) (sym at_s) ∙ is)))
      (λ ne. sym (slot_else v.ring (index_of c n.position) j z ne) ∙ is)

  built_still : (o : Option Note) → HasBuilt c v.ring o → HasBuilt c put o
  built_still None a = tt
  built_still (Some b) a =
      let ne : index_of c v.ring.next ≢ index_of c n.position =
      λ same. let f : Built a.0 ≡ Live (version_of n) (Committed note) = sym a.1 ∙ ap (slot_at v.ring) same ∙ here in
      absurd (cc) in
      (a.0, slot_else v.ring (index_of c n.position) (index_of c v.ring.next) z ne ∙ a.1, a.2)

  noted_then : (j : ℕ) (a : Note) → IsNoteAt m j a → HasNoted c put (m.freed + j) (nat_le (held_from m) j) a
  noted_then j a is =
      let r = at_before (λ (x : Note). record x { dead = dead }) (n.position - l.freed) j l.live a is in
      let old = k.live j r.0 r.1 in
      ⊎_elim
      (λ y.
      let at_i : j ≡ i = y.0 ∙ at_is in
      let one : Some r.0 ≡ Some n = sym r.1 ∙ ap (slice_get l.live) at_i ∙ is_note in
      let same : r.0 ≡ n = cc in
      let new_is : record n { dead = dead } ≡ a = ap (λ (x : Note). record x { dead = dead }) (sym same) ∙ sym y.1 in
      let there : l.freed + j ≡ n.position = ap (λ q. l.freed + q) at_i ∙ place_is c v l i n k is_note in
      let before = as_committed c v l i n k is_note note here in
      let noted : IsAsNoted (nat_le (held_from l) i) (record n { dead = dead }) (Committed new) = (before.0, before.1, e.time, e.death, e.uncut) in
      let flag : nat_le (held_from m) j ≡ nat_le (held_from l) i = (λ q. nat_le (heads q) (at_i q)) in
      record {
        status = Committed new;
        lives = ap (λ p. slot_at put (index_of c p)) there ∙ slot_here v.ring (index_of c n.position) z within
            ∙ ap (λ (b : Note). Live (version_of b) (Committed new)) new_is;
        as_noted =
            subst (λ b. IsAsNoted b a (Committed new)) (sym flag) (subst (λ (b : Note). IsAsNoted (nat_le (held_from l) i) b (Committed new)) new_is noted);
      })
      (λ y.
      let in_range = get_within l.live j r.0 r.1 in
      let ne : j ≢ i = λ at_i. y.0 (at_i ∙ sym at_is) in
      record {
        status = old.status;
        lives = slot_else v.ring (index_of c n.position) (index_of c (l.freed + j)) z (else_slot j in_range ne) ∙ old.lives
            ∙ ap (λ (b : Note). Live (version_of b) old.status) (sym y.1);
        as_noted = subst (λ q. IsAsNoted (nat_le q j) a old.status) (sym heads)
            (subst (λ (b : Note). IsAsNoted (nat_le (held_from l) j) b old.status) (sym y.1) old.as_noted);
      })
      r.2

  put_stands : Stands c (record w { ring = put_slot v.ring (index_of c n.position) (Live (version_of n) (Committed new)) }) m
  put_stands =
      let s = index_of c n.position in
      let in_range = get_within l.live i n is_note in
      let n_long = long in
      let next = next_is in record {
        seat = k.seat ∙ sym e.number;
        slots = k.slots;
        wide = length-set v.ring.slots s z ∙ k.wide;
        log = counted_is_log (retired l n.position dead) back l.rests (let few = e.few in omega arith) k.log.rests
            (renoted_is_log l (λ (x : Note). record x { dead = dead }) (n.position - l.freed) (λ a. (refl, refl)) k.log);
        next = k.next ∙ sym next;
        held = count_same v.ring s z within is_held (sym (ap is_held here)) ∙ k.held;
        live = noted_then;
        all = λ j x st is.
            dite (ℕ_discrete j s)
            (λ at_s. (i, (omega arith), at_s ∙ ap (index_of c) (sym (place_is c v l i n k is_note))))
            (λ ne. let r = k.all j x st (sym (slot_else v.ring s j z ne) ∙ is) in let lt = r.1 in (r.0, (omega arith), r.2));
        none_freeing = λ j p first is. k.none_freeing j p first (was j (Freeing p first) (λ f. absurd (cc)) is);
        builds = λ j b is. k.builds j b (was j (Built b) (λ f. absurd (cc)) is);
        built = built_still l.built k.built;
        spare = (λ q. count_same v.ring s z within is_spare (sym (ap is_spare here)) q + n_long q) ∙ k.spare;
        commits = k.commits ∙ ap length (sym e.mine);
        rests = k.rests ∙ sym e.rests;
        frees = k.frees ∙ sym e.frees;
        backs = e.backs;
        locks = next ∙ k.locks ∙ sym e.keeps.locks;
        aborts = k.aborts ∙ sym e.keeps.aborts;
        settled = e.keeps.settled k.settled;
        cuts = e.cuts;
        used = subst (λ cs. writes_in cs + l.held ≤ next_of m) (sym e.mine) (subst (λ q. writes_in v.past.mine + l.held ≤ q) (sym next) k.used);
        all_used = λ none. next ∙ k.all_used none ∙ ap (λ cs. writes_in cs + l.held) (sym e.mine);
      }

  -- the log stands for the pass after it
  pub stands_renoted : Stands c w (record (retired l n.position dead) { back = back })
  stands_renoted =
      stands_same c (record w { ring = put_slot v.ring (index_of c n.position) (Live (version_of n) (Committed new)) }) w m refl e.ring refl refl refl
      refl (keeps_same w.trail) put_stands

-- a time that is a death
pub death_is : (t : ℕ) → 0 < t → death_of t ≡ Some t
death_is zero some_time = absurd (omega arith)
death_is (suc t) some_time = refl

-- a time that SUPER was found to have is the death
found_note : (note : CommitNote) (found : ℕ) → 0 < found → super_note note found ≡ record note { dead = Some found }
found_note note found some_time = ap (λ b. cond b note (record note { dead = Some found })) (ne_eqb found 0 (λ none. omega arith))

-- and none else
unfound_note : (note : CommitNote) → super_note note 0 ≡ note
unfound_note note = refl

module _ (c : Config) (v : Knowledge) (l : Noted) (i : ℕ) (n : Note) (note : CommitNote) (found : ℕ) (seen : List Entry) (k : Stands c v l) where
  -- the log stands for the pass after a load of SUPER of a version with no death, with the death that was found
  pub stands_found : IsNoteAt l i n → slot_at v.ring (index_of c n.position) ≡ Live (version_of n) (Committed note) → n.dead ≡ 0 → 0 < found
      → Stands c (super_loaded c v n.position (version_of n) note found seen) (retired l n.position found)
  stands_found is_note here alive some_time =
      let s = index_of c n.position in
      let new : CommitNote = record note { dead = Some found } in
      let a = as_committed c v l i n k is_note note here in
      let in_range = live_within v.ring s (version_of n) (Committed note) here in
      stands_renoted c v (super_loaded c v n.position (version_of n) note found seen) l i n note new found l.back k is_note here (record {
        number = refl;
        ring = ap (λ (x : CommitNote). put_slot v.ring s (Live (version_of n) (Committed x))) (found_note note found some_time);
        mine = refl;
        rests = refl;
        frees = unpassed is_free v.trail _ refl;
        backs = k.backs ∙ sym (unpassed is_won_cut v.trail _ refl);
        keeps = keeps_one v.trail _ refl refl;
        cuts =
            subst (λ q. l.back ≤ l.freed + q) (sym (count_same v.ring s (Live (version_of n) (Committed new)) in_range is_cut (sym (ap is_cut here)))) k.cuts;
        few = k.log.backs;
        time = a.2;
        death = sym (death_is found some_time);
        uncut = λ none. absurd (omega arith);
      })

  -- and as it is where none was found
  pub stands_unfound : slot_at v.ring (index_of c n.position) ≡ Live (version_of n) (Committed note) → found ≡ 0
      → Stands c (super_loaded c v n.position (version_of n) note found seen) l
  stands_unfound here none =
      let s = index_of c n.position in
      let same : super_note note found ≡ note = ap (super_note note) none ∙ unfound_note note in
      let slot : Live (version_of n) (Committed (super_note note found)) ≡ slot_at v.ring s =
      ap (λ (x : CommitNote). Live (version_of n) (Committed x)) same ∙ sym here in
      let ring : put_slot v.ring s (Live (version_of n) (Committed (super_note note found))) ≡ v.ring =
      ap (put_slot v.ring s) slot ∙ (λ q. record v.ring { slots = set-get_or v.ring.slots s Free q }) in
      stands_same c v (super_loaded c v n.position (version_of n) note found seen) l refl ring refl refl (unpassed is_free v.trail _ refl)
      (unpassed is_won_cut v.trail _ refl) (keeps_one v.trail _ refl refl) k
