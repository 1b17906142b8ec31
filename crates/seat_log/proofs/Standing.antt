-- The log stands for the pass: in a new domain, and after a version was built or given up.
use Rattle.std.proofs.Common.{◌≡◌, ◌≢◌, ℕ, ◌+◌, ◌^◌, ◌<◌, ◌≤◌, Bool, List, length, refl, sym, ap, ◌∙◌, subst, inl, arith, mod-lt, Option, Some, None}
use Rattle.std.specs.Prelude.{IfSome, unwrap_or}
use Rattle.std.proofs.lemmas.List.{length-map}
use mathlib.Core.Logic.{dite}
use native.Mathlib.Decide.{ℕ_discrete}
use Rattle.mv_layout.specs.declared.Config.{Config}
use Rattle.reader_marks.specs.mv_core.declared.ring.Slot.{Slot}
use Rattle.reader_marks.specs.mv_core.declared.ring.Slot.TheVariants.{Free, Built, Live, Freeing}
use Rattle.reader_marks.specs.mv_core.declared.ring.Build.{Build}
use Rattle.reader_marks.specs.mv_core.declared.view.Knowledge.{Knowledge}
use Rattle.reader_marks.specs.mv_core.Rings.{slot_at, index_of, is_held, is_spare}
use Rattle.reader_marks.specs.mv_core.LockSteps.{nothing_built, build_in}
use Rattle.reader_marks.proofs.mv_core_lemmas.logs.HeldSet.{slots_apart}
use Rattle.seat_log.specs.declared.version.Note.{Note}
use Rattle.seat_log.specs.Notes.{Noted, next_of, first_of, built_count, IsNoteAt, IsNextOf, IsLog, next_note, built_noted, dropped}
use Rattle.seat_log.specs.Stands.{version_of, HasBuilt, is_cut, writes_in, Stands}
use Rattle.seat_log.specs.Builds.{IsOpen, build_at, slot_built, MayBuild}
use Rattle.seat_log.proofs.Noting.{SameSets, noted_again}
use Rattle.seat_log.proofs.BuildsOn.{BuildsOn, slot_whole}

-- the notes are of themselves
same_self : (ns : List Note) → SameSets ns ns
same_self ns = record { long = refl; before = λ i m e. (m, e, refl, refl) }

module _ (c : Config) (v : Knowledge) (l : Noted) (k : Stands c v l) where
  -- the slot of the next position is free or being built, where there is room
  pub next_spare : length l.live < l.slots → (b : Build) × (build_in (slot_at v.ring (index_of c v.ring.next)) ≡ Some b) × (length b.words ≡ 6)
  next_spare room = go (slot_at v.ring (index_of c v.ring.next)) refl
    where
      go : (z : Slot) → slot_at v.ring (index_of c v.ring.next) ≡ z → (b : Build) × (build_in z ≡ Some b) × (length b.words ≡ 6)
      go Free e = (nothing_built, refl, refl)
      go (Built b) e = (b, refl, k.builds (index_of c v.ring.next) b e)
      go (Live x st) e =
          let r = k.all (index_of c v.ring.next) x st e in
          let at : index_of c v.ring.next ≡ index_of c (l.freed + r.0) = r.2 in
          let low = r.1 in
          let slots = k.slots in
          let next : v.ring.next ≡ l.freed + length l.live = k.next in
          absurd (slots_apart c.slots (l.freed + r.0) v.ring.next (omega arith) (omega arith) (sym at))
      go (Freeing p f) e = absurd (k.none_freeing (index_of c v.ring.next) p f e)

  pub may_build : (position : ℕ) → position ≡ v.ring.next → IsOpen v → length l.live < l.slots → MayBuild c v position
  may_build position at open_is room =
      let b = next_spare room in
      let slots = k.slots in
      let wide = k.wide in
      let low : index_of c position < c.slots = mod-lt position (omega arith) in record {
        open_is = open_is;
        next = at;
        within = omega arith;
        spare = (b.0, ap (λ p. build_in (slot_at v.ring (index_of c p))) at ∙ b.1);
      }

  -- a noted version isn't in that slot
  pub live_else : (i : ℕ) (n : Note) → IsNoteAt l i n → length l.live < l.slots → index_of c (l.freed + i) ≢ index_of c v.ring.next
  live_else i n at room e =
      let b = next_spare room in
      let lives = (k.live i n at).lives in
      let there : slot_at v.ring (index_of c v.ring.next) ≡ Live (version_of n) (k.live i n at).status = ap (slot_at v.ring) (sym e) ∙ lives in
      let none : None ≡ Some b.0 = sym (ap build_in there) ∙ b.1 in
      absurd (cc)

-- the counts are those of the view after a build
module _ (c : Config) (v w : Knowledge) (l : Noted) (position : ℕ) (b : Build) (k : Stands c v l) (room : length l.live < l.slots)
    (at : position ≡ v.ring.next) (on : BuildsOn c v w position b) where
  spare_was : (test : Slot → Bool) → ((a d : Build) → test (Built a) ≡ test (Built d)) → test Free ≡ test (Built nothing_built) → (a : Build)
      → test (Built a) ≡ test (slot_at v.ring (index_of c position))
  spare_was test same free a = go (slot_at v.ring (index_of c position)) refl
    where
      go : (z : Slot) → slot_at v.ring (index_of c position) ≡ z → test (Built a) ≡ test z
      go Free e = same a nothing_built ∙ sym free
      go (Built d) e = same a d
      go (Live x st) e =
          let s = next_spare c v l k room in
          let there : slot_at v.ring (index_of c v.ring.next) ≡ Live x st = ap (λ p. slot_at v.ring (index_of c p)) (sym at) ∙ e in
          let none : None ≡ Some s.0 = sym (ap build_in there) ∙ s.1 in
          absurd (cc)
      go (Freeing p f) e = absurd (k.none_freeing (index_of c position) p f e)

  -- the built slot is that of the next position
  slot_is : index_of c position ≡ index_of c v.ring.next
  slot_is = ap (index_of c) at

  -- the log stands for it with this as the built version, or none
  pub stands_on : (o : Option Note) → IsLog (record l { built = o }) → length b.words ≡ 6 → HasBuilt c w.ring o → Stands c w (record l { built = o })
  stands_on o is_log long has = record {
    seat = k.seat ∙ sym (ap (λ (u : Knowledge). u.number) on.rest);
    slots = k.slots;
    wide = on.wide ∙ k.wide;
    log = is_log;
    next = ap (λ (u : Knowledge). u.ring.next) on.rest ∙ k.next;
    held = on.counts is_held (spare_was is_held (λ a d. refl) refl) ∙ k.held;
    live = λ i n is.
        let a = k.live i n is in
        record {
          status = a.status;
          lives = on.others (index_of c (l.freed + i)) (λ e. live_else c v l k i n is room (e ∙ slot_is)) ∙ a.lives;
          as_noted = a.as_noted;
        };
    all = λ j x st e. k.all j x st (was j (Live x st) (λ a f. let g : Built a ≡ Live x st = f in absurd (cc)) e);
    none_freeing = λ j p first e. k.none_freeing j p first (was j (Freeing p first) (λ a f. let g : Built a ≡ Freeing p first = f in absurd (cc)) e);
    builds = λ j a e.
        dite (ℕ_discrete j (index_of c position))
        (λ here.
        let same : Built b ≡ Built a = sym on.here ∙ sym (ap (slot_at w.ring) here) ∙ e in
        let one : b ≡ a = cc in subst (λ (d : Build). length d.words ≡ 6) one long)
        (λ ne. k.builds j a (sym (on.others j ne) ∙ e));
    built = has;
    spare = ap (λ n. n + length l.live) (on.counts is_spare (spare_was is_spare (λ a d. refl) refl)) ∙ k.spare;
    commits = k.commits ∙ sym (ap (λ (u : Knowledge). length u.past.mine) on.rest);
    rests = k.rests ∙ sym (ap (λ (u : Knowledge). u.past.rests) on.rest);
    frees = k.frees ∙ sym on.frees;
    backs = k.backs ∙ sym on.backs;
    locks = k.locks ∙ sym on.keeps.locks;
    aborts = k.aborts ∙ sym on.keeps.aborts;
    settled = on.keeps.settled k.settled;
    cuts = subst (λ (n : ℕ). l.back ≤ l.freed + n) (sym (on.counts is_cut (spare_was is_cut (λ a d. refl) refl))) k.cuts;
    used = subst (λ (u : Knowledge). writes_in u.past.mine + l.held ≤ next_of l) (sym on.rest) k.used;
    all_used = λ none. k.all_used none ∙ sym (ap (λ (u : Knowledge). writes_in u.past.mine + l.held) on.rest);
  }
    where
      -- what isn't being built was there before
      was : (j : ℕ) (z : Slot) → ((a : Build) → Built a ≢ z) → slot_at w.ring j ≡ z → slot_at v.ring j ≡ z
      was j z unbuilt e =
          dite (ℕ_discrete j (index_of c position))
          (λ here. absurd (unbuilt b (sym on.here ∙ sym (ap (slot_at w.ring) here) ∙ e)))
          (λ ne. sym (on.others j ne) ∙ e)

-- a log with another built version, or none
pub built_is_log : (l : Noted) (o : Option Note) → length l.live + built_count o ≤ l.slots → IfSome o (IsNextOf l) → IsLog l → IsLog (record l { built = o })
built_is_log l o room is k = record {
  seat = k.seat;
  slots = k.slots;
  room = room;
  held = k.held;
  notes = noted_again l (record l { built = o }) refl (same_self l.live) k.held (inl refl) k.notes;
  built = next_of_same o is;
  positions = k.positions;
  sets = k.sets;
  backs = k.backs;
  rests = k.rests;
}
  where
    next_of_same : (p : Option Note) → IfSome p (IsNextOf l) → IfSome p (IsNextOf (record l { built = o }))
    next_of_same None a = tt
    next_of_same (Some n) a = a

-- after a build
pub stands_built : (c : Config) (v w : Knowledge) (l : Noted) (object previous : ℕ) (words : List ℕ) → Stands c v l → IsOpen v → length l.live < l.slots
    → length words ≡ 6 → next_of l < 2 ^ 57 → w ≡ slot_built c v (next_of l) (first_of l) previous words
    → Stands c w (built_noted l (next_note l object previous words))
stands_built c v w l object previous words k open_is room long small is =
    let position : ℕ = next_of l in
    let n : Note = next_note l object previous words in
    let may = may_build c v l k position (sym k.next) open_is room in
    let s = next_spare c v l k room in
    let first : first_of l ≡ first_of l = refl in
    let was : build_at c v position ≡ s.0 = ap (λ o. unwrap_or o nothing_built) (ap (λ p. build_in (slot_at v.ring (index_of c p))) (sym k.next) ∙ s.1) in
    let wide : length (build_at c v position).words ≡ 6 = ap (λ (b : Build). length b.words) was ∙ s.2 in
    let whole = slot_whole c v position (first_of l) previous words may wide long n refl refl refl refl in
    let on : BuildsOn c v w position whole.0 = subst (λ (u : Knowledge). BuildsOn c v u position whole.0) (sym is) whole.1 in
    let six : length whole.0.words ≡ 6 = ap length whole.2.words ∙ length-map words Some ∙ long in
    let next : w.ring.next ≡ position = ap (λ (u : Knowledge). u.ring.next) on.rest ∙ k.next in
    let one = built_is_log l (Some n) (omega arith) (refl, refl, refl, refl, small) k.log in
    stands_on c v w l position whole.0 k room (sym k.next) on (Some n) one six (whole.0, ap (λ p. slot_at w.ring (index_of c p)) next ∙ on.here, whole.2)

-- after the built version was given up
pub stands_dropped : (c : Config) (v : Knowledge) (l : Noted) → Stands c v l → Stands c v (dropped l)
stands_dropped c v l k =
    let room = k.log.room in record {
      seat = k.seat;
      slots = k.slots;
      wide = k.wide;
      log = built_is_log l None (omega arith) tt k.log;
      next = k.next;
      held = k.held;
      live = k.live;
      all = k.all;
      none_freeing = k.none_freeing;
      builds = k.builds;
      built = tt;
      spare = k.spare;
      commits = k.commits;
      rests = k.rests;
      frees = k.frees;
      backs = k.backs;
      locks = k.locks;
      aborts = k.aborts;
      settled = k.settled;
      cuts = k.cuts;
      used = k.used;
      all_used = k.all_used;
    }
