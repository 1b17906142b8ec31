-- The log stands for the pass after its held write set has ended: committed, or aborted.
use Rattle.std.proofs.Common.{◌≡◌, ◌≢◌, ℕ, ◌+◌, ◌≤◌, nat_le, false, true, count_by, length, refl, sym, ap, ◌∙◌, subst, ⊎_elim, arith, None, slice_get}
use Rattle.std.proofs.lemmas.Bool.{lt-leb}
use Rattle.mv_layout.specs.declared.Config.{Config}
use Rattle.reader_marks.specs.mv_core.declared.ring.Slot.{Slot}
use Rattle.reader_marks.specs.mv_core.declared.ring.Slot.TheVariants.{Free, Built, Live, Freeing}
use Rattle.reader_marks.specs.mv_core.declared.ring.Version.{Version}
use Rattle.reader_marks.specs.mv_core.declared.ring.WriteSetStatus.{WriteSetStatus}
use Rattle.reader_marks.specs.mv_core.declared.ring.WriteSetStatus.TheVariants.{Held, Aborted, Committed}
use Rattle.reader_marks.specs.mv_core.declared.view.Knowledge.{Knowledge}
use Rattle.reader_marks.specs.mv_core.Rings.{slot_at, index_of, is_held, held_count, spare_count}
use Rattle.seat_log.specs.declared.version.Note.{Note}
use Rattle.seat_log.specs.Notes.{Noted, next_of, held_from, IsNoteAt, IsLog, from_place}
use Rattle.seat_log.specs.Stands.{version_of, IsAsNoted, HasNoted, HasBuilt, cut_count, is_free, is_won_cut, is_won_lock, ends_unlocking, aborts_in}
use Rattle.seat_log.specs.Stands.{writes_in, Stands}
use Rattle.seat_log.proofs.Places.{get_within, from_before, length-from_place}
use Rattle.seat_log.proofs.NotedSlots.{held_at}

-- What became of the own log when the held write set ended, and what is noted of each held version: no held one is left, each is in its slot with a
-- status that its note says, the other versions are there with a status that says nothing else to a note, and the other slots are as they were.
pub record HasEnded (v w : Knowledge) (f : Note → Note) : Type 0 where
  pub number : w.number ≡ v.number
  pub next : w.ring.next ≡ v.ring.next
  pub wide : length w.ring.slots ≡ length v.ring.slots
  pub none_held : held_count w.ring ≡ 0
  pub spare : spare_count w.ring ≡ spare_count v.ring
  pub cuts : cut_count w.ring ≡ cut_count v.ring
  pub ended : (k : ℕ) (x : Version) → slot_at v.ring k ≡ Live x Held
      → (st : WriteSetStatus) × (slot_at w.ring k ≡ Live x st) × ((n : Note) → n.time ≡ 0 → n.dead ≡ 0 → IsAsNoted false (f n) st)
  pub kept : (k : ℕ) (x : Version) (st : WriteSetStatus) → slot_at v.ring k ≡ Live x st → is_held (Live x st) ≡ false
      → (su : WriteSetStatus) × (slot_at w.ring k ≡ Live x su) × ((n : Note) → IsAsNoted false n st → IsAsNoted false n su)
  pub others : (k : ℕ) (z : Slot) → slot_at v.ring k ≡ z → ((x : Version) (st : WriteSetStatus) → z ≢ Live x st) → slot_at w.ring k ≡ z
  pub frees : count_by is_free w.trail ≡ count_by is_free v.trail
  pub backs : count_by is_won_cut w.trail ≡ count_by is_won_cut v.trail
  pub locks : count_by is_won_lock w.trail ≡ count_by is_won_lock v.trail

-- a version that isn't held by its note isn't by its status
unheld : (x : Version) (st : WriteSetStatus) (n : Note) → IsAsNoted false n st → is_held (Live x st) ≡ false
unheld x Held n a = let e : false ≡ true = a.0 in absurd (cc)
unheld x (Aborted d) n a = refl
unheld x (Committed note) n a = refl

module _ (c : Config) (v w : Knowledge) (l m : Noted) (f : Note → Note) (same : (n : Note) → version_of (f n) ≡ version_of n) (k : Stands c v l)
    (e : HasEnded v w f) (is_log : IsLog m) (seat : m.seat ≡ l.seat) (slots : m.slots ≡ l.slots) (freed : m.freed ≡ l.freed)
    (live : m.live ≡ from_place f (held_from l) l.live) (none : m.held ≡ 0) (built : m.built ≡ None) (backs : m.back ≡ l.back)
    (commits : m.commits ≡ length w.past.mine) (rests : m.rests ≡ w.past.rests) (used : writes_in w.past.mine ≤ next_of l)
    (all_used : m.aborts ≡ 0 → next_of l ≡ writes_in w.past.mine) (aborts : m.aborts ≡ aborts_in w.trail)
    (settled : ends_unlocking false w.trail ≡ false) where
  long : length m.live ≡ length l.live
  long = ap length live ∙ length-from_place f (held_from l) l.live

  next_is : next_of m ≡ next_of l
  next_is = let n = long in omega arith

  -- a slot that has no version was so before
  was : (j : ℕ) (z : Slot) → slot_at w.ring j ≡ z → ((x : Version) (st : WriteSetStatus) → z ≢ Live x st) → slot_at v.ring j ≡ z
  was j z is other = go (slot_at v.ring j) refl
    where
      go : (y : Slot) → slot_at v.ring j ≡ y → slot_at v.ring j ≡ z
      go Free q = q ∙ sym (e.others j Free q (λ x st g. absurd (cc))) ∙ is
      go (Built b) q = q ∙ sym (e.others j (Built b) q (λ x st g. absurd (cc))) ∙ is
      go (Freeing p g) q = q ∙ sym (e.others j (Freeing p g) q (λ x st g. absurd (cc))) ∙ is
      go (Live x Held) q = let r = e.ended j x q in absurd (other x r.0 (sym is ∙ r.1))
      go (Live x (Aborted d)) q = let r = e.kept j x (Aborted d) q refl in absurd (other x r.0 (sym is ∙ r.1))
      go (Live x (Committed note)) q = let r = e.kept j x (Committed note) q refl in absurd (other x r.0 (sym is ∙ r.1))

  was_live : (j : ℕ) (x : Version) (st : WriteSetStatus) → slot_at w.ring j ≡ Live x st → (su : WriteSetStatus) × (slot_at v.ring j ≡ Live x su)
  was_live j x st is = go (slot_at v.ring j) refl
    where
      -- the version there before is this one
      here : (y : Version) (before after : WriteSetStatus) → slot_at v.ring j ≡ Live y before → slot_at w.ring j ≡ Live y after
          → (su : WriteSetStatus) × (slot_at v.ring j ≡ Live x su)
      here y before after q r =
          let g : Live y after ≡ Live x st = sym r ∙ is in
          let one : y ≡ x = cc in
          (before, q ∙ ap (λ u. Live u before) one)

      go : (y : Slot) → slot_at v.ring j ≡ y → (su : WriteSetStatus) × (slot_at v.ring j ≡ Live x su)
      go Free q = let g : Free ≡ Live x st = sym (e.others j Free q (λ x st g. absurd (cc))) ∙ is in absurd (cc)
      go (Built b) q = let g : Built b ≡ Live x st = sym (e.others j (Built b) q (λ x st g. absurd (cc))) ∙ is in absurd (cc)
      go (Freeing p r) q = let g : Freeing p r ≡ Live x st = sym (e.others j (Freeing p r) q (λ x st g. absurd (cc))) ∙ is in absurd (cc)
      go (Live y Held) q = let r = e.ended j y q in here y Held r.0 q r.1
      go (Live y (Aborted d)) q = let r = e.kept j y (Aborted d) q refl in here y (Aborted d) r.0 q r.1
      go (Live y (Committed note)) q = let r = e.kept j y (Committed note) q refl in here y (Committed note) r.0 q r.1

  noted_then : (i : ℕ) (a : Note) → IsNoteAt m i a → HasNoted c w.ring (m.freed + i) (nat_le (held_from m) i) a
  noted_then i a is =
      let r = from_before f (held_from l) i l.live a (sym (ap (λ ns. slice_get ns i) live) ∙ is) in
      let lt = get_within l.live i r.0 r.1 in
      let n_long = long in
      let flag : nat_le (held_from m) i ≡ false = lt-leb (held_from m) i (omega arith) in
      let place : index_of c (m.freed + i) ≡ index_of c (l.freed + i) = ap (λ p. index_of c (p + i)) freed in
      ⊎_elim
      (λ y.
      let held = held_at c v l k i r.0 r.1 y.0 in
      let now = e.ended (index_of c (l.freed + i)) (version_of r.0) held.0 in
      let noted : IsAsNoted false a now.0 = subst (λ (b : Note). IsAsNoted false b now.0) (sym y.1) (now.2 r.0 held.1 held.2) in
      record {
        status = now.0;
        lives = ap (slot_at w.ring) place ∙ now.1 ∙ ap (λ u. Live u now.0) (sym (same r.0) ∙ ap version_of (sym y.1));
        as_noted = subst (λ b. IsAsNoted b a now.0) (sym flag) noted;
      })
      (λ y.
      let old = k.live i r.0 r.1 in
      let noted : IsAsNoted false r.0 old.status = subst (λ b. IsAsNoted b r.0 old.status) (lt-leb (held_from l) i y.0) old.as_noted in
      let now = e.kept (index_of c (l.freed + i)) (version_of r.0) old.status old.lives (unheld (version_of r.0) old.status r.0 noted) in
      record {
        status = now.0;
        lives = ap (slot_at w.ring) place ∙ now.1 ∙ ap (λ (b : Note). Live (version_of b) now.0) (sym y.1);
        as_noted = subst (λ b. IsAsNoted b a now.0) (sym flag) (subst (λ (b : Note). IsAsNoted false b now.0) (sym y.1) (now.2 r.0 noted));
      })
      r.2

  -- the log stands for the pass after it
  pub stands_ended : Stands c w m
  stands_ended =
      let n = long in
      let next = next_is in record {
        seat = seat ∙ k.seat ∙ sym e.number;
        slots = slots ∙ k.slots;
        wide = e.wide ∙ k.wide;
        log = is_log;
        next = e.next ∙ k.next ∙ sym next_is;
        held = e.none_held ∙ sym none;
        live = noted_then;
        all = λ j x st is.
            let b = was_live j x st is in
            let r = k.all j x b.0 b.1 in
            let lt = r.1 in
            (r.0, (omega arith), r.2 ∙ ap (λ p. index_of c (p + r.0)) (sym freed));
        none_freeing = λ j p first is. k.none_freeing j p first (was j (Freeing p first) is (λ x st g. absurd (cc)));
        builds = λ j b is. k.builds j b (was j (Built b) is (λ x st g. absurd (cc)));
        built = subst (HasBuilt c w.ring) (sym built) tt;
        spare = ap (λ s. s + length m.live) e.spare ∙ ap (λ s. spare_count v.ring + s) long ∙ k.spare;
        commits = commits;
        rests = rests;
        frees = freed ∙ k.frees ∙ sym e.frees;
        backs = backs ∙ k.backs ∙ sym e.backs;
        locks = next_is ∙ k.locks ∙ sym e.locks;
        aborts = aborts;
        settled = settled;
        cuts = (let old = k.cuts in let cuts = e.cuts in omega arith);
        used = omega arith;
        all_used = λ z. let a = all_used z in omega arith;
      }

-- what has ended has ended still after steps that leave the own log alone, free no slot, cut no chain and lock nothing
pub ends_same : (v w u : Knowledge) (f : Note → Note) → HasEnded v w f → u.number ≡ w.number → u.ring ≡ w.ring
    → count_by is_free u.trail ≡ count_by is_free w.trail → count_by is_won_cut u.trail ≡ count_by is_won_cut w.trail
    → count_by is_won_lock u.trail ≡ count_by is_won_lock w.trail → HasEnded v u f
ends_same v w u f k number ring frees backs locks = record {
  number = number ∙ k.number;
  next = ap (λ r. r.next) ring ∙ k.next;
  wide = ap (λ r. length r.slots) ring ∙ k.wide;
  none_held = ap held_count ring ∙ k.none_held;
  spare = ap spare_count ring ∙ k.spare;
  cuts = ap cut_count ring ∙ k.cuts;
  ended = λ j x e. let r = k.ended j x e in (r.0, ap (λ a. slot_at a j) ring ∙ r.1, r.2);
  kept = λ j x st e unheld. let r = k.kept j x st e unheld in (r.0, ap (λ a. slot_at a j) ring ∙ r.1, r.2);
  others = λ j z e none. ap (λ a. slot_at a j) ring ∙ k.others j z e none;
  frees = frees ∙ k.frees;
  backs = backs ∙ k.backs;
  locks = locks ∙ k.locks;
}
