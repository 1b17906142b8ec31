-- The log stands for the pass after a data word of a held version was stored.
use Rattle.std.proofs.Common.{◌≡◌, ◌≢◌, ℕ, ◌+◌, ◌-◌, ◌<◌, ◌≤◌, nat_le, length, refl, sym, ap, ◌∙◌, subst, ⊎_elim, arith, Option, Some, None, slice_get}
use Rattle.std.proofs.lemmas.List.{length-set}
use mathlib.Core.Logic.{dite}
use native.Mathlib.Decide.{ℕ_discrete}
use Rattle.mv_layout.specs.declared.Config.{Config}
use Rattle.reader_marks.specs.mv_core.declared.ring.Slot.{Slot}
use Rattle.reader_marks.specs.mv_core.declared.ring.Slot.TheVariants.{Built, Live, Freeing}
use Rattle.reader_marks.specs.mv_core.declared.ring.Version.{Version}
use Rattle.reader_marks.specs.mv_core.declared.ring.WriteSetStatus.TheVariants.{Held}
use Rattle.reader_marks.specs.mv_core.declared.view.Knowledge.{Knowledge}
use Rattle.reader_marks.specs.mv_core.Rings.{slot_at, index_of, is_held, is_spare}
use Rattle.reader_marks.specs.mv_core.LockSteps.{data_stored, MayStoreData}
use Rattle.reader_marks.proofs.mv_core_lemmas.logs.Slots.{slot_here, slot_else, live_within}
use Rattle.reader_marks.proofs.mv_core_lemmas.logs.Counts.{count_same}
use Rattle.seat_log.specs.declared.version.Note.{Note}
use Rattle.seat_log.specs.Notes.{Noted, next_of, held_from, IsNoteAt, IsHeld, with_word, word_noted}
use Rattle.seat_log.specs.Stands.{version_of, IsAsNoted, HasBuilt, is_cut, is_free, is_won_cut, writes_in, Stands}
use Rattle.seat_log.specs.Builds.{IsOpen, version_in, version_at, word_stored}
use Rattle.seat_log.proofs.Places.{length-at_place, at_before, get_within}
use Rattle.seat_log.proofs.Noting.{renoted_is_log}
use Rattle.seat_log.proofs.BuildsOn.{unpassed}
use Rattle.seat_log.proofs.StepCounts.{KeepsLocks, keeps_one}
use Rattle.seat_log.proofs.NotedSlots.{places_apart}
use Rattle.seat_log.proofs.Rebuilding.{held_note}

module _ (c : Config) (v : Knowledge) (l : Noted) (position word value : ℕ) (k : Stands c v l) (held : IsHeld l position) where
  abbrev at : ℕ
  at = position - l.freed

  noted : IsNoteAt l (position - l.freed) (held_note c v l position k held).0
  noted = (held_note c v l position k held).1

  lives : slot_at v.ring (index_of c position) ≡ Live (version_of (held_note c v l position k held).0) Held
  lives = (held_note c v l position k held).2

  -- the condition of the store
  pub may_word : IsOpen v → word < 6 → MayStoreData c v position word (version_at c v position)
  may_word open_is range =
      let x : version_of (held_note c v l position k held).0 ≡ version_at c v position = sym (ap version_in lives) in
      let few = k.log.held in
      let low = held.0 in
      let where_is = k.log.notes.position at (held_note c v l position k held).0 noted in record {
        inside = open_is.0;
        phase = open_is.1;
        open_is = open_is.2;
        held = subst (λ (y : Version). slot_at v.ring (index_of c position) ≡ Live y Held) x lives;
        position_is = ap (λ (y : Version). y.position) (sym x) ∙ where_is ∙ (omega arith);
        in_range = range;
      }

  module _ (m : Note) (is_note : IsNoteAt l (position - l.freed) m) (here : slot_at v.ring (index_of c position) ≡ Live (version_of m) Held) where
    within : index_of c position < length v.ring.slots
    within = live_within v.ring (index_of c position) (version_of m) Held here

    -- where the version's note is
    place_is : l.freed + at ≡ position
    place_is = let few = k.log.held in let low = held.0 in omega arith

    -- a noted version at another place is in another slot
    else_slot : (i : ℕ) → i < length l.live → i ≢ at → index_of c (l.freed + i) ≢ index_of c position
    else_slot i lt ne e =
        let few = k.log.held in
        let low = held.0 in
        let high = held.1 in
        let room = k.log.room in
        let slots = k.slots in
        ne (places_apart c l.freed i at (omega arith) (omega arith) (e ∙ ap (index_of c) (sym place_is)))

    stands_so : Stands c (data_stored c v position word value (version_of m)) (word_noted l position word value)
    stands_so =
        let s = index_of c position in
        let z : Slot = Live (version_of (with_word word value m)) Held in
        let in_log : s < length v.ring.slots = live_within v.ring s (version_of m) Held here in
        let long = length-at_place (with_word word value) at l.live in
        let same_head : held_from (word_noted l position word value) ≡ held_from l = omega arith in
        let next : next_of (word_noted l position word value) ≡ next_of l = omega arith in
        let keeps : KeepsLocks v.trail (data_stored c v position word value (version_of m)).trail = keeps_one v.trail _ refl refl in record {
          seat = k.seat;
          slots = k.slots;
          wide = length-set v.ring.slots s z ∙ k.wide;
          log = renoted_is_log l (with_word word value) at (λ a. (refl, refl)) k.log;
          next = k.next ∙ sym next;
          held = count_same v.ring s z in_log is_held (sym (ap is_held here)) ∙ k.held;
          live = λ i a e.
              let r = at_before (with_word word value) at i l.live a e in
              let old = k.live i r.0 r.1 in
              ⊎_elim
              (λ y.
              let there : index_of c (l.freed + i) ≡ s = ap (λ j. index_of c (l.freed + j)) y.0 ∙ ap (index_of c) place_is in
              let one : Some m ≡ Some r.0 = sym is_note ∙ sym (ap (λ j. slice_get l.live j) y.0) ∙ r.1 in
              let same : m ≡ r.0 = cc in
              let new_is : with_word word value m ≡ a = ap (with_word word value) same ∙ sym y.1 in
              let slot : slot_at v.ring s ≡ Live (version_of r.0) old.status = ap (slot_at v.ring) (sym there) ∙ old.lives in
              let both : Live (version_of m) Held ≡ Live (version_of r.0) old.status = sym here ∙ slot in
              let status : Held ≡ old.status = cc in
              let as_noted : IsAsNoted (nat_le (held_from l) i) r.0 Held = subst (IsAsNoted (nat_le (held_from l) i) r.0) (sym status) old.as_noted in
              let with_new : IsAsNoted (nat_le (held_from l) i) (with_word word value r.0) Held = as_noted in
              let noted_new : IsAsNoted (nat_le (held_from l) i) a Held = subst (λ (b : Note). IsAsNoted (nat_le (held_from l) i) b Held) (sym y.1) with_new in
              record {
                status = Held;
                lives = ap (slot_at (data_stored c v position word value (version_of m)).ring) there ∙ slot_here v.ring s z in_log
                    ∙ ap (λ (b : Note). Live (version_of b) Held) new_is;
                as_noted = subst (λ j. IsAsNoted (nat_le j i) a Held) (sym same_head) noted_new;
              })
              (λ y.
              let in_range = get_within l.live i r.0 r.1 in record {
                status = old.status;
                lives = slot_else v.ring s (index_of c (l.freed + i)) z (else_slot i in_range y.0) ∙ old.lives
                    ∙ ap (λ (b : Note). Live (version_of b) old.status) (sym y.1);
                as_noted = subst (λ j. IsAsNoted (nat_le j i) a old.status) (sym same_head)
                    (subst (λ (b : Note). IsAsNoted (nat_le (held_from l) i) b old.status) (sym y.1) old.as_noted);
              })
              r.2;
          all = λ j x st e.
              dite (ℕ_discrete j s)
              (λ at_s. let few = k.log.held in let low = held.0 in let high = held.1 in (at, (omega arith), at_s ∙ ap (index_of c) (sym place_is)))
              (λ ne. let r = k.all j x st (sym (slot_else v.ring s j z ne) ∙ e) in let lt = r.1 in (r.0, (omega arith), r.2));
          none_freeing = λ j p first e. k.none_freeing j p first (was j (Freeing p first) (λ f. absurd (cc)) e);
          builds = λ j b e. k.builds j b (was j (Built b) (λ f. absurd (cc)) e);
          built = built_still l.built k.built;
          spare = (λ i. count_same v.ring s z in_log is_spare (sym (ap is_spare here)) i + long i) ∙ k.spare;
          commits = k.commits;
          rests = k.rests;
          frees = k.frees ∙ sym (unpassed is_free v.trail _ refl);
          backs = k.backs ∙ sym (unpassed is_won_cut v.trail _ refl);
          locks = next ∙ k.locks ∙ sym keeps.locks;
          aborts = k.aborts ∙ sym keeps.aborts;
          settled = keeps.settled k.settled;
          cuts = subst (λ j. l.back ≤ l.freed + j) (sym (count_same v.ring s z in_log is_cut (sym (ap is_cut here)))) k.cuts;
          used = subst (λ j. writes_in v.past.mine + l.held ≤ j) (sym next) k.used;
          all_used = λ none. next ∙ k.all_used none;
        }
      where
        -- what isn't a version was there before
        was : (j : ℕ) (y : Slot) → (Live (version_of (with_word word value m)) Held ≢ y)
            → slot_at (data_stored c v position word value (version_of m)).ring j ≡ y → slot_at v.ring j ≡ y
        was j y other e =
            dite (ℕ_discrete j (index_of c position))
            (λ at_s.
            absurd
            (other (sym (slot_here v.ring (index_of c position) (Live (version_of (with_word word value m)) Held) within)
            ∙ ap (slot_at (data_stored c v position word value (version_of m)).ring) (sym at_s) ∙ e)))
            (λ ne. sym (slot_else v.ring (index_of c position) j (Live (version_of (with_word word value m)) Held) ne) ∙ e)

        built_still : (o : Option Note) → HasBuilt c v.ring o → HasBuilt c (data_stored c v position word value (version_of m)).ring o
        built_still None a = tt
        built_still (Some b) a =
            let ne : index_of c v.ring.next ≢ index_of c position =
            λ e. let f : Built a.0 ≡ Live (version_of m) Held = sym a.1 ∙ ap (slot_at v.ring) e ∙ here in
            absurd (cc) in
            (a.0, slot_else v.ring (index_of c position) (index_of c v.ring.next) (Live (version_of (with_word word value m)) Held) ne ∙ a.1, a.2)

  -- the log stands for it
  pub stands_word : (w : Knowledge) → w ≡ word_stored c v position word value → Stands c w (word_noted l position word value)
  stands_word w is =
      let h = held_note c v l position k held in
      let x : version_at c v position ≡ version_of h.0 = ap version_in h.2 in
      subst (λ (u : Knowledge). Stands c u (word_noted l position word value)) (sym (is ∙ ap (data_stored c v position word value) x)) (stands_so h.0 h.1 h.2)
