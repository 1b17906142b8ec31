-- The stores that free the oldest write set of the own log, one after another.
use Rattle.std.proofs.Common.{◌≡◌, ◌≢◌, ◌⊎◌, ℕ, zero, suc, ◌+◌, ◌<◌, ◌≤◌, nat_le, Bool, count_by, length, map, refl}
use Rattle.std.proofs.Common.{sym, ap, ◌∙◌, subst, inl, inr, ⊎_elim, arith, Some, None}
use Rattle.std.proofs.lemmas.Bool.{cases_lt}
use Rattle.std.proofs.lemmas.List.{length-map, length-set}
use mathlib.Core.Logic.{dite}
use native.Mathlib.Decide.{ℕ_discrete}
use Rattle.mv_layout.specs.declared.Config.{Config}
use Rattle.mv_layout.specs.declared.SharedWord.TheVariants.{Stamp}
use Rattle.mv_history.specs.declared.StepKind.TheVariants.{StoreFree}
use Rattle.reader_marks.specs.mv_core.declared.ring.Ring.{Ring}
use Rattle.reader_marks.specs.mv_core.declared.ring.Slot.{Slot}
use Rattle.reader_marks.specs.mv_core.declared.ring.Slot.TheVariants.{Free, Built, Live, Freeing}
use Rattle.reader_marks.specs.mv_core.declared.ring.Version.{Version}
use Rattle.reader_marks.specs.mv_core.declared.ring.WriteSetStatus.{WriteSetStatus}
use Rattle.reader_marks.specs.mv_core.declared.ring.WriteSetStatus.TheVariants.{Held, Aborted, Committed}
use Rattle.reader_marks.specs.mv_core.declared.view.Knowledge.{Knowledge}
use Rattle.reader_marks.specs.mv_core.Rings.{slot_at, index_of, put_slot, is_held, is_spare}
use Rattle.reader_marks.specs.mv_core.Views.{with_step}
use Rattle.reader_marks.specs.mv_core.ReclaimSteps.{IsDeadBy, freeing_slot, freed_ring, free_stored}
use Rattle.reader_marks.proofs.mv_core_lemmas.logs.Slots.{slot_here, slot_else, slot_mapped, slot_within}
use Rattle.reader_marks.proofs.mv_core_lemmas.logs.Counts.{count_same, count_more, count_less, count_mapped}
use Rattle.seat_log.specs.declared.version.Note.{Note}
use Rattle.seat_log.specs.Notes.{Noted, held_from, IsNoteAt}
use Rattle.seat_log.specs.Stands.{version_of, death_of, IsAsNoted, HasNoted, is_cut, is_free, is_won_cut, Stands}
use Rattle.seat_log.specs.Frees.{IsDeadNote, IsOldestSet, slots_freed}
use Rattle.seat_log.proofs.BuildsOn.{unpassed}
use Rattle.seat_log.proofs.FreedSlots.{passed, is_going, count_at, freeing_in, freeing_out, spare_freeing, cuts_freeing, Freed}
use Rattle.seat_log.proofs.NotedSlots.{noted_at, apart, noted_in}
use Rattle.seat_log.proofs.StepCounts.{keeps_one, keeps_then}

-- a noted time of death, by the status
pub dead_by : (t g : ℕ) (b : Bool) (n : Note) (st : WriteSetStatus) → t ≤ g → IsDeadNote t n → IsAsNoted b n st → IsDeadBy g st
dead_by t g b n Held le dead a = let d = dead.0 in let z = a.2 in absurd (omega arith)
dead_by t g b n (Aborted dead') le dead a = let d = dead.1 in (n.dead, a.3, omega arith)
dead_by t g b n (Committed note) le dead a = let d = dead.1 in (n.dead, a.3 ∙ some_death n.dead dead.0, omega arith)
  where
    some_death : (d : ℕ) → 0 < d → death_of d ≡ Some d
    some_death zero lt = absurd (omega arith)
    some_death (suc d) lt = refl

module _ (c : Config) (v : Knowledge) (l : Noted) (k t : ℕ) (s : Stands c v l) (set : IsOldestSet l k)
    (dead : (i : ℕ) (n : Note) → IsNoteAt l i n → i < k → IsDeadNote t n) where
  abbrev f : ℕ
  f = l.freed

  -- where a version of the set is
  abbrev at : ℕ → ℕ
  at i = index_of c (f + i)

  -- a version whose set begins at the oldest position is one of the first k
  pub of_set : (i : ℕ) (n : Note) → IsNoteAt l i n → n.first ≡ f → i < k
  of_set i n is first = ⊎_elim (λ a. a) (λ b. absurd (set.outside i n is b first)) (cases_lt i k)

  -- none of the set is held
  not_held : (x : Version) (u : ℕ) → slot_at v.ring u ≡ Live x Held → x.first ≢ f
  not_held x u is first =
      let r = noted_in c v l s u x Held is in
      let own : r.note.first ≡ f = ap (λ (y : Version). y.first) (sym r.version_is) ∙ first in
      let d = (dead r.index r.note r.at (of_set r.index r.note r.at own)).0 in
      let z = r.as_noted.2 in absurd (omega arith)

  held_freeing : (u : ℕ) (z : Slot) → slot_at v.ring u ≡ z → is_held (freeing_slot f z) ≡ is_held z
  held_freeing u Free is = refl
  held_freeing u (Built b) is = refl
  held_freeing u (Freeing p q) is = refl
  held_freeing u (Live x Held) is = ap is_held (freeing_out f x Held (not_held x u is))
  held_freeing u (Live x (Aborted d)) is =
      dite (ℕ_discrete x.first f) (λ e. ap is_held (freeing_in f x (Aborted d) e)) (λ ne. ap is_held (freeing_out f x (Aborted d) ne))
  held_freeing u (Live x (Committed note)) is =
      dite (ℕ_discrete x.first f) (λ e. ap is_held (freeing_in f x (Committed note) e)) (λ ne. ap is_held (freeing_out f x (Committed note) ne))

  module _ (some : 0 < k) where
    -- the first version of the set
    abbrev head : (n : Note) × IsNoteAt l 0 n × HasNoted c v.ring (f + 0) (nat_le (held_from l) 0) n
    head = noted_at c v l s 0 (let few = set.few in omega arith)

    abbrev mid : Ring
    mid = record v.ring { slots = map (freeing_slot f) v.ring.slots }

    here : slot_at v.ring (at 0) ≡ Live (version_of head.0) head.2.status
    here = head.2.lives

    head_first : head.0.first ≡ f
    head_first = set.inside 0 head.0 head.1 some

    mid_is : (u : ℕ) → slot_at mid u ≡ freeing_slot f (slot_at v.ring u)
    mid_is u = slot_mapped (freeing_slot f) refl v.ring u

    mid_in : (i : ℕ) → i < k → slot_at mid (at i) ≡ Freeing (f + i) f
    mid_in i lt =
        let few = set.few in
        let a = noted_at c v l s i (omega arith) in
        mid_is (at i) ∙ ap (freeing_slot f) a.2.lives ∙ freeing_in f (version_of a.0) a.2.status (set.inside i a.0 a.1 lt)
        ∙ ap (λ p. Freeing p f) (s.log.notes.position i a.0 a.1)

    within : at 0 < length mid.slots
    within = slot_within mid (at 0) (λ free. let e : Freeing (f + 0) f ≡ Free = sym (mid_in 0 some) ∙ free in absurd (cc))

    abbrev first_ring : Ring
    first_ring = put_slot mid (at 0) Free

    other_slot : (u : ℕ) (z : Slot) → slot_at v.ring u ≡ z → freeing_slot f z ≡ z → ((x : Version) (st : WriteSetStatus) → z ≡ Live x st → f + k ≤ x.position)
        → (u ≢ at 0)
        → ((i : ℕ) × (i < k) × (u ≡ at i))
        ⊎ ((slot_at first_ring u ≡ slot_at v.ring u) × ((x : Version) (st : WriteSetStatus) → slot_at v.ring u ≡ Live x st → f + k ≤ x.position))
    other_slot u z is same later ne =
        inr (slot_else mid (at 0) u Free ne ∙ mid_is u ∙ ap (freeing_slot f) is ∙ same ∙ sym is, λ x st e. later x st (sym is ∙ e))

    first_each : (u : ℕ) (z : Slot) → slot_at v.ring u ≡ z
        → ((i : ℕ) × (i < k) × (u ≡ at i))
        ⊎ ((slot_at first_ring u ≡ slot_at v.ring u) × ((x : Version) (st : WriteSetStatus) → slot_at v.ring u ≡ Live x st → f + k ≤ x.position))
    first_each u Free is =
        other_slot u Free is refl (λ x st e. absurd (cc))
        (λ e. let g : Free ≡ Live (version_of head.0) head.2.status = sym is ∙ ap (slot_at v.ring) e ∙ here in absurd (cc))
    first_each u (Built b) is =
        other_slot u (Built b) is refl (λ x st e. absurd (cc))
        (λ e. let g : Built b ≡ Live (version_of head.0) head.2.status = sym is ∙ ap (slot_at v.ring) e ∙ here in absurd (cc))
    first_each u (Freeing p q) is = absurd (s.none_freeing u p q is)
    first_each u (Live x st) is =
        let r = noted_in c v l s u x st is in
        let few = set.few in
        ⊎_elim
        (λ lt. inl (r.index, lt, r.slot_is))
        (λ le.
        let p = r.position_is in
        let ne : x.first ≢ f = λ e. set.outside r.index r.note r.at le (ap (λ (y : Version). y.first) (sym r.version_is) ∙ e) in
        other_slot u (Live x st) is (freeing_out f x st ne)
        (λ y su e. let same : x ≡ y = (let g : Live x st ≡ Live y su = e in cc) in let q = ap (λ (z : Version). z.position) same in omega arith)
        (λ e. let zero_is = apart c v l s r.index 0 r.within (omega arith) (sym r.slot_is ∙ e) in omega arith))
        (cases_lt r.index k)

    -- the first store makes all of them slots that are being freed
    first_freed : Freed c v (free_stored c v (f + 0)) f k 1
    first_freed =
        let ring_is : freed_ring v.ring (at 0) (slot_at v.ring (at 0)) ≡ first_ring =
        ap (freed_ring v.ring (at 0)) here ∙ ap (λ g. put_slot (record v.ring { slots = map (freeing_slot g) v.ring.slots }) (at 0) Free) head_first in
        let few = set.few in
        subst (λ (r : Ring). Freed c v (record v { ring = r; trail = with_step c v StoreFree (Stamp v.number (at 0)) None (Some 0) }) f k 1) (sym ring_is)
        (record {
          changes = refl;
          next = refl;
          wide = length-set mid.slots (at 0) Free ∙ length-map v.ring.slots (freeing_slot f);
          held = count_same mid (at 0) Free within is_held (sym (ap is_held (mid_in 0 some)))
              ∙ count_at is_held (freeing_slot f) v.ring.slots (λ u. held_freeing u (slot_at v.ring u) refl);
          spare = count_more mid (at 0) Free within is_spare (ap is_spare (mid_in 0 some)) refl
              ∙ ap (λ n. n + 1) (count_mapped is_spare (freeing_slot f) (spare_freeing f) v.ring.slots);
          cuts = (let a = cuts_freeing f v.ring.slots in
              let b = count_same mid (at 0) Free within is_cut (sym (ap is_cut (mid_in 0 some))) in
              let d = count_less mid (at 0) Free within is_going (ap is_going (mid_in 0 some)) refl in omega arith);
          frees = passed is_free v.trail _ refl;
          backs = unpassed is_won_cut v.trail _ refl;
          keeps = keeps_one v.trail _ refl refl;
          gone = λ i lt. let e : i ≡ 0 = omega arith in ap (λ j. slot_at first_ring (at j)) e ∙ slot_here mid (at 0) Free within;
          going = λ i le lt. slot_else mid (at 0) (at i) Free (λ e. let z = apart c v l s i 0 (omega arith) (omega arith) e in omega arith) ∙ mid_in i lt;
          each = λ u. first_each u (slot_at v.ring u) refl;
        })

  -- each further store frees one of them
  module _ (w : Knowledge) (j : ℕ) (lt : j < k) (later : 0 < j) (e : Freed c v w f k j) where
    freed_here : slot_at w.ring (at j) ≡ Freeing (f + j) f
    freed_here = e.going j (omega arith) lt

    next_within : at j < length w.ring.slots
    next_within = slot_within w.ring (at j) (λ free. let g : Freeing (f + j) f ≡ Free = sym freed_here ∙ free in absurd (cc))

    abbrev next_ring : Ring
    next_ring = put_slot w.ring (at j) Free

    next_freed : Freed c v (free_stored c w (f + j)) f k (j + 1)
    next_freed =
        let ring_is : freed_ring w.ring (at j) (slot_at w.ring (at j)) ≡ next_ring = ap (freed_ring w.ring (at j)) freed_here in
        let few = set.few in
        subst (λ (r : Ring). Freed c v (record w { ring = r; trail = with_step c w StoreFree (Stamp w.number (at j)) None (Some 0) }) f k (j + 1)) (sym ring_is)
        (record {
          changes = ap (λ (u : Knowledge). record u { ring = next_ring; trail = with_step c w StoreFree (Stamp w.number (at j)) None (Some 0) }) e.changes;
          next = e.next;
          wide = length-set w.ring.slots (at j) Free ∙ e.wide;
          held = count_same w.ring (at j) Free next_within is_held (sym (ap is_held freed_here)) ∙ e.held;
          spare = (let a = count_more w.ring (at j) Free next_within is_spare (ap is_spare freed_here) refl in let b = e.spare in omega arith);
          cuts = (let a = e.cuts in
              let b = count_same w.ring (at j) Free next_within is_cut (sym (ap is_cut freed_here)) in
              let d = count_less w.ring (at j) Free next_within is_going (ap is_going freed_here) refl in omega arith);
          frees =
              passed is_free w.trail _ refl ∙ (let b = e.frees in let q : count_by is_free w.trail + 1 ≡ count_by is_free v.trail + (j + 1) = omega arith in q);
          backs = unpassed is_won_cut w.trail _ refl ∙ e.backs;
          keeps = keeps_then v.trail w.trail _ e.keeps (keeps_one w.trail _ refl refl);
          gone = λ i b.
              dite (ℕ_discrete i j)
              (λ same. ap (λ n. slot_at next_ring (at n)) same ∙ slot_here w.ring (at j) Free next_within)
              (λ ne. slot_else w.ring (at j) (at i) Free (λ g. let z = apart c v l s i j (omega arith) (omega arith) g in ne z) ∙ e.gone i (omega arith));
          going = λ i le b.
              slot_else w.ring (at j) (at i) Free (λ g. let z = apart c v l s i j (omega arith) (omega arith) g in omega arith) ∙ e.going i (omega arith) b;
          each = λ u.
              dite (ℕ_discrete u (at j))
              (λ same. inl (j, lt, same))
              (λ ne. ⊎_elim inl (λ b. inr (slot_else w.ring (at j) u Free ne ∙ b.0, b.1)) (e.each u));
        })

  -- so after j of them
  pub freed_after : (j : ℕ) → 0 < j → j ≤ k → Freed c v (slots_freed c v f j) f k j
  unfolding slots_freed
  freed_after zero lt le = absurd (omega arith)
  freed_after (suc zero) lt le = first_freed (omega arith)
  freed_after (suc (suc j)) lt le =
      let r = next_freed (slots_freed c v f (suc j)) (suc j) (omega arith) (omega arith) (freed_after (suc j) (omega arith) (omega arith)) in
      let e : suc j + 1 ≡ suc (suc j) = omega arith in
      subst (Freed c v (slots_freed c v f (suc (suc j))) f k) e r
