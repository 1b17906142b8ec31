-- The log stands for the pass after its oldest write set was freed.
use Rattle.std.proofs.Common.{◌≡◌, ◌≢◌, ℕ, zero, suc, ◌+◌, ◌-◌, ◌<◌, ◌≤◌, nat_le, Bool, length, refl, sym, ap}
use Rattle.std.proofs.Common.{◌∙◌, subst, ⊎_elim, arith, le-leb, length-drop, Option, Some, None}
use Rattle.std.proofs.lemmas.Bool.{cases_lt, cases_eq, lt-leb}
use Rattle.std.specs.Prelude.{IfSome}
use Rattle.mv_layout.specs.declared.Config.{Config}
use Rattle.reader_marks.specs.mv_core.declared.ring.Slot.{Slot}
use Rattle.reader_marks.specs.mv_core.declared.ring.Slot.TheVariants.{Free, Built, Live, Freeing}
use Rattle.reader_marks.specs.mv_core.declared.ring.Version.{Version}
use Rattle.reader_marks.specs.mv_core.declared.ring.WriteSetStatus.{WriteSetStatus}
use Rattle.reader_marks.specs.mv_core.declared.view.Knowledge.{Knowledge}
use Rattle.reader_marks.specs.mv_core.declared.view.Past.{Past}
use Rattle.reader_marks.specs.mv_core.declared.view.Phase.TheVariants.{Outside}
use Rattle.reader_marks.specs.mv_core.Rings.{slot_at, index_of}
use Rattle.reader_marks.specs.mv_core.ReclaimSteps.{UsesPosition, MayFreeSlot, MayStoreFree, free_stored}
use Rattle.seat_log.specs.declared.version.Note.{Note}
use Rattle.seat_log.specs.Notes.{Noted, next_of, held_from, first_of, IsNoteAt, AreNoted, IsNextOf, IsLog}
use Rattle.seat_log.specs.Stands.{version_of, HasBuilt, IsAsNoted, writes_in, Stands}
use Rattle.seat_log.specs.Frees.{IsDeadNote, OldestIsDead, IsOldestSet, FreesSet, freed_noted, slots_freed}
use Rattle.seat_log.proofs.Places.{get_within, get_dropped}
use Rattle.seat_log.proofs.NotedSlots.{note_there, held_at, noted_at, apart, noted_in}
use Rattle.seat_log.proofs.FreedSlots.{none_going, Freed}
use Rattle.seat_log.proofs.FreedOldest.{dead_by, of_set, freed_after}

-- a comparison of numbers that both grew
le_shift : (a b i k : ℕ) → b ≡ a + k → nat_le b (k + i) ≡ nat_le a i
le_shift a b i k e =
    ⊎_elim
    (λ lt. lt-leb b (k + i) (omega arith) ∙ sym (lt-leb a i lt))
    (λ le. le-leb b (k + i) (omega arith) ∙ sym (le-leb a i le))
    (cases_lt i a)

module _ (c : Config) (v : Knowledge) (l : Noted) (k t : ℕ) (s : Stands c v l) (set : IsOldestSet l k)
    (dead : (i : ℕ) (n : Note) → IsNoteAt l i n → i < k → IsDeadNote t n) where
  abbrev f : ℕ
  f = l.freed

  abbrev at : ℕ → ℕ
  at i = index_of c (f + i)

  module _ (outside : v.phase ≡ Outside) (known : t ≤ v.grace) where
    oldest_first : (p u : ℕ) (z : Slot) → slot_at v.ring u ≡ z → UsesPosition z p → f + 0 ≤ p
    oldest_first p u Free is uses = absurd uses
    oldest_first p u (Built b) is uses = absurd uses
    oldest_first p u (Freeing q r) is uses = absurd (s.none_freeing u q r is)
    oldest_first p u (Live x st) is uses = let r = noted_in c v l s u x st is in let a = r.position_is in let b : x.position ≡ p = uses in omega arith

    -- the first slot may be freed
    may_first : 0 < k → MayStoreFree c v (f + 0)
    may_first some =
        let few = set.few in
        let head = noted_at c v l s 0 (omega arith) in
        let first : head.0.first ≡ f = set.inside 0 head.0 head.1 some in record {
          outside = outside;
          in_use = subst (λ (z : Slot). UsesPosition z (f + 0)) (sym head.2.lives) (s.log.notes.position 0 head.0 head.1);
          oldest = λ u p uses. oldest_first p u (slot_at v.ring u) refl uses;
          may_free = subst (MayFreeSlot v) (sym head.2.lives) (λ u y other is same.
              let r = noted_in c v l s u y other is in
              let own : r.note.first ≡ f = ap (λ (x : Version). x.first) (sym r.version_is) ∙ same ∙ first in
              dead_by t v.grace (nat_le (held_from l) r.index) r.note other known
              (dead r.index r.note r.at (of_set c v l k t s set dead r.index r.note r.at own)) r.as_noted);
        }

    module _ (w : Knowledge) (j : ℕ) (lt : j < k) (e : Freed c v w f k j) where
      oldest_next : (p u : ℕ) → UsesPosition (slot_at w.ring u) p → f + j ≤ p
      oldest_next p u uses =
          ⊎_elim
          (λ a.
          ⊎_elim
          (λ before. absurd (subst (λ (z : Slot). UsesPosition z p) (ap (slot_at w.ring) a.2 ∙ e.gone a.0 before) uses))
          (λ le. let q : f + a.0 ≡ p = subst (λ (z : Slot). UsesPosition z p) (ap (slot_at w.ring) a.2 ∙ e.going a.0 le a.1) uses in omega arith)
          (cases_lt a.0 j))
          (λ b. go (slot_at v.ring u) refl b.1 (subst (λ (z : Slot). UsesPosition z p) b.0 uses))
          (e.each u)
        where
          go : (z : Slot) → slot_at v.ring u ≡ z → ((x : Version) (st : WriteSetStatus) → slot_at v.ring u ≡ Live x st → f + k ≤ x.position)
              → UsesPosition z p → f + j ≤ p
          go Free is later uses = absurd uses
          go (Built b) is later uses = absurd uses
          go (Freeing q r) is later uses = absurd (s.none_freeing u q r is)
          go (Live x st) is later uses = let a = later x st is in let b : x.position ≡ p = uses in omega arith

      may_next : MayStoreFree c w (f + j)
      may_next = record {
        outside = ap (λ (u : Knowledge). u.phase) e.changes ∙ outside;
        in_use = subst (λ (z : Slot). UsesPosition z (f + j)) (sym (e.going j (omega arith) lt)) refl;
        oldest = λ u p uses. oldest_next p u uses;
        may_free = subst (MayFreeSlot w) (sym (e.going j (omega arith) lt)) tt;
      }

    -- each slot of the set may be freed after those before it
    pub may_free : (j : ℕ) → j < k → MayStoreFree c (slots_freed c v f j) (f + j)
    unfolding slots_freed
    may_free zero lt = may_first lt
    may_free (suc j) lt = may_next (slots_freed c v f (suc j)) (suc j) lt (freed_after c v l k t s set dead (suc j) (omega arith) (omega arith))

  module _ (some : 0 < k) where
    abbrev m : Noted
    m = freed_noted l k

    long : length m.live + k ≡ length l.live
    long = let a = length-drop k l.live in let few = set.few in omega arith

    next_is : next_of m ≡ next_of l
    next_is = let a = long in omega arith

    -- the last version of the set isn't held
    few_held : l.held + k ≤ length l.live
    few_held =
        let few = set.few in
        let i : ℕ = k - 1 in
        let a = noted_at c v l s i (omega arith) in
        let d = (dead i a.0 a.1 (omega arith)).0 in
        let some_held = s.log.held in
        ⊎_elim
        (λ lt. omega arith)
        (λ le. let z = (held_at c v l s i a.0 a.1 le).2 in absurd (omega arith))
        (cases_lt i (held_from l))

    first_is : first_of m ≡ first_of l
    first_is = ap (λ n. n - l.held) next_is

    -- what is left is of the sets after it
    after_set : (i : ℕ) (n : Note) → IsNoteAt l (k + i) n → f + k ≤ n.first
    after_set i n is =
        let few = set.few in
        let r = note_there l.live (k - 1) (omega arith) in
        let p = s.log.notes.position (k - 1) r.0 r.1 in
        ⊎_elim
        (λ lt.
        let same = s.log.notes.run (k + i) (k - 1) n r.0 is r.1 (omega arith) (omega arith) in
        absurd (set.outside (k + i) n is (omega arith) (sym same ∙ set.inside (k - 1) r.0 r.1 (omega arith))))
        (λ le. le)
        (cases_lt n.first (f + k))

    was : (i : ℕ) (n : Note) → IsNoteAt m i n → IsNoteAt l (k + i) n
    was i n is = sym (get_dropped k i l.live) ∙ is

    freed_are_noted : AreNoted m
    freed_are_noted =
        let few = few_held in
        let n_long = long in
        let firsts = first_is in record {
          position = λ i n is. let p = s.log.notes.position (k + i) n (was i n is) in omega arith;
          first = λ i n is. (after_set i n (was i n is), (s.log.notes.first (k + i) n (was i n is)).1);
          run = λ i j n other is is' le order. s.log.notes.run (k + i) (k + j) n other (was i n is) (was j other is') le (omega arith);
          held = λ i n is.
              let h = s.log.notes.held (k + i) n (was i n is) in
              ((λ le. h.0 (omega arith) ∙ sym firsts), (λ lt. let a = h.1 (omega arith) in let b : n.first < first_of m = omega arith in b));
        }

    still_built : (o : Option Note) → IfSome o (IsNextOf l) → IfSome o (IsNextOf m)
    still_built None x = x
    still_built (Some n) x = (x.0 ∙ sym next_is, x.1 ∙ sym first_is, x.2, x.3, x.4)

    freed_is_log : IsLog m
    freed_is_log =
        let k' = s.log in
        let n_long = long in
        let next = next_is in
        let few = few_held in record {
          seat = k'.seat;
          slots = k'.slots;
          room = (let a = k'.room in omega arith);
          held = omega arith;
          notes = freed_are_noted;
          built = still_built l.built k'.built;
          positions = (let a = k'.positions in omega arith);
          sets = (let a = k'.sets in omega arith);
          backs = (let a = k'.backs in omega arith);
          rests = k'.rests;
        }

    module _ (w : Knowledge) (e : Freed c v w f k k) where
      -- a slot that has something was as it is
      unchanged : (u : ℕ) (z : Slot) → slot_at w.ring u ≡ z → (z ≢ Free)
          → (slot_at v.ring u ≡ z) × ((x : Version) (st : WriteSetStatus) → slot_at v.ring u ≡ Live x st → f + k ≤ x.position)
      unchanged u z is used =
          ⊎_elim
          (λ a. absurd (used (sym is ∙ ap (slot_at w.ring) a.2 ∙ e.gone a.0 a.1)))
          (λ b. (sym b.0 ∙ is, b.1))
          (e.each u)

      -- a version of a later set has its slot
      still_lives : (i : ℕ) → i < length m.live → slot_at w.ring (at (k + i)) ≡ slot_at v.ring (at (k + i))
      still_lives i lt =
          let n_long = long in
          ⊎_elim
          (λ a. let lt' = a.1 in let z = apart c v l s (k + i) a.0 (omega arith) (omega arith) a.2 in absurd (omega arith))
          (λ b. b.0)
          (e.each (at (k + i)))

      none_freeing : (u p first : ℕ) → slot_at w.ring u ≢ Freeing p first
      none_freeing u p first is = s.none_freeing u p first (unchanged u (Freeing p first) is (λ g. absurd (cc))).0

      built_stays : (o : Option Note) → HasBuilt c v.ring o → HasBuilt c w.ring o
      built_stays None x = x
      built_stays (Some n) x =
          let next : index_of c w.ring.next ≡ index_of c v.ring.next = ap (index_of c) e.next in
          let same : slot_at w.ring (index_of c v.ring.next) ≡ slot_at v.ring (index_of c v.ring.next) = ⊎_elim
          (λ a.
          let few = set.few in
          let lt = a.1 in
          let r = note_there l.live a.0 (omega arith) in
          let h = s.live a.0 r.0 r.1 in
          let g : Live (version_of r.0) h.status ≡ Built x.0 = sym h.lives ∙ ap (slot_at v.ring) (sym a.2) ∙ x.1 in absurd (cc))
          (λ b. b.0)
          (e.each (index_of c v.ring.next)) in
          (x.0, ap (slot_at w.ring) next ∙ same ∙ x.1, x.2)

      stands_after : Stands c w m
      stands_after =
          let n_long = long in
          let next = next_is in
          let few = few_held in
          let past = ap (λ (u : Knowledge). u.past) e.changes in
          let spares = e.spare in
          let spare_before = s.spare in
          let frees = e.frees in
          let frees_before = s.frees in
          let cuts = e.cuts in
          let cuts_before = s.cuts in
          let going = none_going w.ring.slots none_freeing in
          let used = s.used in record {
            seat = s.seat ∙ sym (ap (λ (u : Knowledge). u.number) e.changes);
            slots = s.slots;
            wide = e.wide ∙ s.wide;
            log = freed_is_log;
            next = e.next ∙ s.next ∙ sym next;
            held = e.held ∙ s.held;
            live = λ i n is.
                let is' = was i n is in
                let lt = get_within m.live i n is in
                let old = s.live (k + i) n is' in
                let place : index_of c (m.freed + i) ≡ at (k + i) = ap (index_of c) (let a : l.freed + k + i ≡ l.freed + (k + i) = omega arith in a) in
                let flag : nat_le (held_from l) (k + i) ≡ nat_le (held_from m) i = le_shift (held_from m) (held_from l) i k (omega arith) in
                record {
                  status = old.status;
                  lives = ap (slot_at w.ring) place ∙ still_lives i lt ∙ old.lives;
                  as_noted = subst (λ (b : Bool). IsAsNoted b n old.status) flag old.as_noted;
                };
            all = λ u x st is.
                let b = unchanged u (Live x st) is (λ g. absurd (cc)) in
                let r = noted_in c v l s u x st b.0 in
                let late = b.1 x st b.0 in
                let p = r.position_is in
                let lt = r.within in
                (r.index - k, (omega arith), r.slot_is ∙ ap (index_of c) (let a : l.freed + r.index ≡ l.freed + k + (r.index - k) = omega arith in a));
            none_freeing = none_freeing;
            builds = λ u b is. s.builds u b (unchanged u (Built b) is (λ g. absurd (cc))).0;
            built = built_stays l.built s.built;
            spare = omega arith;
            commits = s.commits ∙ ap (λ (p : Past). length p.mine) (sym past);
            rests = s.rests ∙ ap (λ (p : Past). p.rests) (sym past);
            frees = omega arith;
            backs = s.backs ∙ sym e.backs;
            locks = next ∙ s.locks ∙ sym e.keeps.locks;
            aborts = s.aborts ∙ sym e.keeps.aborts;
            settled = e.keeps.settled s.settled;
            cuts = omega arith;
            used = subst (λ (q : Past). writes_in q.mine + l.held ≤ next_of m) (sym past) (omega arith);
            all_used = λ none. let all = s.all_used none in subst (λ (q : Past). next_of m ≡ writes_in q.mine + l.held) (sym past) (omega arith);
          }

-- nothing was freed
stands_none : (c : Config) (v : Knowledge) (l : Noted) (k : ℕ) → k ≡ 0 → Stands c v l → Stands c (slots_freed c v l.freed k) (freed_noted l k)
unfolding slots_freed
stands_none c v l k e s =
    subst (λ (n : ℕ). Stands c (slots_freed c v l.freed n) (freed_noted l n)) (sym e)
    (subst (λ (n : ℕ). Stands c v (record l { freed = n })) (let a : l.freed ≡ l.freed + 0 = omega arith in a) s)

-- where each version of the oldest write set is dead, so is each of the first k
dead_first : (l : Noted) (t k : ℕ) → OldestIsDead l t → IsOldestSet l k → (i : ℕ) (n : Note) → IsNoteAt l i n → i < k → IsDeadNote t n
dead_first l t k dead set i n is lt = dead i n is (set.inside i n is lt)

-- the log stands for the pass after what may be freed was freed
pub stands_freed : (c : Config) (v : Knowledge) (l : Noted) (t k : ℕ) → Stands c v l → FreesSet l t k → Stands c (slots_freed c v l.freed k) (freed_noted l k)
stands_freed c v l t k s frees =
    ⊎_elim
    (λ a.
    let dead = dead_first l t k a.0 a.1 in
    ⊎_elim
    (λ none. stands_none c v l k none s)
    (λ ne.
    let some : 0 < k = omega arith in
    stands_after c v l k t s a.1 dead some (slots_freed c v l.freed k) (freed_after c v l k t s a.1 dead k some (omega arith)))
    (cases_eq k 0))
    (λ b. stands_none c v l k b.1 s)
    frees

-- and each of its slots may be, after those before it
pub each_may_free : (c : Config) (v : Knowledge) (l : Noted) (t k : ℕ) → Stands c v l → v.phase ≡ Outside → t ≤ v.grace → FreesSet l t k → (j : ℕ) → j < k
    → MayStoreFree c (slots_freed c v l.freed j) (l.freed + j)
each_may_free c v l t k s outside known frees j lt =
    ⊎_elim (λ a. may_free c v l k t s a.1 (dead_first l t k a.0 a.1) outside known j lt) (λ b. let e = b.1 in absurd (omega arith)) frees

-- no more versions are freed than are live
pub few_freed : (l : Noted) (t k : ℕ) → FreesSet l t k → k ≤ length l.live
few_freed l t k frees = ⊎_elim (λ a. a.1.few) (λ b. let e = b.1 in omega arith) frees

-- the stores one by one
pub none_freed : (c : Config) (v : Knowledge) (p : ℕ) → v ≡ slots_freed c v p 0
unfolding slots_freed
none_freed c v p = refl

pub one_freed : (c : Config) (v w u : Knowledge) (p k : ℕ) → w ≡ slots_freed c v p k → u ≡ free_stored c w (p + k) → u ≡ slots_freed c v p (k + 1)
unfolding slots_freed
one_freed c v w u p k is is' = is' ∙ ap (λ (z : Knowledge). free_stored c z (p + k)) is ∙ (let e : suc k ≡ k + 1 = omega arith in ap (slots_freed c v p) e)
