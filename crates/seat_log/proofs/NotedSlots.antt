-- The notes of a log that stands for its pass, and the slots that have the versions they are of.
use Rattle.std.proofs.Common.{◌≡◌, ℕ, zero, suc, ◌+◌, ◌<◌, ◌≤◌, nat_le, true, false, List, [], ◌∷◌, length, refl, sym, ap}
use Rattle.std.proofs.Common.{◌∙◌, subst, ⊎_elim, arith, le-leb, Some, slice_get}
use Rattle.std.proofs.lemmas.Bool.{cases_lt, leb-true}
use Rattle.mv_layout.specs.declared.Config.{Config}
use Rattle.reader_marks.specs.mv_core.declared.ring.Slot.TheVariants.{Live}
use Rattle.reader_marks.specs.mv_core.declared.ring.Version.{Version}
use Rattle.reader_marks.specs.mv_core.declared.ring.WriteSetStatus.{WriteSetStatus}
use Rattle.reader_marks.specs.mv_core.declared.ring.WriteSetStatus.TheVariants.{Held, Aborted, Committed}
use Rattle.reader_marks.specs.mv_core.declared.view.Knowledge.{Knowledge}
use Rattle.reader_marks.specs.mv_core.Rings.{slot_at, index_of}
use Rattle.reader_marks.proofs.mv_core_lemmas.logs.Links.{live_once}
use Rattle.reader_marks.proofs.mv_core_lemmas.logs.HeldSet.{slots_apart}
use Rattle.seat_log.specs.declared.version.Note.{Note}
use Rattle.seat_log.specs.Notes.{Noted, held_from, IsNoteAt}
use Rattle.seat_log.specs.Stands.{version_of, IsAsNoted, HasNoted, Stands}

-- there is a note at each place of a list
pub note_there : (ns : List Note) (i : ℕ) → i < length ns → (n : Note) × (slice_get ns i ≡ Some n)
note_there [] i lt = absurd (omega arith)
note_there (n ∷ ns) zero lt = (n, refl)
note_there (n ∷ ns) (suc i) lt = note_there ns i (omega arith)

-- what is noted as held is held
pub held_status : (n : Note) (st : WriteSetStatus) → IsAsNoted true n st → (st ≡ Held) × (n.time ≡ 0) × (n.dead ≡ 0)
held_status n Held a = (refl, a.1, a.2)
held_status n (Aborted d) a = let e : true ≡ false = a.0 in absurd (cc)
held_status n (Committed note) a = let e : true ≡ false = a.0 in absurd (cc)

-- two places of the ring that are less than its slots apart differ
pub places_apart : (c : Config) (a i j : ℕ) → i < c.slots → j < c.slots → index_of c (a + i) ≡ index_of c (a + j) → i ≡ j
places_apart c a i j low high e =
    ⊎_elim
    (λ lt. absurd (slots_apart c.slots (a + i) (a + j) (omega arith) (omega arith) e))
    (λ le. ⊎_elim (λ lt. absurd (slots_apart c.slots (a + j) (a + i) (omega arith) (omega arith) (sym e))) (λ ge. omega arith) (cases_lt j i))
    (cases_lt i j)

-- A version of the view's log as it is noted: the place of its note, and that its slot is the one of that place.
pub record NotedSlot (c : Config) (l : Noted) (slot : ℕ) (x : Version) (st : WriteSetStatus) : Type 0 where
  pub index : ℕ
  pub note : Note
  pub within : index < length l.live
  pub at : IsNoteAt l index note
  pub slot_is : slot ≡ index_of c (l.freed + index)
  pub version_is : x ≡ version_of note
  pub position_is : x.position ≡ l.freed + index
  pub as_noted : IsAsNoted (nat_le (held_from l) index) note st

module _ (c : Config) (v : Knowledge) (l : Noted) (k : Stands c v l) where
  -- a live version, as it is noted
  pub noted_at : (i : ℕ) → i < length l.live → (n : Note) × IsNoteAt l i n × HasNoted c v.ring (l.freed + i) (nat_le (held_from l) i) n
  noted_at i lt = let r = note_there l.live i lt in (r.0, r.1, k.live i r.0 r.1)

  -- live versions have slots of their own
  pub apart : (i j : ℕ) → i < length l.live → j < length l.live → index_of c (l.freed + i) ≡ index_of c (l.freed + j) → i ≡ j
  apart i j lt lt' e =
      let room = k.log.room in
      let slots = k.slots in
      places_apart c l.freed i j (omega arith) (omega arith) e

  -- what is in a slot that has a version: one of those noted
  pub noted_in : (t : ℕ) (x : Version) (st : WriteSetStatus) → slot_at v.ring t ≡ Live x st → NotedSlot c l t x st
  noted_in t x st is =
      let r = k.all t x st is in
      let a = noted_at r.0 r.1 in
      let one = live_once (slot_at v.ring t) x (version_of a.0) st a.2.status is (ap (slot_at v.ring) r.2 ∙ a.2.lives) in
      record {
        index = r.0;
        note = a.0;
        within = r.1;
        at = a.1;
        slot_is = r.2;
        version_is = one.0;
        position_is = ap (λ (y : Version). y.position) one.0 ∙ k.log.notes.position r.0 a.0 a.1;
        as_noted = subst (IsAsNoted (nat_le (held_from l) r.0) a.0) (sym one.1) a.2.as_noted;
      }

  -- a held version is noted at one of the last places
  pub held_last : (t : ℕ) (x : Version) (r : NotedSlot c l t x Held) → held_from l ≤ r.index
  held_last t x r = leb-true (held_from l) r.index r.as_noted.0

  -- and what is noted there is held
  pub held_at : (i : ℕ) (n : Note) → IsNoteAt l i n → held_from l ≤ i
      → (slot_at v.ring (index_of c (l.freed + i)) ≡ Live (version_of n) Held) × (n.time ≡ 0) × (n.dead ≡ 0)
  held_at i n is from =
      let h = k.live i n is in
      let held = held_status n h.status (subst (λ b. IsAsNoted b n h.status) (le-leb (held_from l) i from) h.as_noted) in
      (h.lives ∙ ap (Live (version_of n)) held.0, held.1, held.2)
