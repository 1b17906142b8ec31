-- What a section holds is what the log has noted as held.
use Rattle.std.proofs.Common.{◌≡◌, ℕ, suc, ◌+◌, List, [], ◌∷◌, length, map, drop, refl, sym, ap, ◌∙◌, arith, Some, length-drop}
use Rattle.std.specs.Prelude.{slice_get}
use Rattle.std.proofs.lemmas.List.{length-map}
use Rattle.mv_layout.specs.declared.Config.{Config}
use Rattle.seat_log.specs.mv_core.declared.ring.Ring.{Ring}
use Rattle.seat_log.specs.mv_core.declared.ring.Version.{Version}
use Rattle.seat_log.specs.mv_core.declared.ring.WriteSetStatus.TheVariants.{Held}
use Rattle.seat_log.specs.mv_core.declared.view.Knowledge.{Knowledge}
use Rattle.seat_log.specs.mv_core.Rings.{slot_at, index_of, held_count, set_first, write_of, writes_from, own_of}
use Rattle.seat_log.specs.declared.version.Note.{Note}
use Rattle.seat_log.specs.Notes.{Noted, held_from}
use Rattle.seat_log.specs.Stands.{Stands}
use Rattle.seat_log.proofs.Places.{get_dropped}
use Rattle.seat_log.proofs.NotedSlots.{noted_in, held_last}
use Rattle.object_lock.specs.Tops.{IsUnheld}
use Rattle.object_lock.specs.Locks.{HoldsObject}

-- the write of a note
abbrev pub note_write : Note → ℕ × List ℕ
note_write n = (n.object, n.words)

-- the notes of what is held
abbrev pub held_notes : Noted → List Note
held_notes l = drop (held_from l) l.live

-- the writes of positions are those of the notes that are so
writes_noted : (c : Config) (r : Ring) (ns : List Note) (p : ℕ)
    → ((i : ℕ) (m : Note) → slice_get ns i ≡ Some m → write_of (slot_at r (index_of c (p + i))) ≡ note_write m)
    → writes_from c r p (length ns) ≡ map note_write ns
writes_noted c r [] p all = refl
writes_noted c r (n ∷ ns) p all =
    let first = all 0 n refl in
    let here : write_of (slot_at r (index_of c p)) ≡ note_write n =
    ap (λ (q : ℕ). write_of (slot_at r (index_of c q))) (let e : p ≡ p + 0 = omega arith in e) ∙ first in
    let rest =
    writes_noted c r ns (p + 1)
    (λ i m at. ap (λ (q : ℕ). write_of (slot_at r (index_of c q))) (let e : p + 1 + i ≡ p + suc i = omega arith in e) ∙ all (suc i) m at) in
    (λ i. here i ∷ rest i)

module _ (c : Config) (v : Knowledge) (l : Noted) (s : Stands c v l) where
  held_long : length (held_notes l) ≡ l.held
  held_long = let few = s.log.held in let d = length-drop (held_from l) l.live in omega arith

  pub own_is : own_of c v.ring ≡ map note_write (held_notes l)
  own_is =
      let few = s.log.held in
      let next = s.next in
      let count = s.held in
      let first : set_first v.ring ≡ l.freed + held_from l = omega arith in
      let long : held_count v.ring ≡ length (held_notes l) = count ∙ sym held_long in
      (λ i. writes_from c v.ring (first i) (long i))
      ∙ writes_noted c v.ring (held_notes l) (l.freed + held_from l)
      (λ i m at.
      let there = s.live (held_from l + i) m (sym (get_dropped (held_from l) i l.live) ∙ at) in
      ap (λ (q : ℕ). write_of (slot_at v.ring (index_of c q))) (let e : l.freed + held_from l + i ≡ l.freed + (held_from l + i) = omega arith in e)
      ∙ ap write_of there.lives)

  pub own_long : length (own_of c v.ring) ≡ l.held
  own_long = ap length own_is ∙ length-map (held_notes l) note_write ∙ held_long

  -- what isn't noted as held isn't
  pub unheld_is : (object : ℕ) → ¬ (HoldsObject l object) → IsUnheld v object
  unheld_is object none k x at same =
      let r = noted_in c v l s k x Held at in
      none (r.index, r.note, r.at, held_last c v l s k x r, sym (ap (λ (z : Version). z.object) r.version_is) ∙ same)
