-- The log stands for the pass after a word of the built version was stored again, and after one of a held version was.
use Rattle.std.proofs.Common.{◌≡◌, ℕ, zero, suc, ◌+◌, ◌-◌, ◌<◌, List, [], ◌∷◌, length, map, refl, sym, ap, ◌∙◌, subst, arith, Option, Some}
use Rattle.std.specs.Prelude.{slice_set, unwrap_or}
use Rattle.std.proofs.lemmas.List.{length-map, length-set}
use Rattle.mv_layout.specs.declared.Config.{Config}
use Rattle.reader_marks.specs.mv_core.declared.ring.Slot.TheVariants.{Live}
use Rattle.reader_marks.specs.mv_core.declared.ring.Build.{Build}
use Rattle.reader_marks.specs.mv_core.declared.ring.WriteSetStatus.TheVariants.{Held}
use Rattle.reader_marks.specs.mv_core.declared.view.Knowledge.{Knowledge}
use Rattle.reader_marks.specs.mv_core.Rings.{slot_at, index_of}
use Rattle.reader_marks.specs.mv_core.LockSteps.{nothing_built, build_in, built_too}
use Rattle.seat_log.specs.declared.version.Note.{Note}
use Rattle.seat_log.specs.Notes.{Noted, built_count, IsNoteAt, IsNextOf, IsHeld, with_word, without_previous, cleared, built_word, built_word_noted}
use Rattle.seat_log.specs.Stands.{version_of, IsAllStored, HasBuilt, Stands}
use Rattle.seat_log.specs.Builds.{IsOpen, build_at, stored_next}
use Rattle.seat_log.proofs.Noting.{built_next}
use Rattle.seat_log.proofs.BuildsOn.{BuildsOn, builds_first}
use Rattle.seat_log.proofs.NotedSlots.{note_there, held_at}
use Rattle.seat_log.proofs.Standing.{may_build, stands_on, built_is_log}

module _ (c : Config) (v w : Knowledge) (l : Noted) (n : Note) (position field x : ℕ) (k : Stands c v l) (built : l.built ≡ Some n)
    (at : n.position ≡ position) (open_is : IsOpen v) (is : w ≡ stored_next c v position field x) where
  -- one more store into the built slot
  stands_field : (m : Note) → ((b : Build) → IsAllStored b n → IsAllStored (built_too b field x) m) → IsNextOf l m → Stands c w (record l { built = Some m })
  stands_field m again next =
      let o : HasBuilt c v.ring (Some n) = subst (HasBuilt c v.ring) built k.built in
      let was : IsNextOf l n = built_next l n built k.log in
      let here : position ≡ v.ring.next = sym at ∙ was.0 ∙ sym k.next in
      let one : built_count l.built ≡ 1 = ap built_count built in
      let few = k.log.room in
      let room : length l.live < l.slots = omega arith in
      let may = may_build c v l k position here open_is room in
      let b : Build = built_too o.0 field x in
      let same : build_at c v position ≡ o.0 = ap (λ z. unwrap_or (build_in z) nothing_built) (ap (λ p. slot_at v.ring (index_of c p)) here ∙ o.1) in
      let on : BuildsOn c v w position b =
      subst (λ (a : Build). BuildsOn c v w position (built_too a field x)) same
      (subst (λ (u : Knowledge). BuildsOn c v u position (built_too (build_at c v position) field x)) (sym is) (builds_first c v position field x may.within))
      in
      let whole : IsAllStored b m = again o.0 o.2 in
      let long : length b.words ≡ 6 = ap length whole.words ∙ length-map m.words Some ∙ whole.wide in
      let still : w.ring.next ≡ position = ap (λ (u : Knowledge). u.ring.next) on.rest ∙ sym here in
      stands_on c v w l position b k room here on (Some m) (built_is_log l (Some m) (omega arith) next k.log) long
      (b, ap (λ p. slot_at w.ring (index_of c p)) still ∙ on.here, whole)

-- PREV of the built version is 0
pub stands_cleared : (c : Config) (v w : Knowledge) (l : Noted) (n : Note) (position : ℕ) → Stands c v l → l.built ≡ Some n → n.position ≡ position
    → IsOpen v → w ≡ stored_next c v position 2 0 → Stands c w (cleared l)
stands_cleared c v w l n position k built at open_is is =
    let m : Note = record n { previous = 0 } in
    let next = built_next l n built k.log in
    subst (λ (o : Option Note). Stands c w (record l { built = o })) (sym (ap without_previous built))
    (stands_field c v w l n position 2 0 k built at open_is is m
    (λ b whole. record { first = whole.first; stamp = whole.stamp; previous = refl; successor = whole.successor; words = whole.words; wide = whole.wide })
    next)

-- a store in a list of what is there
map-set : (ws : List ℕ) (i x : ℕ) → slice_set (map Some ws) i (Some x) ≡ map Some (slice_set ws i x)
map-set [] i x = refl
map-set (w ∷ ws) zero x = refl
map-set (w ∷ ws) (suc i) x = ap (λ l. Some w ∷ l) (map-set ws i x)

-- a data word of the built version is another one
pub stands_built_word : (c : Config) (v w : Knowledge) (l : Noted) (n : Note) (position word value : ℕ) → Stands c v l → l.built ≡ Some n
    → n.position ≡ position → IsOpen v → w ≡ stored_next c v position (4 + word) value → Stands c w (built_word_noted l word value)
stands_built_word c v w l n position word value k built at open_is is =
    let m : Note = with_word word value n in
    let next = built_next l n built k.log in
    subst (λ (o : Option Note). Stands c w (record l { built = o })) (sym (ap (built_word word value) built))
    (stands_field c v w l n position (4 + word) value k built at open_is is m
    (λ b whole.
    let data_field : suc (suc (suc (suc word))) ≡ 4 + word = omega arith in
    subst (λ (f : ℕ). IsAllStored (built_too b f value) m) data_field (record {
      first = whole.first;
      stamp = whole.stamp;
      previous = whole.previous;
      successor = whole.successor;
      words = ap (λ ws. slice_set ws word (Some value)) whole.words ∙ map-set n.words word value;
      wide = length-set n.words word value ∙ whole.wide;
    }))
    next)

-- the note of a held version, and its slot
pub held_note : (c : Config) (v : Knowledge) (l : Noted) (position : ℕ) → Stands c v l → IsHeld l position
    → (n : Note) × IsNoteAt l (position - l.freed) n × (slot_at v.ring (index_of c position) ≡ Live (version_of n) Held)
held_note c v l position k held =
    let few = k.log.held in
    let low = held.0 in
    let high = held.1 in
    let i : ℕ = position - l.freed in
    let r = note_there l.live i (omega arith) in
    let at : l.freed + i ≡ position = omega arith in
    (r.0, r.1, ap (λ p. slot_at v.ring (index_of c p)) (sym at) ∙ (held_at c v l k i r.0 r.1 (omega arith)).0)
