-- What a pass and its log mean is a lawful seat, and in a section a lawful section.
use Rattle.std.proofs.Common.{◌≡◌, ◌≢◌, ℕ, zero, suc, ◌+◌, ◌-◌, ◌%◌, ◌<◌, ◌≤◌, Bool, true, not, ◌&&◌, nat_le}
use Rattle.std.proofs.Common.{List, [], ◌∷◌, length, map, drop, refl, sym, ap, ◌∙◌, subst, ⊎_elim, arith, eq-eqb, length-drop, Some}
use Rattle.std.specs.Prelude.{slice_get, slice_index_or}
use Rattle.std.proofs.Math.Logic.{∥∥₁_elim}
use Rattle.std.proofs.lemmas.Bool.{le-leb}
use native.Mathlib.Decide.{dec_lt}
use Rattle.std.proofs.lemmas.List.{get_or-drop}
use mathlib.Core.Logic.{dite}
use Rattle.std.proofs.lemmas.List.Elements.{All-nil, All-cons, All-from_get_or}
use Rattle.std.proofs.lemmas.Option.{slice_get_within, slice_get-get_or}
use Rattle.mv_history.specs.declared.Entry.{Entry}
use Rattle.mv_history.specs.declared.Entry.TheVariants.{Rest}
use Rattle.mv_history.specs.State.{State, Writes, touches, maker_of, writes_of}
use Rattle.mv_history.specs.Legal.{IsWords, AreWithin, AreWrites, AreApart, NoneWrites, NoneBy, are_distinct}
use Rattle.mv_history.specs.Laws.{IsSeat-prop, IsSection-prop}
use Rattle.mv_history.specs.Meaning.{IsSeat, IsSection}
use Rattle.mv_layout.specs.declared.Config.{Config}
use Rattle.object_lock.specs.mv_core.declared.ring.Slot.TheVariants.{Live}
use Rattle.object_lock.specs.mv_core.declared.ring.WriteSetStatus.{WriteSetStatus}
use Rattle.object_lock.specs.mv_core.declared.ring.WriteSetStatus.TheVariants.{Held, Aborted, Committed}
use Rattle.object_lock.specs.mv_core.declared.view.Knowledge.{Knowledge}
use Rattle.object_lock.specs.mv_core.declared.view.OwnSection.{OwnSection}
use Rattle.object_lock.specs.mv_core.Rings.{slot_at, index_of, own_of}
use Rattle.object_lock.specs.mv_core.Times.{is_by, writes_to, latest, IsEntry}
use Rattle.object_lock.specs.mv_core.Views.{time_in, IsUnnamed}
use Rattle.object_lock.specs.mv_core.Known.{Known, KnownSection, KnownHeld}
use Rattle.object_lock.proofs.mv_core_lemmas.logs.HeldSet.{slots_apart}
use Rattle.object_lock.proofs.mv_core_lemmas.history.Latest.{last_that-reaches, latest-reaches}
use Rattle.object_lock.proofs.mv_core_lemmas.logs.Written.{write_there}
use Rattle.object_lock.proofs.mv_core_lemmas.kinds.naming.entry.NewEntry.{bool_is}
use Rattle.object_lock.specs.seat_log.declared.version.Note.{Note}
use Rattle.object_lock.specs.seat_log.Notes.{Noted, held_from}
use Rattle.object_lock.proofs.seat_log_lemmas.Places.{get_dropped}
use Rattle.object_lock.specs.seat_log.Stands.{version_of, IsAsNoted, Stands}
use Rattle.object_lock.specs.version_chain.Walks.{section_in, time_at, MayWalk}
use Rattle.object_lock.proofs.OwnNotes.{note_write, held_notes, own_is, own_long}
use Rattle.mvrlu.specs.Placed.{Placed, seat_from, section_from, IsPlaced, IsBusy}

-- a seat
seat_known : (starts : State → Type 0) (allows : List ℕ → State → Writes → Type 0) (p : Placed) → Known starts allows p.view
    → IsSeat starts allows (seat_from p)
seat_known starts allows p k = record {
  start = k.opening;
  words = k.words;
  legal = k.legal;
  allowed = k.allowed;
  mine = k.mine;
  rests = k.rests;
  time = k.in_time;
  last = omega arith;
}

pub seat_lawful : (starts : State → Type 0) (allows : List ℕ → State → Writes → Type 0) → ((s : State) → IsProp (starts s))
    → ((t : List ℕ) (s : State) (w : Writes) → IsProp (allows t s w)) → (p : Placed) → IsPlaced starts allows p → IsSeat starts allows (seat_from p)
seat_lawful starts allows one_start one_allowed p is =
    ∥∥₁_elim is.known (IsSeat-prop starts allows one_start one_allowed (seat_from p)) (seat_known starts allows p)

-- a version that is noted as held is
as_held : (b : Bool) (n : Note) (st : WriteSetStatus) → b ≡ true → IsAsNoted b n st → st ≡ Held
as_held b n Held e a = refl
as_held b n (Aborted dead) e a = let other = a.0 in absurd (cc)
as_held b n (Committed note) e a = let other = a.0 in absurd (cc)

-- where an object is among the writes of notes
get-unmap : (ns : List Note) (i : ℕ) (w : ℕ × List ℕ) → slice_get (map note_write ns) i ≡ Some w → (n : Note) × (slice_get ns i ≡ Some n) × (note_write n ≡ w)
get-unmap [] i w e = absurd (cc)
get-unmap (m ∷ ns) zero w e = (m, refl, (let f : Some (note_write m) ≡ Some w = e in cc))
get-unmap (m ∷ ns) (suc i) w e = get-unmap ns i w e

note_there : (ns : List Note) (o : ℕ) → touches (map note_write ns) o ≡ true → (i : ℕ) × (n : Note) × (slice_get ns i ≡ Some n) × (n.object ≡ o)
note_there ns o e =
    let w = write_there (map note_write ns) o e in
    let n = get-unmap ns w.0 (o, w.1) w.3 in
    (w.0, n.0, n.1, ap (λ (p : ℕ × List ℕ). p.0) n.2)

-- notes of which no two are of one object have distinct writes
once_distinct : (ns : List Note) → ((i j : ℕ) (m n : Note) → slice_get ns i ≡ Some m → slice_get ns j ≡ Some n → m.object ≡ n.object → i ≡ j)
    → are_distinct (map note_write ns) ≡ true
once_distinct [] once = refl
once_distinct (n ∷ ns) once =
    let rest = once_distinct ns (λ i j a b p q e. let same : suc i ≡ suc j = once (suc i) (suc j) a b p q e in omega arith) in
    ⊎_elim
    (λ there.
    let r = note_there ns n.object there in
    let same : 0 ≡ suc r.0 = once 0 (suc r.0) n r.1 refl r.2 (sym r.3) in absurd (omega arith))
    (λ none. (λ i. not (none i) && rest i))
    (bool_is (touches (map note_write ns) n.object))

-- each note has the words of an object
notes_wide : (ns : List Note) → ((i : ℕ) (n : Note) → slice_get ns i ≡ Some n → IsWords n.words) → AreWrites (map note_write ns)
notes_wide [] all = All-nil (λ (w : ℕ × List ℕ). IsWords w.1)
notes_wide (n ∷ ns) all = All-cons (λ (w : ℕ × List ℕ). IsWords w.1) (note_write n) (map note_write ns) (all 0 n refl) (notes_wide ns (λ i m e. all
    (suc i) m e))

-- the slots of two positions of a log are one only where the positions are
slots_once : (n a i j : ℕ) → i < n → j < n → (a + i) % n ≡ (a + j) % n → i ≡ j
slots_once n a i j p q e =
    dite (dec_lt i j)
    (λ lt. absurd (slots_apart n (a + i) (a + j) (omega arith) (omega arith) e))
    (λ ge. dite (dec_lt j i)
    (λ lt. absurd (slots_apart n (a + j) (a + i) (omega arith) (omega arith) (sym e)))
    (λ le. omega arith))

module _ (starts : State → Type 0) (allows : List ℕ → State → Writes → Type 0) (p : Placed) (k : Known starts allows p.view)
    (placed : IsPlaced starts allows p) (may : MayWalk p.view) (few : p.log.held ≤ p.config.write_max) where
  abbrev c : Config
  c = p.config

  abbrev v : Knowledge
  v = p.view

  abbrev l : Noted
  l = p.log

  abbrev inside : OwnSection
  inside = section_in v

  s : Stands c v l
  s = placed.stands

  abbrev own : Writes
  own = own_of c v.ring

  section : KnownSection v inside
  section = k.section inside may.phase

  -- each of the notes of what is held is of a held version
  note_held : (i : ℕ) (n : Note) → slice_get (held_notes l) i ≡ Some n → slot_at v.ring (index_of c (l.freed + (held_from l + i))) ≡ Live (version_of n) Held
  note_held i n at =
      let has = s.live (held_from l + i) n (sym (get_dropped (held_from l) i l.live) ∙ at) in
      has.lives ∙ ap (Live (version_of n)) (as_held (nat_le (held_from l) (held_from l + i)) n has.status (le-leb (held_from l) (held_from l + i)
      (omega arith)) has.as_noted)

  known_held : (i : ℕ) (n : Note) → slice_get (held_notes l) i ≡ Some n → KnownHeld v inside (version_of n)
  known_held i n at = section.held (index_of c (l.freed + (held_from l + i))) (version_of n) (note_held i n at)

  place_small : (i : ℕ) (n : Note) → slice_get (held_notes l) i ≡ Some n → held_from l + i < c.slots
  place_small i n at =
      let lt = slice_get_within l.live (held_from l + i) n (sym (get_dropped (held_from l) i l.live) ∙ at) in
      let room = s.log.room in
      let slots = s.slots in
      omega arith

  distinct : are_distinct own ≡ true
  distinct =
      ap are_distinct (own_is c v l s)
      ∙ once_distinct (held_notes l) (λ i j m n a b same.
      let one = section.apart (index_of c (l.freed + (held_from l + i))) (index_of c (l.freed + (held_from l + j))) (version_of m) (version_of n)
      (note_held i m a) (note_held j n b) same in
      let at = slots_once c.slots l.freed (held_from l + i) (held_from l + j) (place_small i m a) (place_small j n b) one in
      omega arith)

  -- the held version of an object among the writes
  touched : (o : ℕ) → touches own o ≡ true → (n : Note) × KnownHeld v inside (version_of n) × (n.object ≡ o)
  touched o e =
      let r = note_there (held_notes l) o (ap (λ (ws : Writes). touches ws o) (sym (own_is c v l s)) ∙ e) in
      (r.1, known_held r.0 r.1 r.2, r.3)

  within : AreWithin own (length v.start)
  within o e = let r = touched o e in subst (λ (x : ℕ). x < length v.start) r.2 r.1.in_range

  words : AreWrites own
  words = subst AreWrites (sym (own_is c v l s)) (notes_wide (held_notes l) (λ i n at. (known_held i n at).wide))

  abbrev at : ℕ
  at = time_at v - c.base

  past : at ≤ length v.past.seen
  past = let seen = section.seen in let base = placed.base in omega arith

  -- an entry after the snapshot
  after_entry : (i : ℕ) → i < length (drop at v.past.seen) → IsEntry v.base v.past.seen (v.base + (at + i) + 1) (slice_index_or
      (drop at v.past.seen) i (Rest 0))
  after_entry i lt =
      let wide = length-drop at v.past.seen in
      let there = slice_get-get_or v.past.seen (at + i) (Rest 0) (omega arith) ∙ ap Some (sym (get_or-drop at v.past.seen i (Rest 0))) in
      let place : at + i ≡ v.base + (at + i) + 1 - (v.base + 1) = omega arith in
      (omega arith, subst (λ (q : ℕ). slice_get v.past.seen q ≡ Some (slice_index_or (drop at v.past.seen) i (Rest 0))) place there)

  unwritten : NoneWrites own (drop at v.past.seen)
  unwritten =
      All-from_get_or (λ x. AreApart own (writes_of x)) (drop at v.past.seen) (Rest 0) (λ i lt o w.
      let x : Entry = slice_index_or (drop at v.past.seen) i (Rest 0) in
      let r = touched o w in
      let fresh : latest v.base v.past.seen o ≤ time_in inside = subst (λ (q : ℕ). latest v.base v.past.seen q ≤ time_in inside) r.2 r.1.unwritten in
      let base = placed.base in
      ⊎_elim
      (λ written. let reach = latest-reaches v.base v.past.seen o (v.base + (at + i) + 1) x (after_entry i lt) written in absurd (omega arith))
      (λ none. none)
      (bool_is (writes_to o x)))

  in_order : NoneBy v.number (drop at v.past.seen)
  in_order =
      All-from_get_or (λ x. maker_of x ≢ v.number) (drop at v.past.seen) (Rest 0) (λ i lt mine.
      let x : Entry = slice_index_or (drop at v.past.seen) i (Rest 0) in
      let last = section.own (subst IsUnnamed (sym may.open_is) tt) in
      let base = placed.base in
      let place : v.base + (at + i) + 1 - (v.base + 1) ≡ at + i = omega arith in
      let there : slice_get v.past.seen (at + i) ≡ Some x = subst (λ (q : ℕ). slice_get v.past.seen q ≡ Some x) place (after_entry i lt).1 in
      let reach = last_that-reaches (is_by v.number) v.past.seen (at + i) x there (eq-eqb (maker_of x) v.number mine) in
      absurd (omega arith))

  section_known : IsSection starts allows (section_from p)
  section_known = record {
    seat = seat_known starts allows p k;
    at = past;
    distinct = distinct;
    within = within;
    words = words;
    held = (let long = own_long c v l s in omega arith);
    unwritten = unwritten;
    in_order = in_order;
  }

pub section_lawful : (starts : State → Type 0) (allows : List ℕ → State → Writes → Type 0) → ((s : State) → IsProp (starts s))
    → ((t : List ℕ) (s : State) (w : Writes) → IsProp (allows t s w)) → (p : Placed) → IsBusy starts allows p → IsSection starts allows (section_from p)
section_lawful starts allows one_start one_allowed p is =
    ∥∥₁_elim is.placed.known (IsSection-prop starts allows one_start one_allowed (section_from p))
    (λ k. section_known starts allows p k is.placed is.may is.few)
