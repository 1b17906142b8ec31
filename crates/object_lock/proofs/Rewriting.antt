-- The words of a held version are stored, and what the section holds is rewritten by that.
use Rattle.std.proofs.Common.{◌≡◌, ◌≢◌, ℕ, zero, suc, ◌+◌, ◌-◌, ◌<◌, ◌≤◌, if◌then◌else◌, Bool, eq-eqb, ne_eqb}
use Rattle.std.proofs.Common.{List, [], ◌∷◌, ◌++◌, length, map, drop, refl, sym, ap, ◌∙◌, append-nil, append_assoc, length-append}
use Rattle.std.proofs.Common.{arith, Some, None}
use Rattle.std.specs.Prelude.{slice_get, slice_index}
use Rattle.std.proofs.lemmas.List.Elements.{All-nil, All-push}
use Rattle.mv_history.specs.State.{rewritten}
use Rattle.mv_history.specs.declared.Step.{Step}
use Rattle.mv_history.specs.declared.StepKind.TheVariants.{StoreData}
use Rattle.mv_layout.specs.declared.Config.{Config}
use Rattle.seat_log.specs.mv_core.declared.view.Knowledge.{Knowledge}
use Rattle.seat_log.specs.mv_core.Rings.{index_of, own_of, spare_count}
use Rattle.mv_layout.specs.declared.SharedWord.TheVariants.{Data}
use Rattle.mv_layout.specs.Places.{place_of}
use Rattle.seat_log.specs.declared.version.Note.{Note}
use Rattle.seat_log.specs.Notes.{Noted, held_from, IsHeld, at_place, with_words, words_noted}
use Rattle.seat_log.proofs.Places.{get_dropped, get_left}
use Rattle.seat_log.specs.Stands.{Stands}
use Rattle.seat_log.specs.Builds.{word_stored, words_put}
use Rattle.seat_log.proofs.Places.{length-at_place, get_within}
use Rattle.object_lock.specs.Writes.{IsHeldAt, Stores}
use Rattle.object_lock.proofs.OwnNotes.{note_write, held_notes, own_is}

-- what a section holds, with other words at the first place that has the object
rewrites : (ms : List Note) (j : ℕ) (n : Note) (f : Note → Note) (o : ℕ) (words : List ℕ) → slice_get ms j ≡ Some n → n.object ≡ o
    → ((i : ℕ) (m : Note) → slice_get ms i ≡ Some m → i < j → m.object ≢ o) → note_write (f n) ≡ (o, words)
    → map note_write (at_place f j ms) ≡ rewritten (map note_write ms) o words
rewrites [] j n f o words at is none same = absurd (cc)
rewrites (m ∷ ms) zero n f o words at is none same =
    let one : m ≡ n = cc in
    let here : m.object ≡ o = ap (λ (k : Note). k.object) one ∙ is in
    ap (λ (k : Note). note_write (f k) ∷ map note_write ms) one ∙ ap (λ w. w ∷ map note_write ms) same
    ∙ sym (ap (λ (b : Bool). if b then (o, words) ∷ map note_write ms else note_write m ∷ rewritten (map note_write ms) o words) (eq-eqb m.object o here))
rewrites (m ∷ ms) (suc j) n f o words at is none same =
    ap (λ ws. note_write m ∷ ws) (rewrites ms j n f o words at is (λ i k e lt. none (suc i) k e (omega arith)) same)
    ∙ sym
    (ap (λ (b : Bool). if b then (o, words) ∷ map note_write ms else note_write m ∷ rewritten (map note_write ms) o words)
    (ne_eqb m.object o (none 0 m refl (omega arith))))

drop-at : (f : Note → Note) (d j : ℕ) (ns : List Note) → d ≤ j → drop d (at_place f j ns) ≡ at_place f (j - d) (drop d ns)
drop-at f zero j ns le = ap (λ i. at_place f i ns) (let z : j ≡ j - 0 = omega arith in z)
drop-at f (suc d) j [] le = refl
drop-at f (suc d) zero (n ∷ ns) le = absurd (omega arith)
drop-at f (suc d) (suc j) (n ∷ ns) le = drop-at f d j ns (omega arith) ∙ ap (λ i. at_place f i (drop d ns)) (let z : j - d ≡ suc j - suc d = omega arith in z)

-- so many stores of a data word
pub puts_store : (c : Config) (v : Knowledge) (position n : ℕ) (words : List ℕ) → Stores v (words_put c v position words n) n
unfolding words_put
puts_store c v position zero words = record { rest = refl; trail = ([], sym (append-nil v.trail), refl, All-nil (λ (s : Step). s.kind ≡ StoreData)) }
puts_store c v position (suc n) words =
    let w : Knowledge = words_put c v position words n in
    let x : Knowledge = word_stored c w position n (slice_index words n) in
    let told : Step = record {
      kind = StoreData;
      word = place_of c (Data w.number (index_of c position) n);
      found = None;
      stored = Some (slice_index words n);
    } in
    let b = puts_store c v position n words in
    let r = b.trail in
    let long = r.2 in
    let more = length-append r.0 (told ∷ []) in
    record {
      rest = ap (λ (u : Knowledge). record u { ring = x.ring; trail = x.trail }) b.rest;
      trail = (
        r.0 ++ told ∷ [],
        ap (λ (ts : List Step). ts ++ told ∷ []) r.1 ∙ append_assoc v.trail r.0 (told ∷ []),
        (omega arith),
        All-push (λ (z : Step). z.kind ≡ StoreData) r.0 told r.3 refl,
      );
    }

-- the version of an object that is held is stored, with all six words
module _ (c : Config) (v : Knowledge) (l : Noted) (object position : ℕ) (s : Stands c v l) (at : IsHeldAt l object position) where
  place_is : position ≡ l.freed + at.place
  place_is = sym at.position_is ∙ s.log.notes.position at.place at.note at.there

  -- it is held
  pub is_held : IsHeld l position
  is_held =
      let is = place_is in
      let low = at.held in
      let few = s.log.held in
      let lt = get_within l.live at.place at.note at.there in
      (omega arith, omega arith)

  -- what the section holds then
  pub all_written : (w : Knowledge) (m : Noted) (words : List ℕ) → Stands c w m → m ≡ words_noted l position words
      → own_of c w.ring ≡ rewritten (own_of c v.ring) object words
  all_written w m words t noted =
      let d = held_from l in
      let f = with_words words in
      let is = place_is in
      let place : position - l.freed ≡ at.place = omega arith in
      let live : m.live ≡ at_place f at.place l.live = ap (λ (q : Noted). q.live) noted ∙ ap (λ j. at_place f j l.live) place in
      let heads : held_from m ≡ d = ap held_from noted ∙ ap (λ k. k - l.held) (length-at_place f (position - l.freed) l.live) in
      let same : note_write (f at.note) ≡ (object, words) = ap (λ o. (o, words)) at.object_is in
      own_is c w m t
      ∙ (λ i. map note_write (drop (heads i) (live i)))
      ∙ ap (map note_write) (drop-at f d at.place l.live at.held)
      ∙ rewrites (held_notes l) (at.place - d) at.note f object words (get_left d at.place l.live at.note at.held at.there) at.object_is
      (λ i n there lt. at.first_one (d + i) n (sym (get_dropped d i l.live) ∙ there) (omega arith) (omega arith)) same
      ∙ ap (λ ws. rewritten ws object words) (sym (own_is c v l s))

-- as many slots are free
pub spare_stays : (c : Config) (v w : Knowledge) (l m : Noted) (position : ℕ) (words : List ℕ) → Stands c v l → Stands c w m
    → m ≡ words_noted l position words → spare_count w.ring ≡ spare_count v.ring
spare_stays c v w l m position words s t noted =
    let long : length m.live ≡ length l.live =
    ap (λ (q : Noted). length q.live) noted ∙ length-at_place (with_words words) (position - l.freed) l.live in
    let a = s.spare in
    let b = t.spare in
    omega arith
