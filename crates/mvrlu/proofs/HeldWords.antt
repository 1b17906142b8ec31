-- The words of a held object are those of its note.
use Rattle.std.proofs.Common.{◌≡◌, ℕ, zero, suc, ◌-◌, ◌<◌, ◌≤◌, List, [], ◌∷◌, length, map, refl, sym, ap, ◌∙◌, subst, Some}
use Rattle.std.specs.Prelude.{slice_get}
use Rattle.std.proofs.lemmas.Option.{slice_get_within, get_or_from_slice_get}
use Rattle.mv_history.specs.State.{State, Writes}
use Rattle.mv_history.specs.Meaning.{IsSection, Holds, snapshot_of, state_of, words_at}
use Rattle.mv_history.proofs.Writing.{words-written_same}
use Rattle.mv_history.proofs.Snapshots.{length-state_at}
use Rattle.object_lock.specs.mv_core.Rings.{own_of}
use Rattle.object_lock.specs.seat_log.declared.version.Note.{Note}
use Rattle.object_lock.specs.seat_log.Notes.{held_from, IsNoteAt}
use Rattle.object_lock.proofs.OwnNotes.{note_write, held_notes, own_is}
use Rattle.object_lock.proofs.seat_log_lemmas.Places.{get_left}
use Rattle.object_lock.proofs.Locked.{noted_is}
use Rattle.mvrlu.specs.Placed.{Placed, section_from, IsBusy}

get-map : (ns : List Note) (i : ℕ) (n : Note) → slice_get ns i ≡ Some n → slice_get (map note_write ns) i ≡ Some (note_write n)
get-map [] i n e = absurd (cc)
get-map (m ∷ ns) zero n e = let f : Some m ≡ Some n = e in cc
get-map (m ∷ ns) (suc i) n e = get-map ns i n e

module _ (starts : State → Type 0) (allows : List ℕ → State → Writes → Type 0) (p : Placed) (is : IsBusy starts allows p)
    (lawful : IsSection starts allows (section_from p)) (i : ℕ) (n : Note) (at : IsNoteAt p.log i n) (held : held_from p.log ≤ i) where
  pub note_holds : Holds (section_from p) n.object
  note_holds = noted_is p.config p.view p.log n.object is.placed.stands (i, n, at, held, refl)

  there : slice_get (own_of p.config p.view.ring) (i - held_from p.log) ≡ Some (note_write n)
  there = ap (λ (ws : Writes). slice_get ws (i - held_from p.log)) (own_is p.config p.view p.log is.placed.stands)
      ∙ get-map (held_notes p.log) (i - held_from p.log) n (get_left (held_from p.log) i p.log.live n held at)

  pub note_words : words_at (state_of (section_from p)) n.object ≡ n.words
  note_words =
      let ws : Writes = own_of p.config p.view.ring in
      let k : ℕ = i - held_from p.log in
      let at_k = get_or_from_slice_get ws k (note_write n) (0, []) there in
      let range : n.object < length (snapshot_of (section_from p)) = subst (λ (l : ℕ). n.object < l) (sym
      (length-state_at p.view.start p.view.past.seen (section_from p).at)) (lawful.within n.object note_holds) in
      words-written_same (snapshot_of (section_from p)) ws k n.object (0, []) lawful.distinct (slice_get_within ws k (note_write n) there) (ap (λ
      (w : ℕ × List ℕ). w.0) at_k) range
      ∙ ap (λ (w : ℕ × List ℕ). w.1) at_k
