-- The oldest write set of a log: where it ends, and which version of it is due.
use Rattle.std.proofs.Common.{◌≡◌, ◌≢◌, ℕ, ◌+◌, ◌<◌, ap, sym, ◌∙◌, subst, ⊎_elim, arith, Some, slice_get}
use Rattle.std.proofs.lemmas.Bool.{cases_lt}
use Rattle.seat_log.specs.declared.version.Note.{Note}
use Rattle.seat_log.specs.Notes.{Noted, IsNoteAt, IsLog}
use Rattle.seat_log.specs.Frees.{IsDeadNote, OldestIsDead}

-- each of the first versions of a log is of its oldest write set, and is dead by this time
abbrev pub AreDead : Noted → ℕ → ℕ → Type 0
AreDead l t index = (i : ℕ) (n : Note) → IsNoteAt l i n → i < index → (n.first ≡ l.freed) × IsDeadNote t n

-- one more is
pub one_more_dead : (l : Noted) (t index : ℕ) (n : Note) → IsNoteAt l index n → n.first ≡ l.freed → IsDeadNote t n → AreDead l t index → AreDead l t (index + 1)
one_more_dead l t index n at first dead so_far i m is lt =
    ⊎_elim
    (λ before. so_far i m is before)
    (λ le.
    let here : index ≡ i = omega arith in
    let one : Some n ≡ Some m = sym at ∙ ap (slice_get l.live) here ∙ is in
    let same : n ≡ m = cc in
    subst (λ (x : Note). (x.first ≡ l.freed) × IsDeadNote t x) same (first, dead))
    (cases_lt i index)

module _ (l : Noted) (k : IsLog l) where
  -- the first version is at the oldest position
  pub oldest_at : (n : Note) → IsNoteAt l 0 n → n.position ≡ l.freed
  oldest_at n at = let p = k.notes.position 0 n at in omega arith

  -- where a version of another set comes, all of the oldest set came before it
  pub dead_before : (t index : ℕ) (n : Note) → IsNoteAt l index n → n.first ≢ l.freed → AreDead l t index → OldestIsDead l t
  dead_before t index n at other so_far i m is first =
      ⊎_elim
      (λ lt. (so_far i m is lt).1)
      (λ le.
      let p = k.notes.position index n at in
      absurd (other (k.notes.run i index m n is at (omega arith) le ∙ first)))
      (cases_lt i index)
