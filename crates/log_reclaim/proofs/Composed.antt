-- Two parts of a reclaiming call, one after the other: what they leave together of the log.
use Rattle.std.proofs.Common.{◌≡◌, ℕ, ◌+◌, ap, ◌∙◌, subst, arith}
use Rattle.seat_log.specs.declared.version.Note.{Note}
use Rattle.seat_log.specs.Notes.{Noted, IsNoteAt}
use Rattle.log_reclaim.specs.Parts.{DiesFrom, Shrinks}

pub dies_then : (a b n : Note) → DiesFrom a b → DiesFrom b n → DiesFrom a n
dies_then a b n p q = record {
  same = q.same ∙ ap (λ (m : Note). record m { dead = n.dead }) p.same;
  once = λ some. let before = p.once some in q.once (omega arith) ∙ before;
}

pub shrinks_then : (k l m : Noted) (freed more : ℕ) → Shrinks k l freed → Shrinks l m more → Shrinks k m (freed + more)
shrinks_then k l m freed more p q = record {
  few = (let a = p.few in let b = q.few in omega arith);
  notes = λ i n at.
      let b = q.notes i n at in
      let a = p.notes (i + more) b.0 b.1 in
      let there : IsNoteAt k (i + (freed + more)) a.0 =
      subst (λ (j : ℕ). IsNoteAt k j a.0) (let e : i + more + freed ≡ i + (freed + more) = omega arith in e) a.1 in
      (a.0, there, dies_then a.0 b.0 n a.2 b.2);
  rest = (let far : l.freed + more ≡ k.freed + (freed + more) = (let e = ap (λ (x : Noted). x.freed) p.rest in omega arith) in
      q.rest ∙ ap (λ (x : Noted). record x { live = m.live; freed = l.freed + more; back = m.back; rests = m.rests }) p.rest
      ∙ ap (λ (f : ℕ). record k { live = m.live; freed = f; back = m.back; rests = m.rests }) far);
}
