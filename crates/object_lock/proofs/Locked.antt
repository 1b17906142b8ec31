-- What `lock` answers: whether the section holds the object, whether it may hold one more, and what came of looking at the top and of building.
use Rattle.std.proofs.Common.{◌≡◌, ◌≢◌, ℕ, zero, suc, ◌+◌, ◌-◌, ◌<◌, ◌≤◌, true, false, List, [], ◌∷◌, ◌++◌, length}
use Rattle.std.proofs.Common.{map, length-append, refl, sym, ap, ◌∙◌, subst, arith, Bool, Some, None}
use Rattle.std.specs.Prelude.{slice_get}
use Rattle.mv_history.specs.State.{Writes, touches}
use Rattle.mv_history.specs.declared.Step.{Step}
use Rattle.mv_history.specs.declared.answers.LockAnswer.{LockAnswer}
use Rattle.mv_history.specs.declared.answers.LockAnswer.TheVariants.{Held, Busy, Stale, SetFull, LogFull}
use Rattle.mv_layout.specs.declared.Config.{Config}
use Rattle.seat_log.specs.mv_core.declared.view.Knowledge.{Knowledge}
use Rattle.seat_log.specs.mv_core.Rings.{own_of, spare_count}
use Rattle.seat_log.proofs.mv_core_lemmas.logs.Written.{write_there, write_touches}
use Rattle.seat_log.specs.declared.version.Note.{Note}
use Rattle.seat_log.specs.Notes.{Noted, built_count, held_from}
use Rattle.seat_log.specs.Stands.{Stands}
use Rattle.seat_log.proofs.Places.{get_dropped, get_left}
use Rattle.object_lock.specs.Tops.{Tries, IsRefused}
use Rattle.object_lock.specs.Locks.{HoldsObject, LockMakes, KeepsOwn, HasRoom, IsSetFull, AnswersWith}
use Rattle.object_lock.proofs.Holding.{makes_before}
use Rattle.object_lock.proofs.OwnNotes.{note_write, held_notes, own_is, own_long}
use Rattle.object_lock.proofs.LockKinds.{none_won}
use Rattle.object_lock.proofs.Stood.{stands_on}

-- a place of a mapped list
get-map : (ns : List Note) (i : ℕ) (n : Note) → slice_get ns i ≡ Some n → slice_get (map note_write ns) i ≡ Some (note_write n)
get-map [] i n e = absurd (cc)
get-map (m ∷ ns) zero n e = let same : m ≡ n = cc in ap (λ (k : Note). Some (note_write k)) same
get-map (m ∷ ns) (suc i) n e = get-map ns i n e

get-unmap : (ns : List Note) (i : ℕ) (w : ℕ × List ℕ) → slice_get (map note_write ns) i ≡ Some w → (n : Note) × (slice_get ns i ≡ Some n) × (note_write n ≡ w)
get-unmap [] i w e = absurd (cc)
get-unmap (m ∷ ns) zero w e = (m, refl, (let f : Some (note_write m) ≡ Some w = e in cc))
get-unmap (m ∷ ns) (suc i) w e = get-unmap ns i w e

module _ (c : Config) (v : Knowledge) (l : Noted) (object : ℕ) (s : Stands c v l) where
  -- what is held is noted
  pub touched_is : touches (own_of c v.ring) object ≡ true → HoldsObject l object
  touched_is e =
      let w = write_there (map note_write (held_notes l)) object (ap (λ (ws : Writes). touches ws object) (sym (own_is c v l s)) ∙ e) in
      let n = get-unmap (held_notes l) w.0 (object, w.1) w.3 in
      (held_from l + w.0, n.0, sym (get_dropped (held_from l) w.0 l.live) ∙ n.1, (omega arith), ap (λ (p : ℕ × List ℕ). p.0) n.2)

  -- and what is noted is held
  pub noted_is : HoldsObject l object → touches (own_of c v.ring) object ≡ true
  noted_is h =
      let at = get-map (held_notes l) (h.0 - held_from l) h.1 (get_left (held_from l) h.0 l.live h.1 h.3 h.2) in
      ap (λ (ws : Writes). touches ws object) (own_is c v l s)
      ∙ subst (λ (o : ℕ). touches (map note_write (held_notes l)) o ≡ true) h.4
      (write_touches (map note_write (held_notes l)) (h.0 - held_from l) h.1.object h.1.words at)

  pub held_none : ¬ (HoldsObject l object) → {A : Type 0} → touches (own_of c v.ring) object ≡ true → A
  held_none none e = absurd (none (touched_is e))

  pub lacks_is : ¬ (HoldsObject l object) → touches (own_of c v.ring) object ≡ false
  lacks_is none = by_bool (touches (own_of c v.ring) object) refl
    where
      by_bool : (b : Bool) → touches (own_of c v.ring) object ≡ b → touches (own_of c v.ring) object ≡ false
      by_bool true e = absurd (none (touched_is e))
      by_bool false e = e

  pub held_some : HoldsObject l object → {A : Type 0} → touches (own_of c v.ring) object ≡ false → A
  held_some h e = let yes = noted_is h in let clash : true ≡ false = sym yes ∙ e in absurd (cc)

  pub full_is : (held : ℕ) → held ≡ l.held → held ≡ c.write_max → IsSetFull c v
  full_is held e f = let long = own_long c v l s in omega arith

  pub not_full : (held : ℕ) → held ≡ l.held → held ≢ c.write_max → ¬ (IsSetFull c v)
  not_full held e ne full = let long = own_long c v l s in ne (omega arith)

  pub spare_is : (room : ℕ) → l.built ≡ None → room + length l.live + built_count l.built ≡ l.slots → spare_count v.ring ≡ room
  spare_is room unbuilt e = let none : built_count l.built ≡ 0 = ap built_count unbuilt in let a = s.spare in let b = s.slots in omega arith

-- the steps that looked at the top leave the log as it is
module _ (c : Config) (v x : Knowledge) (l : Noted) (object before here : ℕ) (s : Stands c v l) (tries : Tries v x before here [])
    (ring : x.ring ≡ v.ring) where
  pub top_stands : Stands c x l
  top_stands =
      let t = tries.trail in
      stands_on c v x l t.0 (ap (λ (u : Knowledge). u.number) tries.rest) ring (ap (λ (u : Knowledge). u.past.mine) tries.rest)
      (ap (λ (u : Knowledge). u.past.rests) tries.rest) t.1 t.3 (none_won t.0 tries.exchanges) s

  pub top_keeps : KeepsOwn c v x
  top_keeps = (ap (own_of c) ring, ap spare_count ring)

  -- a refusal at the top
  pub top_answers : (answer : LockAnswer) → HasRoom c v → IsRefused c v x object answer → (words : List ℕ) → AnswersWith c v x object words answer
  top_answers Held room cause words = absurd cause
  top_answers (Busy seat) room cause words = (room, cause)
  top_answers (Stale time) room cause words = (room, cause)
  top_answers SetFull room cause words = absurd cause
  top_answers LogFull room cause words = absurd cause

-- what was done leaves what is held as it was
module _ (c : Config) (v w : Knowledge) (keeps : KeepsOwn c v w) where
  pub kept_too : (x : Knowledge) → KeepsOwn c w x → KeepsOwn c v x
  kept_too x k = (k.0 ∙ keeps.0, k.1 ∙ keeps.1)

  -- what came of an exchange of HEAD
  all_answers : (x : Knowledge) (object : ℕ) (words : List ℕ) (answer : LockAnswer) → HasRoom c v → LockMakes c v x object words answer
      → AnswersWith c v x object words answer
  all_answers x object words Held room makes = (room, makes)
  all_answers x object words (Busy seat) room makes = (room, makes)
  all_answers x object words (Stale time) room makes = (room, makes)
  all_answers x object words SetFull room makes = absurd makes
  all_answers x object words LogFull room makes = absurd makes

  pub made_answers : (x : Knowledge) (object : ℕ) (words : List ℕ) (answer : LockAnswer) (made : List Step) → w.trail ≡ v.trail ++ made → w.number ≡ v.number
      → w.phase ≡ v.phase → HasRoom c v → LockMakes c w x object words answer → AnswersWith c v x object words answer
  made_answers x object words answer made at number phase room makes =
      all_answers x object words answer room (makes_before c v w x object words answer made at number phase keeps makes)

-- the words of an answer that isn't `Held` don't matter
pub answers_of : (c : Config) (v x : Knowledge) (object : ℕ) (words others : List ℕ) (answer : LockAnswer) → (answer ≡ Held → words ≡ others)
    → AnswersWith c v x object words answer → AnswersWith c v x object others answer
answers_of c v x object words others Held same answers = subst (λ ws. AnswersWith c v x object ws Held) (same refl) answers
answers_of c v x object words others (Busy seat) same answers = answers
answers_of c v x object words others (Stale time) same answers = answers
answers_of c v x object words others SetFull same answers = answers
answers_of c v x object words others LogFull same answers = answers

-- the section holds no more than it may
module _ (c : Config) (v w : Knowledge) (l m : Noted) (object : ℕ) (s : Stands c v l) (t : Stands c w m) (few : l.held < c.write_max) where
  few_same : KeepsOwn c v w → m.held ≤ c.write_max
  few_same keeps =
      let long = ap length keeps.0 in
      let a = own_long c v l s in
      let b = own_long c w m t in
      omega arith

  pub few_made : (words : List ℕ) (answer : LockAnswer) → LockMakes c v w object words answer → (answer ≢ Held → KeepsOwn c v w) → m.held ≤ c.write_max
  few_made words Held makes keeps =
      let long : length (own_of c w.ring) ≡ length (own_of c v.ring) + 1 =
      ap length makes.0 ∙ length-append (own_of c v.ring) ((object, words) ∷ []) in
      let a = own_long c v l s in
      let b = own_long c w m t in
      omega arith
  few_made words (Busy seat) makes keeps = few_same (keeps (λ e. cc))
  few_made words (Stale time) makes keeps = few_same (keeps (λ e. cc))
  few_made words SetFull makes keeps = absurd makes
  few_made words LogFull makes keeps = absurd makes
