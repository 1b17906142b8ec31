-- What holds of every log holds after each note.
use Rattle.std.proofs.Common.{◌≡◌, ◌≢◌, ◌⊎◌, ℕ, ◌+◌, ◌<◌, ◌≤◌, ◌==◌, ◌^◌, if◌then◌else◌, Bool, true}
use Rattle.std.proofs.Common.{false, cond, List, [], ◌∷◌, ◌++◌, length, refl, sym, ap, ◌∙◌, subst, inl, inr, ⊎_elim, arith}
use Rattle.std.proofs.Common.{length-append, Option, Some, None, slice_get}
use Rattle.std.proofs.lemmas.Bool.{eqb-false, ne_eqb}
use Rattle.std.specs.Prelude.{IfSome}
use Rattle.seat_log.specs.declared.version.Note.{Note}
use Rattle.seat_log.specs.Notes.{Noted, next_of, held_from, first_of, built_list, built_count, AreNoted, IsNextOf, IsLog, from_place, at_place}
use Rattle.seat_log.specs.Notes.{held_noted, committed_noted, aborted_noted}
use Rattle.seat_log.proofs.Places.{from_end, length-from_place, length-at_place, from_before, at_before, push_before, get_within}

-- the notes of two lists are of the same versions, in the same sets
pub record SameSets (ns ms : List Note) : Type 0 where
  pub long : length ms ≡ length ns
  pub before : (i : ℕ) (m : Note) → slice_get ms i ≡ Some m → (n : Note) × (slice_get ns i ≡ Some n) × (m.position ≡ n.position) × (m.first ≡ n.first)

-- f tells nothing else of where a version stands
abbrev pub KeepsSet : (Note → Note) → Type 0
KeepsSet f = (n : Note) → ((f n).position ≡ n.position) × ((f n).first ≡ n.first)

pub from_same : (f : Note → Note) (k : ℕ) (ns : List Note) → KeepsSet f → SameSets ns (from_place f k ns)
from_same f k ns keeps = record {
  long = length-from_place f k ns;
  before = λ i m e.
      let r = from_before f k i ns m e in
      ⊎_elim (λ a. (r.0, r.1, ap (λ (n : Note). n.position) a.1 ∙ (keeps r.0).0, ap (λ (n : Note). n.first) a.1 ∙ (keeps r.0).1))
      (λ b. (r.0, r.1, ap (λ (n : Note). n.position) b.1, ap (λ (n : Note). n.first) b.1)) r.2;
}

pub at_same : (f : Note → Note) (k : ℕ) (ns : List Note) → KeepsSet f → SameSets ns (at_place f k ns)
at_same f k ns keeps = record {
  long = length-at_place f k ns;
  before = λ i m e.
      let r = at_before f k i ns m e in
      ⊎_elim (λ a. (r.0, r.1, ap (λ (n : Note). n.position) a.1 ∙ (keeps r.0).0, ap (λ (n : Note). n.first) a.1 ∙ (keeps r.0).1))
      (λ b. (r.0, r.1, ap (λ (n : Note). n.position) b.1, ap (λ (n : Note). n.first) b.1)) r.2;
}

-- the notes stand so still, where as many are held or none is any more
pub noted_again : (l m : Noted) → m.freed ≡ l.freed → SameSets l.live m.live → l.held ≤ length l.live → (m.held ≡ l.held) ⊎ (m.held ≡ 0) → AreNoted l
    → AreNoted m
noted_again l m freed same few held k =
    let long = same.long in record {
      position = λ i x e. let b = same.before i x e in let p = k.position i b.0 b.1 in let q = b.2 in omega arith;
      first = λ i x e.
          let b = same.before i x e in
          let p = k.first i b.0 b.1 in
          let low = p.0 in
          let high = p.1 in
          let q = b.2 in
          let r = b.3 in
          (omega arith, omega arith);
      run = λ i j x y e f le order.
          let a = same.before i x e in
          let b = same.before j y f in
          let q = a.3 in
          let r = b.2 in
          b.3 ∙ k.run i j a.0 b.0 a.1 b.1 (omega arith) order ∙ sym a.3;
      held = λ i x e.
          let b = same.before i x e in
          let within = get_within l.live i b.0 b.1 in
          let first = k.first i b.0 b.1 in
          let high = first.1 in
          let at = k.position i b.0 b.1 in
          let h = k.held i b.0 b.1 in
          let r = b.3 in
          ⊎_elim
          (λ s.
          let heads : held_from m ≡ held_from l = omega arith in
          let firsts : first_of m ≡ first_of l = omega arith in
          ((λ le. r ∙ h.0 (omega arith) ∙ sym firsts), (λ lt. let q = h.1 (omega arith) in let e : x.first < first_of m = omega arith in e)))
          (λ none. ((λ le. absurd (omega arith)), (λ lt. let e : x.first < first_of m = omega arith in e)))
          held;
    }

-- a log with notes of the same versions is one, where as many are held or none is any more
again_is_log : (l m : Noted) → m.seat ≡ l.seat → m.slots ≡ l.slots → m.freed ≡ l.freed → m.back ≡ l.back → m.rests ≡ l.rests
    → SameSets l.live m.live → (m.held ≡ l.held) ⊎ (m.held ≡ 0) → built_count m.built ≤ built_count l.built → IfSome m.built (IsNextOf m)
    → m.commits + m.aborts + m.held ≤ next_of l → IsLog l → IsLog m
again_is_log l m seat slots freed back rests same held few built sets k =
    let long = same.long in
    let number = k.seat in
    let most = k.slots in
    let room = k.room in
    let some = k.held in
    let positions = k.positions in
    let backs = k.backs in
    let rested = k.rests in record {
      seat = omega arith;
      slots = omega arith;
      room = omega arith;
      held = held_few;
      notes = noted_again l m freed same k.held held k.notes;
      built = built;
      positions = omega arith;
      sets = omega arith;
      backs = omega arith;
      rests = omega arith;
    }
  where
    held_few : m.held ≤ length m.live
    held_few = let long = same.long in let some = k.held in ⊎_elim (λ e. (omega arith)) (λ e. (omega arith)) held

-- the note that is built
pub built_next : (l : Noted) (n : Note) → l.built ≡ Some n → IsLog l → IsNextOf l n
built_next l n e k = subst (λ o. IfSome o (IsNextOf l)) e k.built

-- the built version becomes the last one that is held
pub held_is_noted : (l : Noted) (n : Note) → l.built ≡ Some n → IsLog l → AreNoted (held_noted l)
held_is_noted l n e k =
    let is = built_next l n e k in
    let at : n.position ≡ l.freed + length l.live = is.0 in
    let first : n.first ≡ first_of l = is.1 in
    let few = k.held in
    let live : l.live ++ built_list l.built ≡ l.live ++ n ∷ [] = ap (λ o. l.live ++ built_list o) e in
    let long : length (l.live ++ built_list l.built) ≡ length l.live + 1 = ap length live ∙ length-append l.live (n ∷ []) in
    let cases : (i : ℕ) (m : Note) → slice_get (l.live ++ built_list l.built) i ≡ Some m
    → ((i < length l.live) × (slice_get l.live i ≡ Some m)) ⊎ ((i ≡ length l.live) × (m ≡ n)) =
    λ i m g. push_before l.live n i m (ap (λ ns. slice_get ns i) (sym live) ∙ g) in
    let notes = k.notes in record {
      position = λ i m g. ⊎_elim (λ a. notes.position i m a.1) (λ b. ap (λ (x : Note). x.position) b.1 ∙ at ∙ ap (λ j. l.freed + j) (sym b.0)) (cases i m g);
      first = λ i m g.
          ⊎_elim (λ a. notes.first i m a.1)
          (λ b.
          let f : m.first ≡ n.first = ap (λ (x : Note). x.first) b.1 in
          let p : m.position ≡ n.position = ap (λ (x : Note). x.position) b.1 in (omega arith, omega arith))
          (cases i m g);
      run = λ i j m other g d le order.
          ⊎_elim
          (λ a. ⊎_elim (λ b. notes.run i j m other a.1 b.1 le order) (λ b. let lt = a.0 in let z = b.0 in absurd (omega arith)) (cases j other d))
          (λ a. let f : m.first ≡ n.first = ap (λ (x : Note). x.first) a.1 in
          ⊎_elim
          (λ b. let p = notes.position j other b.1 in (notes.held j other b.1).0 (omega arith) ∙ sym first ∙ sym f)
          (λ b. ap (λ (x : Note). x.first) b.1 ∙ sym f)
          (cases j other d))
          (cases i m g);
      held = λ i m g.
          let from : held_from (held_noted l) ≡ held_from l = omega arith in
          let firsts : first_of (held_noted l) ≡ first_of l = omega arith in
          ⊎_elim
          (λ a.
          let h = notes.held i m a.1 in
          ((λ le2. h.0 (omega arith) ∙ sym firsts), (λ lt2. let q = h.1 (omega arith) in let r : m.first < first_of (held_noted l) = omega arith in r)))
          (λ b. ((λ le2. ap (λ (x : Note). x.first) b.1 ∙ first ∙ sym firsts), (λ lt2. let z = b.0 in absurd (omega arith))))
          (cases i m g);
    }

pub held_is_log : (l : Noted) (n : Note) → l.built ≡ Some n → IsLog l → IsLog (held_noted l)
held_is_log l n e k =
    let live : l.live ++ built_list l.built ≡ l.live ++ n ∷ [] = ap (λ o. l.live ++ built_list o) e in
    let long : length (l.live ++ built_list l.built) ≡ length l.live + 1 = ap length live ∙ length-append l.live (n ∷ []) in
    let one : built_count l.built ≡ 1 = ap built_count e in
    let room = k.room in
    let few = k.held in
    let is = built_next l n e k in
    let at = is.0 in
    let small = is.4 in
    let sets = k.sets in
    let backs = k.backs in record {
      seat = k.seat;
      slots = k.slots;
      room = omega arith;
      held = omega arith;
      notes = held_is_noted l n e k;
      built = tt;
      positions = omega arith;
      sets = omega arith;
      backs = omega arith;
      rests = k.rests;
    }

pub committed_is_log : (l : Noted) (time : ℕ) → 0 < l.held → l.built ≡ None → IsLog l → IsLog (committed_noted l time)
committed_is_log l time some_held none k =
    let same = from_same (λ n. record n { time = time }) (held_from l) l.live (λ n. (refl, refl)) in
    let sets = k.sets in
    again_is_log l (committed_noted l time) refl refl refl refl refl same (inr refl) (omega arith)
    (subst (λ o. IfSome o (IsNextOf (committed_noted l time))) (sym none) tt) (omega arith) k

-- an abort of something counts one
aborts_few : (held aborts : ℕ) → (if held == 0 then aborts else aborts + 1) ≤ aborts + held
aborts_few held aborts = go (held == 0) refl
  where
    go : (b : Bool) → (held == 0) ≡ b → cond b aborts (aborts + 1) ≤ aborts + held
    go true e = omega arith
    go false e = let ne = eqb-false held 0 e in omega arith

pub aborted_is_log : (l : Noted) (dead : ℕ) → l.built ≡ None → IsLog l → IsLog (aborted_noted l dead)
aborted_is_log l dead none k =
    let same = from_same (λ n. record n { dead = dead }) (held_from l) l.live (λ n. (refl, refl)) in
    let sets = k.sets in
    let few = aborts_few l.held l.aborts in
    again_is_log l (aborted_noted l dead) refl refl refl refl refl same (inr refl) (omega arith)
    (subst (λ o. IfSome o (IsNextOf (aborted_noted l dead))) (sym none) tt) (omega arith) k

-- where something was held the count goes up, and where nothing was it all stays
pub abort_counts : (l : Noted) → l.held ≢ 0 → (if l.held == 0 then l.aborts else l.aborts + 1) ≡ l.aborts + 1
abort_counts l some_held = ap (λ b. cond b l.aborts (l.aborts + 1)) (ne_eqb l.held 0 some_held)

pub abort_of_nothing : (l : Noted) (dead : ℕ) → l.held ≡ 0 → l ≡ aborted_noted l dead
abort_of_nothing l dead none =
    let f : Note → Note = λ n. record n { dead = dead } in
    let from : length l.live ≡ held_from l = omega arith in
    let live : l.live ≡ from_place f (held_from l) l.live = sym (from_end f l.live) ∙ ap (λ k. from_place f k l.live) from in
    let aborts : l.aborts ≡ (if l.held == 0 then l.aborts else l.aborts + 1) = sym (ap (λ n. if n == 0 then l.aborts else l.aborts + 1) none) in
    λ i. record l { live = live i; held = none i; aborts = aborts i }

-- one live version is noted otherwise, in its place
pub renoted_is_log : (l : Noted) (f : Note → Note) (i : ℕ) → KeepsSet f → IsLog l → IsLog (record l { live = at_place f i l.live })
renoted_is_log l f i keeps k =
    again_is_log l (record l { live = at_place f i l.live }) refl refl refl refl refl (at_same f i l.live keeps) (inl refl) (omega arith)
    (next_again l.built k.built) k.sets k
  where
    next_again : (o : Option Note) → IfSome o (IsNextOf l) → IfSome o (IsNextOf (record l { live = at_place f i l.live }))
    next_again None a = tt
    next_again (Some n) a = let long = length-at_place f i l.live in let at = a.0 in let first = a.1 in (omega arith, omega arith, a.2, a.3, a.4)

-- other counts of write-backs and rests
pub counted_is_log : (l : Noted) (back rests : ℕ) → back ≤ next_of l → rests < 2 ^ 63 → IsLog l → IsLog (record l { back = back; rests = rests })
counted_is_log l back rests few some k = record {
  seat = k.seat;
  slots = k.slots;
  room = k.room;
  held = k.held;
  notes = record { position = k.notes.position; first = k.notes.first; run = k.notes.run; held = k.notes.held };
  built = k.built;
  positions = k.positions;
  sets = k.sets;
  backs = few;
  rests = some;
}
