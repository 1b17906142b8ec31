-- Locks that change no words.
use Rattle.std.proofs.Common.{◌≡◌, ℕ, zero, suc, ◌+◌, ◌<◌, ◌≤◌, ◌⊎◌, inl, inr, Bool, true, false, cond, eqb, ◌||◌, List, [], ◌∷◌, ◌++◌, length}
use Rattle.std.proofs.Common.{length-append, take, get_or, set, refl, sym, ap, subst, ◌∙◌, arith, eqb-true}
use Rattle.std.proofs.lemmas.List.{set-get_or, append-nil, take_more}
use Rattle.std.proofs.lemmas.Bool.Decides.{nat_tests}
use Rattle.mv_history.specs.State.{Writes, touches}
use Rattle.mv_history.specs.Meaning.{InSection, Holds, state_of, words_at}
use Rattle.mv_history.specs.Calls.{GoesOn, IsAsBefore}
use Rattle.mv_history.proofs.Steps.{GoesOn-GoesOn}
use Rattle.mv_history.proofs.Writing.{length-rewritten, touches-rewritten}
use Rattle.section_work.specs.OwnWrites.{with_lock, with_locks}
use Rattle.section_work.specs.Held.{HasRoom, count_unheld}
use Rattle.section_work.specs.Locking.{Rewritten, Refuses, Stops}
use Rattle.section_work.specs.declared.causes.Refusal.{Refusal}
use Rattle.section_work.proofs.OwnWrites.{touches-with_lock}
use Rattle.section_work.proofs.HeldWrites.{length-with_lock}
use Rattle.mv_client.specs.Locks.{IsAmong, LocksOnly}

among_or : (xs ys : List ℕ) (o : ℕ) → IsAmong o xs ⊎ IsAmong o ys → IsAmong o (xs ++ ys)
among_or [] ys o (inl i) = absurd i
among_or [] ys o (inr i) = i
among_or (x ∷ xs) ys o (inl (inl e)) = inl e
among_or (x ∷ xs) ys o (inl (inr i)) = inr (among_or xs ys o (inl i))
among_or (x ∷ xs) ys o (inr i) = inr (among_or xs ys o (inr i))

pub locks_then : {a b c : InSection} {xs ys : List ℕ} → LocksOnly a b xs → LocksOnly b c ys → LocksOnly a c (xs ++ ys)
locks_then {xs = xs} {ys = ys} p q = record {
  goes_on = GoesOn-GoesOn p.goes_on q.goes_on;
  state = q.state ∙ p.state;
  keeps = λ o h. q.keeps o (p.keeps o h);
  only = λ o h. elim (q.only o h) [
    | inl k ↦ elim (p.only o k) [ inl j ↦ inl j | inr i ↦ inr (among_or xs ys o (inl i)) ]
    | inr i ↦ inr (among_or xs ys o (inr i))
  ];
  own = let l = length-append xs ys in omega (arith, l, p.own, q.own);
  spare = let l = length-append xs ys in omega (arith, l, p.spare, q.spare);
}

-- a section that is as before locked nothing
pub locks_none : {a b : InSection} → GoesOn a b → IsAsBefore a b → state_of b ≡ state_of a → LocksOnly a b []
locks_none {a} {b} goes same state = record {
  goes_on = goes;
  state = state;
  keeps = λ o h. ap (λ ws. touches ws o) same.own ∙ h;
  only = λ o h. inl (sym (ap (λ ws. touches ws o) same.own) ∙ h);
  own = omega (arith, ap length same.own);
  spare = omega (arith, same.seat.spare);
}

few_unheld : (own : Writes) (o : ℕ) → count_unheld own (o ∷ []) ≤ 1
few_unheld own o = go (touches own o)
  where
    go : (b : Bool) → cond b 0 1 + 0 ≤ 1
    go true = omega arith
    go false = omega arith

either : (b : Bool) (o p : ℕ) → b || eqb o p ≡ true → (b ≡ true) ⊎ (p ≡ o)
either true o p e = inl refl
either false o p e = inr (sym (eqb-true o p e))

module _ {a b : InSection} {o : ℕ} {w : List ℕ} (is : w ≡ words_at (state_of a) o) where
  touches_one : Rewritten a b (o ∷ []) ((o, w) ∷ []) → (p : ℕ) → touches b.own p ≡ (touches a.own p || eqb o p)
  touches_one r p =
      ap (λ ws. touches ws p) r.holds.own ∙ touches-rewritten (with_lock (state_of a) a.own o) o w p ∙ touches-with_lock (state_of a) a.own o p

  -- the object was put with the words that it had
  pub locks_one : Rewritten a b (o ∷ []) ((o, w) ∷ []) → LocksOnly a b (o ∷ []) × Holds b o
  locks_one r =
      let few = few_unheld a.own o in (
        record {
          goes_on = r.holds.goes_on;
          state = r.state ∙ ap (set (state_of a) o) is ∙ set-get_or (state_of a) o [];
          keeps = λ p h. touches_one r p ∙ ap (λ t. t || eqb o p) h;
          only = λ p h. elim (either (touches a.own p) o p (sym (touches_one r p) ∙ h)) [ inl k ↦ inl k | inr e ↦ inr (inl e) ];
          own = omega (arith, ap length r.holds.own, length-rewritten (with_lock (state_of a) a.own o) o w, length-with_lock (state_of a) a.own o, few);
          spare = omega (arith, r.holds.spare, few);
        },
        touches_one r o ∙ grind (arith, nat_tests),
      )

nothing_held : (held rest : List ℕ) (x y : ℕ) → x ∷ [] ≡ held ++ y ∷ rest → (held ≡ []) × (y ≡ x)
nothing_held [] rest x y e = (refl, cc)
nothing_held (h ∷ held) rest x y e = absurd (omega (arith, ap length e, length-append held (y ∷ rest)))

-- the lock was refused
module _ {a b : InSection} {o : ℕ} {may : Type 0} {found : InSection → InSection → ℕ → ℕ → Type 0} {refusal : Refusal}
    (r : Refuses may found a b (o ∷ []) refusal) where
  pub refused_none : GoesOn a b → LocksOnly a b []
  refused_none goes =
      let none = nothing_held r.held r.rest o r.object r.parts in
      let own : b.own ≡ a.own = r.refused.as_before.own ∙ r.holds.own ∙ ap (with_locks (state_of a) a.own) none.0 in
      record {
        goes_on = goes;
        state = r.state;
        keeps = λ p h. ap (λ ws. touches ws p) own ∙ h;
        only = λ p h. inl (sym (ap (λ ws. touches ws p) own) ∙ h);
        own = omega (arith, ap length own);
        spare = omega (arith, r.refused.as_before.seat.spare, r.holds.spare, ap (count_unheld a.own) none.0);
      }

  pub refused_of : {old : InSection} {Named : ℕ → Type 0} → GoesOn old a → Named o → Stops may found Named old b refusal
  refused_of {old} {Named} goes named =
      let none = nothing_held r.held r.rest o r.object r.parts in
      record {
        object = r.object;
        named = subst Named (sym none.1) named;
        before = r.before;
        goes_on = GoesOn-GoesOn goes r.holds.goes_on;
        refused = r.refused;
      }

-- one of the objects
pub among_at : (xs : List ℕ) (i d : ℕ) → i < length xs → IsAmong (get_or xs i d) xs
among_at [] i d l = absurd (omega arith)
among_at (x ∷ xs) zero d l = inl refl
among_at (x ∷ xs) (suc i) d l = inr (among_at xs i d (omega arith))

pub among_either : (xs ys : List ℕ) (o : ℕ) → IsAmong o (xs ++ ys) → IsAmong o xs ⊎ IsAmong o ys
among_either [] ys o i = inr i
among_either (x ∷ xs) ys o (inl e) = inl (inl e)
among_either (x ∷ xs) ys o (inr i) = elim (among_either xs ys o i) [ inl j ↦ inl (inr j) | inr j ↦ inr j ]

pub locks_more : {a b : InSection} {xs : List ℕ} (ys : List ℕ) → LocksOnly a b xs → LocksOnly a b (xs ++ ys)
locks_more {xs = xs} ys p = record {
  goes_on = p.goes_on;
  state = p.state;
  keeps = p.keeps;
  only = λ o h. elim (p.only o h) [ inl k ↦ inl k | inr i ↦ inr (among_or xs ys o (inl i)) ];
  own = let l = length-append xs ys in omega (arith, l, p.own);
  spare = let l = length-append xs ys in omega (arith, l, p.spare);
}

-- there is room for one more
pub room_for : {a b : InSection} {xs : List ℕ} (o : ℕ) → LocksOnly a b xs → length xs < a.seat.spare → length a.own + length xs < a.seat.write_max
    → HasRoom b (o ∷ [])
room_for {a} {b} o p spare held =
    let few = few_unheld b.own o in
    record { spare = omega (arith, few, p.spare, spare); held = omega (arith, few, p.own, held, p.goes_on.continues.write_max) }

-- a read between them changes nothing of what was locked
pub locks_still : {a b c : InSection} {xs : List ℕ} → LocksOnly a b xs → GoesOn b c → IsAsBefore b c → state_of c ≡ state_of b → LocksOnly a c xs
locks_still {xs = xs} p goes same state = subst (LocksOnly _ _) (append-nil xs) (locks_then p (locks_none goes same state))

-- one step of a walk along the objects
pub locks_step : {a b c d : InSection} (xs : List ℕ) (i : ℕ) {w : List ℕ} → i < length xs → LocksOnly a b (take i xs)
    → ((o : ℕ) → IsAmong o (take i xs) → Holds b o) → GoesOn b c → IsAsBefore b c → state_of c ≡ state_of b
    → w ≡ words_at (state_of c) (get_or xs i 0) → Rewritten c d (get_or xs i 0 ∷ []) ((get_or xs i 0, w) ∷ [])
    → LocksOnly a d (take (i + 1) xs) × ((o : ℕ) → IsAmong o (take (i + 1) xs) → Holds d o)
locks_step {a = a} {b = b} {c = c} {d = d} xs i l p held goes same state is r =
    let one = locks_one {a = c} {b = d} is r in
    let more = take_more xs i 0 l in (
      subst (LocksOnly a d) (sym more) (locks_then (locks_still p goes same state) one.0),
      λ o m. elim (among_either (take i xs) (get_or xs i 0 ∷ []) o (subst (IsAmong o) more m)) [
        | inl k ↦ one.0.keeps o (ap (λ ws. touches ws o) same.own ∙ held o k)
        | inr k ↦ elim k [ inl e ↦ subst (Holds d) (sym e) one.1 | inr none ↦ absurd none ]
      ],
    )
