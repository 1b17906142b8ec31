-- What a section's locks and writes do, one after another.
use Rattle.std.specs.Result.{IsErrAnd, IfErr}
use Rattle.section_work.proofs.Terms.{◌≡◌, ◌+◌, ◌<◌, ◌≤◌, ◌||◌, ◌∷◌, ℕ, suc, Bool, true, List, [], length, get_or, take, drop, set, refl, sym, ap, ◌∙◌, subst}
use Rattle.section_work.proofs.Terms.{arith, or-true, Result, Ok, Err, take_all, take_more, State, Writes, written, touches, rewritten, are_distinct, AreWithin}
use Rattle.section_work.proofs.Terms.{InSection, snapshot_of, state_of, GoesOn, Rewrites, GoesOn-itself, written-append, touches_at, GoesOn-GoesOn}
use Rattle.section_work.proofs.Terms.{state_of-as_before, state_of-rewrites, snapshot_of-goes_on, with_lock, with_locks, objects_of, count_unheld, HasRoom}
use Rattle.section_work.proofs.Terms.{HoldsMore, Rewritten, IsRefused, Refuses, Refusal}
use Rattle.section_work.proofs.OwnWrites.{written-with_locks}
use Rattle.section_work.proofs.HeldWrites.{touches-with_locks, touches-with_writes, length-with_locks, count-with_locks, objects_of-append, with_locks-push}
use Rattle.section_work.proofs.HeldWrites.{with_writes-push, count-append, at_place, distinct_at}

pub holds_nothing : (a : InSection) → HoldsMore a a [] a.own
holds_nothing a = record { goes_on = GoesOn-itself a; spare = omega arith; own = refl; snapshot = refl }

-- locks leave the state
pub holds-state : (a b : InSection) (os : List ℕ) → HoldsMore a b os (with_locks (state_of a) a.own os) → state_of b ≡ state_of a
holds-state a b os h =
    ap (written (snapshot_of b)) h.own ∙ ap (λ (u : State). written u (with_locks (state_of a) a.own os)) h.snapshot
    ∙ written-with_locks (snapshot_of a) (state_of a) a.own os (λ o i. refl)

pub IfErr-told : {T E : Type 0} (r : Result T E) (x : E) (P : E → Type 0) → IsErrAnd r (λ e. e ≡ x) → P x → IfErr r P
IfErr-told (Ok t) x P h p = absurd h
IfErr-told (Err e) x P h p = subst P (sym h) p

-- The first loop: from section `a` to `b`, which holds the objects before place i too.
module _ (a b : InSection) (changes : Writes) (i : ℕ) (d : ℕ × List ℕ) (lt : i < length changes) (distinct : are_distinct changes ≡ true)
    (h : HoldsMore a b (objects_of (take i changes)) (with_locks (state_of a) a.own (objects_of (take i changes)))) where
  count_b : count_unheld b.own ((get_or changes i d).0 ∷ []) ≡ count_unheld a.own ((get_or changes i d).0 ∷ [])
  count_b =
      ap (λ (u : Writes). count_unheld u ((get_or changes i d).0 ∷ [])) h.own
      ∙ count-with_locks (state_of a) a.own (take i changes) (get_or changes i d).0 (distinct_at changes i d lt distinct).1

  pub place_within : AreWithin changes (length (state_of a)) → (get_or changes i d).0 < length (state_of b)
  place_within w =
      subst (λ (u : State). (get_or changes i d).0 < length u) (sym (holds-state a b (objects_of (take i changes)) h))
      (w (get_or changes i d).0 (touches_at changes i (get_or changes i d).0 d lt refl))

  -- there is still room for the next one
  pub place_room : HasRoom a (objects_of changes) → HasRoom b ((get_or changes i d).0 ∷ [])
  place_room r =
      let all = ap (λ (u : Writes). count_unheld a.own (objects_of u)) (at_place changes i d lt) in
      let parts = count-append a.own (take i changes) (get_or changes i d ∷ drop (suc i) changes) in
      let long : length b.own ≡ length a.own + count_unheld a.own (objects_of (take i changes)) =
      ap length h.own ∙ length-with_locks (state_of a) a.own (take i changes) (distinct_at changes i d lt distinct).0 in
      record {
        spare = omega (arith, all, parts, count_b, h.spare, r.spare);
        held = omega (arith, all, parts, count_b, long, r.held, h.goes_on.continues.write_max);
      }

  pub place_refused : (may : Type 0) (found : InSection → InSection → ℕ → ℕ → Type 0) (refusal : Refusal) (c : InSection) → b.at ≤ length b.seat.seen
      → IsRefused may found b c (get_or changes i d).0 refusal → Refuses may found a c (objects_of changes) refusal
  place_refused may found refusal c le r = record {
    held = objects_of (take i changes);
    object = (get_or changes i d).0;
    rest = objects_of (drop (suc i) changes);
    parts = ap objects_of (at_place changes i d lt) ∙ objects_of-append (take i changes) (get_or changes i d ∷ drop (suc i) changes);
    before = b;
    holds = h;
    refused = r;
    state = state_of-as_before b c le r.as_before ∙ holds-state a b (objects_of (take i changes)) h;
  }

  pub place_held : (c : InSection) → HoldsMore b c ((get_or changes i d).0 ∷ []) (with_locks (state_of b) b.own ((get_or changes i d).0 ∷ []))
      → HoldsMore a c (objects_of (take (i + 1) changes)) (with_locks (state_of a) a.own (objects_of (take (i + 1) changes)))
  place_held c k =
      let x : ℕ × List ℕ = get_or changes i d in
      subst (λ (u : Writes). HoldsMore a c (objects_of u) (with_locks (state_of a) a.own (objects_of u))) (sym (take_more changes i d lt)) (record {
        goes_on = GoesOn-GoesOn h.goes_on k.goes_on;
        spare = omega (arith, h.spare, k.spare, count_b, count-append a.own (take i changes) (x ∷ []));
        own =
            k.own ∙ ap (λ (u : State). with_lock u b.own x.0) (holds-state a b (objects_of (take i changes)) h)
            ∙ ap (λ (u : Writes). with_lock (state_of a) u x.0) h.own ∙ sym (with_locks-push (state_of a) a.own (take i changes) x);
        snapshot = k.snapshot ∙ h.snapshot;
      })

pub writing_none : (a b : InSection) (changes : Writes) → HoldsMore a b (objects_of changes) (with_locks (state_of a) a.own (objects_of changes))
    → Rewritten a b (objects_of changes) []
writing_none a b changes h = record { holds = h; state = holds-state a b (objects_of changes) h }

-- The second loop: from section `a` to `b`, which holds all of the objects too, and has written those before place i.
module _ (a b : InSection) (changes : Writes) (i : ℕ) (d : ℕ × List ℕ) (lt : i < length changes) (w : Rewritten a b (objects_of changes) (take i changes)) where
  pub place_touches : touches b.own (get_or changes i d).0 ≡ true
  place_touches =
      let o : ℕ = (get_or changes i d).0 in
      ap (λ (u : Writes). touches u o) w.holds.own ∙ touches-with_writes (with_locks (state_of a) a.own (objects_of changes)) (take i changes) o
      ∙ touches-with_locks (state_of a) a.own changes o
      ∙ ap (λ (u : Bool). touches a.own o || u) (touches_at changes i o d lt refl) ∙ or-true (touches a.own o)

  pub place_written : (c : InSection) → b.at ≤ length b.seat.seen → are_distinct b.own ≡ true → GoesOn b c
      → Rewrites b c (get_or changes i d).0 (get_or changes i d).1 → Rewritten a c (objects_of changes) (take (i + 1) changes)
  place_written c le own goes r =
      let x : ℕ × List ℕ = get_or changes i d in
      subst (λ (u : Writes). Rewritten a c (objects_of changes) u) (sym (take_more changes i d lt)) (record {
        holds = record {
          goes_on = GoesOn-GoesOn w.holds.goes_on goes;
          spare = omega (arith, w.holds.spare, r.seat.spare);
          own =
              r.own ∙ ap (λ (u : Writes). rewritten u x.0 x.1) w.holds.own
              ∙ sym (with_writes-push (with_locks (state_of a) a.own (objects_of changes)) (take i changes) x);
          snapshot = snapshot_of-goes_on b c goes le ∙ w.holds.snapshot;
        };
        state =
            state_of-rewrites b c x.0 x.1 le own place_touches r ∙ ap (λ (u : State). set u x.0 x.1) w.state
            ∙ sym (written-append (state_of a) (take i changes) (x ∷ []));
      })

-- all are locked, or written
pub all_taken : (P : Writes → Type 0) (changes : Writes) (i : ℕ) → length changes ≤ i → P (take i changes) → P changes
all_taken P changes i le p = subst P (take_all i changes le) p
