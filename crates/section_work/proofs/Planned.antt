-- Objects are locked one after another in a section that held nothing, each with the words that are to be committed.
use Rattle.section_work.proofs.Terms.{◌≡◌, ◌+◌, ◌<◌, ◌≤◌, ◌∷◌, ◌++◌, ℕ, suc, Bool, true, cond, List, [], length, get_or, take, drop, refl, sym, ap, ◌∙◌, subst}
use Rattle.section_work.proofs.Terms.{arith, take_more, length-take-le, State, Writes, written, touches, are_distinct, AreWithin, InSection, snapshot_of}
use Rattle.section_work.proofs.Terms.{state_of, Lacks, GoesOn, LocksWith, GoesOn-itself, length-written, touches_at, GoesOn-GoesOn, snapshot_of-goes_on}
use Rattle.section_work.proofs.Terms.{with_locks, with_writes, objects_of, count_unheld, HasSpace, HasRoom, HoldsMore, Rewritten, IsRefused, RefusesWith}
use Rattle.section_work.proofs.Terms.{Refusal}
use Rattle.section_work.proofs.OwnWrites.{own_from_none}
use Rattle.section_work.proofs.HeldWrites.{count-append, at_place, distinct_at}
use Rattle.section_work.proofs.Holding.{all_taken}

pub planned_none : (a : InSection) → a.own ≡ [] → HoldsMore a a [] []
planned_none a none = record { goes_on = GoesOn-itself a; spare = omega arith; own = none; snapshot = refl }

-- where nothing is held, each object counts
count_new : (ws : Writes) → count_unheld [] (objects_of ws) ≡ length ws
count_new [] = refl
count_new (w ∷ ws) = let more = count_new ws in omega arith

-- The loop: from section `a`, which held nothing, to `b`, which holds the objects before place i.
module _ (a b : InSection) (changes : Writes) (i : ℕ) (d : ℕ × List ℕ) (lt : i < length changes) (distinct : are_distinct changes ≡ true)
    (space : HasSpace (length changes) a) (h : HoldsMore a b (objects_of (take i changes)) (take i changes)) where
  pub planned_lacks : Lacks b (get_or changes i d).0
  planned_lacks = ap (λ (u : Writes). touches u (get_or changes i d).0) h.own ∙ (distinct_at changes i d lt distinct).1

  pub planned_within : AreWithin changes (length (state_of a)) → (get_or changes i d).0 < length (state_of b)
  planned_within w =
      let same : length (state_of b) ≡ length (state_of a) =
      length-written (snapshot_of b) b.own ∙ ap length h.snapshot ∙ sym (length-written (snapshot_of a) a.own) in
      subst (λ (n : ℕ). (get_or changes i d).0 < n) (sym same) (w (get_or changes i d).0 (touches_at changes i (get_or changes i d).0 d lt refl))

  -- none of the objects was held
  unheld : (ws : Writes) → count_unheld a.own (objects_of ws) ≡ length ws
  unheld ws = ap (λ (u : Writes). count_unheld u (objects_of ws)) space.own ∙ count_new ws

  -- there is room for the next one
  pub planned_room : HasRoom b ((get_or changes i d).0 ∷ [])
  planned_room =
      let one : count_unheld b.own ((get_or changes i d).0 ∷ []) ≡ 1 = ap (λ (t : Bool). cond t 0 1 + 0) planned_lacks in
      let few : length (take i changes) ≡ i = length-take-le i changes (omega arith) in
      let long : length b.own ≡ length (take i changes) = ap length h.own in
      record {
        spare = omega (arith, one, few, unheld (take i changes), h.spare, space.spare);
        held = omega (arith, one, few, long, space.held, h.goes_on.continues.write_max);
      }

  pub planned_refused : (may : Type 0) (found : InSection → InSection → ℕ → ℕ → Type 0) (refusal : Refusal) (c : InSection)
      → IsRefused may found b c (get_or changes i d).0 refusal → RefusesWith may found a c changes refusal
  planned_refused may found refusal c r = record {
    held = take i changes;
    change = get_or changes i d;
    rest = drop (suc i) changes;
    parts = at_place changes i d lt;
    before = b;
    holds = h;
    refused = r;
  }

  pub planned_held : (c : InSection) → b.at ≤ length b.seat.seen → GoesOn b c → LocksWith b c (get_or changes i d).0 (get_or changes i d).1
      → HoldsMore a c (objects_of (take (i + 1) changes)) (take (i + 1) changes)
  planned_held c le goes k = subst (λ (u : Writes). HoldsMore a c (objects_of u) u) (sym (take_more changes i d lt)) (record {
    goes_on = GoesOn-GoesOn h.goes_on goes;
    spare = omega (arith, h.spare, k.spare, unheld (get_or changes i d ∷ []), count-append a.own (take i changes) (get_or changes i d ∷ []));
    own = k.own ∙ ap (λ (u : Writes). u ++ get_or changes i d ∷ []) h.own;
    snapshot = snapshot_of-goes_on b c goes le ∙ h.snapshot;
  })

-- all are held, with their words
pub planned_all : (a b : InSection) (changes : Writes) (i : ℕ) → length changes ≤ i → are_distinct changes ≡ true → a.own ≡ []
    → HoldsMore a b (objects_of (take i changes)) (take i changes) → Rewritten a b (objects_of changes) changes
planned_all a b changes i le distinct none held =
    let h = all_taken (λ (u : Writes). HoldsMore a b (objects_of u) u) changes i le held in
    record {
      holds = record {
        goes_on = h.goes_on;
        spare = h.spare;
        own = h.own ∙ sym (ap (λ (u : Writes). with_writes (with_locks (state_of a) u (objects_of changes)) changes) none
            ∙ own_from_none (state_of a) changes distinct);
        snapshot = h.snapshot;
      };
      state =
          ap (written (snapshot_of b)) h.own
          ∙ ap (λ (s : State). written s changes) (h.snapshot ∙ sym (ap (written (snapshot_of a)) none));
    }
