-- The writes of a section, after locks and writes.
use Rattle.section_work.proofs.Terms.{◌≡◌, ◌+◌, ◌<◌, ◌||◌, ◌∷◌, ◌++◌, ℕ, suc, Bool, true, false, cond, eqb, not, List, [], length, get_or, take, drop, refl}
use Rattle.section_work.proofs.Terms.{sym, ap, ◌∙◌, arith, length-append, append_assoc, take-suc, take-append-drop, not-true, and_parts, nat_tests, State}
use Rattle.section_work.proofs.Terms.{Writes, touches, rewritten, are_distinct, words_at, with_lock, with_locks, with_writes, objects_of, count_unheld}
use Rattle.section_work.proofs.Terms.{or_assoc, or-false, subst}
use Rattle.section_work.proofs.OwnWrites.{distinct_parts}
pub use Rattle.section_work.proofs.OwnWrites.{touches-with_lock, touches-with_writes}

pub touches-with_locks : (s : State) (own xs : Writes) (p : ℕ) → touches (with_locks s own (objects_of xs)) p ≡ touches own p || touches xs p
touches-with_locks s own [] p = sym (or-false (touches own p))
touches-with_locks s own (x ∷ xs) p =
    touches-with_locks s (with_lock s own x.0) xs p ∙ ap (λ (b : Bool). b || touches xs p) (touches-with_lock s own x.0 p)
    ∙ or_assoc (touches own p) (eqb x.0 p) (touches xs p)

pub length-with_lock : (s : State) (ws : Writes) (o : ℕ) → length (with_lock s ws o) ≡ length ws + count_unheld ws (o ∷ [])
length-with_lock s ws o = go (touches ws o)
  where
    go : (b : Bool) → length (cond b ws (ws ++ (o, words_at s o) ∷ [])) ≡ length ws + (cond b 0 1 + 0)
    go true = omega arith
    go false = length-append ws ((o, words_at s o) ∷ []) ∙ omega arith

-- one object more, held or not, leaves the count of others that are not held
count-with_lock : (s : State) (own xs : Writes) (o : ℕ) → touches xs o ≡ false
    → count_unheld (with_lock s own o) (objects_of xs) ≡ count_unheld own (objects_of xs)
count-with_lock s own [] o n = refl
count-with_lock s own (x ∷ xs) o n =
    let e : touches (with_lock s own o) x.0 ≡ touches own x.0 = touches-with_lock s own o x.0 ∙ grind (arith, nat_tests) in
    let r = count-with_lock s own xs o (grind (arith, nat_tests)) in
    ap (λ (b : Bool). cond b 0 1 + count_unheld (with_lock s own o) (objects_of xs)) e ∙ ap (λ (c : ℕ). cond (touches own x.0) 0 1 + c) r

pub length-with_locks : (s : State) (own xs : Writes) → are_distinct xs ≡ true
    → length (with_locks s own (objects_of xs)) ≡ length own + count_unheld own (objects_of xs)
length-with_locks s own [] d = omega arith
length-with_locks s own (x ∷ xs) d =
    let parts = and_parts (not (touches xs x.0)) (are_distinct xs) d in
    let a = length-with_locks s (with_lock s own x.0) xs parts.1 in
    let b = length-with_lock s own x.0 in
    let c = count-with_lock s own xs x.0 (not-true (touches xs x.0) parts.0) in omega arith

-- whether an object is held is the same after locks of others
pub count-with_locks : (s : State) (own xs : Writes) (o : ℕ) → touches xs o ≡ false
    → count_unheld (with_locks s own (objects_of xs)) (o ∷ []) ≡ count_unheld own (o ∷ [])
count-with_locks s own xs o n =
    let e : touches (with_locks s own (objects_of xs)) o ≡ touches own o = touches-with_locks s own xs o ∙ grind (arith, nat_tests) in
    ap (λ (b : Bool). cond b 0 1 + 0) e

-- The last of several objects.
pub objects_of-append : (xs ys : Writes) → objects_of (xs ++ ys) ≡ objects_of xs ++ objects_of ys
objects_of-append [] ys = refl
objects_of-append (x ∷ xs) ys = ap (λ (os : List ℕ). x.0 ∷ os) (objects_of-append xs ys)

pub with_locks-push : (s : State) (own xs : Writes) (x : ℕ × List ℕ)
    → with_locks s own (objects_of (xs ++ x ∷ [])) ≡ with_lock s (with_locks s own (objects_of xs)) x.0
with_locks-push s own [] x = refl
with_locks-push s own (y ∷ xs) x = with_locks-push s (with_lock s own y.0) xs x

pub with_writes-push : (own xs : Writes) (x : ℕ × List ℕ) → with_writes own (xs ++ x ∷ []) ≡ rewritten (with_writes own xs) x.0 x.1
with_writes-push own [] x = refl
with_writes-push own (y ∷ xs) x = with_writes-push (rewritten own y.0 y.1) xs x

pub count-append : (own xs ys : Writes) → count_unheld own (objects_of (xs ++ ys)) ≡ count_unheld own (objects_of xs) + count_unheld own (objects_of ys)
count-append own [] ys = omega arith
count-append own (x ∷ xs) ys = let r = count-append own xs ys in omega arith

-- The writes at a place.
pub at_place : (ws : Writes) (i : ℕ) (d : ℕ × List ℕ) → i < length ws → ws ≡ take i ws ++ get_or ws i d ∷ drop (suc i) ws
at_place ws i d lt =
    sym (take-append-drop (suc i) ws) ∙ ap (λ (u : Writes). u ++ drop (suc i) ws) (take-suc ws i d lt)
    ∙ append_assoc (take i ws) (get_or ws i d ∷ []) (drop (suc i) ws)

pub distinct_at : (ws : Writes) (i : ℕ) (d : ℕ × List ℕ) → i < length ws → are_distinct ws ≡ true
    → (are_distinct (take i ws) ≡ true) × (touches (take i ws) (get_or ws i d).0 ≡ false)
distinct_at ws i d lt distinct =
    distinct_parts (take i ws) (drop (suc i) ws) (get_or ws i d) (subst (λ (u : Writes). are_distinct u ≡ true) (at_place ws i d lt) distinct)
