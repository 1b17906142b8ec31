-- What a section's writes do, after more locks and more writes.
use Rattle.section_work.proofs.Terms.{◌≡◌, ◌≢◌, ◌⊎◌, ◌||◌, ◌∷◌, ◌++◌, ℕ, inl, inr, Bool, true, false, cond, eqb, not, List, [], length, set, refl}
use Rattle.section_work.proofs.Terms.{sym, ap, ◌∙◌, arith, append_assoc, append-nil, length-set, set-get_or}
use Rattle.section_work.proofs.Terms.{not-true, and_parts, nat_tests, State, Writes, written, touches, rewritten, are_distinct, words_at}
use Rattle.section_work.proofs.Terms.{written-append, touches-append, touches-rewritten, are_distinct-push, are_distinct-rewritten, written-rewritten}
use Rattle.section_work.proofs.Terms.{rewritten-last, with_lock, with_locks, with_writes, objects_of}
use Rattle.std.proofs.lemmas.Grind.{common_steps}
use Rattle.section_work.proofs.Objects.{IsIn}

-- a lock with the words that the object has changes no state
pub written-with_lock : (s t : State) (own : Writes) (o : ℕ) → words_at t o ≡ words_at (written s own) o → written s (with_lock t own o) ≡ written s own
written-with_lock s t own o e = go (touches own o)
  where
    go : (b : Bool) → written s (cond b own (own ++ (o, words_at t o) ∷ [])) ≡ written s own
    go true = refl
    go false =
        written-append s own ((o, words_at t o) ∷ []) ∙ ap (λ w. set (written s own) o w) e ∙ set-get_or (written s own) o []

pub written-with_locks : (s t : State) (own : Writes) (os : List ℕ) → ((o : ℕ) → IsIn o os → words_at t o ≡ words_at (written s own) o)
    → written s (with_locks t own os) ≡ written s own
written-with_locks s t own [] f = refl
written-with_locks s t own (x ∷ os) f =
    let e : written s (with_lock t own x) ≡ written s own = written-with_lock s t own x (f x (inl refl)) in
    written-with_locks s t (with_lock t own x) os (λ o i. f o (inr i) ∙ ap (λ u. words_at u o) (sym e)) ∙ e

pub touches-with_lock : (s : State) (own : Writes) (o p : ℕ) → touches (with_lock s own o) p ≡ touches own p || eqb o p
touches-with_lock s own o p = grind (arith, nat_tests, touches-append own ((o, words_at s o) ∷ []) p)

-- what was held is, and what was locked
pub touches-with_locks : (s : State) (own : Writes) (os : List ℕ) (p : ℕ) → (touches own p ≡ true) ⊎ IsIn p os → touches (with_locks s own os) p ≡ true
touches-with_locks s own [] p (inl e) = e
touches-with_locks s own [] p (inr i) = absurd i
touches-with_locks s own (x ∷ os) p h = touches-with_locks s (with_lock s own x) os p (here h)
  where
    here : (touches own p ≡ true) ⊎ IsIn p (x ∷ os) → (touches (with_lock s own x) p ≡ true) ⊎ IsIn p os
    here (inl e) = inl (touches-with_lock s own x p ∙ grind (arith, nat_tests))
    here (inr (inl e)) = inl (touches-with_lock s own x p ∙ grind (arith, nat_tests))
    here (inr (inr i)) = inr i

pub distinct-with_locks : (s : State) (own : Writes) (os : List ℕ) → are_distinct own ≡ true → are_distinct (with_locks s own os) ≡ true
distinct-with_locks s own [] d = d
distinct-with_locks s own (x ∷ os) d = distinct-with_locks s (with_lock s own x) os (one (touches own x) refl)
  where
    one : (b : Bool) → touches own x ≡ b → are_distinct (cond b own (own ++ (x, words_at s x) ∷ [])) ≡ true
    one true e = d
    one false e = are_distinct-push own x (words_at s x) d e

-- locks go by the words of the locked objects alone
pub same_locks : (s t : State) (own : Writes) (os : List ℕ) → ((o : ℕ) → IsIn o os → words_at s o ≡ words_at t o) → with_locks s own os ≡ with_locks t own os
same_locks s t own [] f = refl
same_locks s t own (x ∷ os) f =
    ap (λ w. with_locks s (cond (touches own x) own (own ++ (x, w) ∷ [])) os) (f x (inl refl)) ∙ same_locks s t (with_lock t own x) os (λ o i. f o (inr i))

pub touches-with_writes : (own ws : Writes) (p : ℕ) → touches (with_writes own ws) p ≡ touches own p
touches-with_writes own [] p = refl
touches-with_writes own (w ∷ ws) p = touches-with_writes (rewritten own w.0 w.1) ws p ∙ touches-rewritten own w.0 w.1 p

-- writes of held objects change the state as they do one after another
pub written-with_writes : (s : State) (own ws : Writes) → are_distinct own ≡ true → ((o : ℕ) → IsIn o (objects_of ws) → touches own o ≡ true)
    → written s (with_writes own ws) ≡ written (written s own) ws
written-with_writes s own [] d f = refl
written-with_writes s own (w ∷ ws) d f =
    written-with_writes s (rewritten own w.0 w.1) ws (are_distinct-rewritten own w.0 w.1 ∙ d) (λ o i. touches-rewritten own w.0 w.1 o ∙ f o (inr i))
    ∙ ap (λ u. written u ws) (written-rewritten s own w.0 w.1 d (f w.0 (inl refl)))

set_as : (s t : State) (p o : ℕ) (words : List ℕ) → length s ≡ length t → words_at s o ≡ words_at t o → words_at (set s p words) o ≡ words_at (set t p words) o
set_as s t p o words l e = grind (arith, common_steps)

-- Where two states of one length agree on an object, they do after the same writes.
pub words-written_as : (s t : State) (ws : Writes) (o : ℕ) → length s ≡ length t → words_at s o ≡ words_at t o
    → words_at (written s ws) o ≡ words_at (written t ws) o
words-written_as s t [] o l e = e
words-written_as s t (w ∷ ws) o l e =
    words-written_as (set s w.0 w.1) (set t w.0 w.1) ws o (length-set s w.0 w.1 ∙ l ∙ sym (length-set t w.0 w.1)) (set_as s t w.0 o w.1 l e)

-- what comes before one of different objects differs, and from it
pub distinct_parts : (xs ys : Writes) (x : ℕ × List ℕ) → are_distinct (xs ++ x ∷ ys) ≡ true → (are_distinct xs ≡ true) × (touches xs x.0 ≡ false)
distinct_parts [] ys x d = (refl, refl)
distinct_parts (y ∷ xs) ys x d =
    let parts = and_parts (not (touches (xs ++ x ∷ ys) y.0)) (are_distinct (xs ++ x ∷ ys)) d in
    let r = distinct_parts xs ys x parts.1 in
    let n : touches (xs ++ x ∷ ys) y.0 ≡ false = not-true (touches (xs ++ x ∷ ys) y.0) parts.0 in
    let e = touches-append xs (x ∷ ys) y.0 in
    let m : touches xs y.0 ≡ false = grind (arith, nat_tests) in
    let o : y.0 ≢ x.0 = grind (arith, nat_tests) in
    let front : are_distinct (y ∷ xs) ≡ true = grind (arith, nat_tests) in
    let apart : touches (y ∷ xs) x.0 ≡ false = grind (arith, nat_tests) in (front, apart)

rewritten-append : (xs ys : Writes) (o : ℕ) (words : List ℕ) → touches xs o ≡ true → rewritten (xs ++ ys) o words ≡ rewritten xs o words ++ ys
rewritten-append [] ys o words t = absurd (cc)
rewritten-append (x ∷ xs) ys o words t = grind (arith, nat_tests, rewritten-append xs ys o words)

-- a held object may be written before others are locked
rewritten-with_locks : (s : State) (own : Writes) (os : List ℕ) (o : ℕ) (words : List ℕ) → touches own o ≡ true
    → rewritten (with_locks s own os) o words ≡ with_locks s (rewritten own o words) os
rewritten-with_locks s own [] o words t = refl
rewritten-with_locks s own (x ∷ os) o words t =
    rewritten-with_locks s (with_lock s own x) os o words (touches-with_lock s own x o ∙ ap (λ b. b || eqb x o) t)
    ∙ ap (λ u. with_locks s u os) (one (touches own x)
    ∙ ap (λ (b : Bool). cond b (rewritten own o words) (rewritten own o words ++ (x, words_at s x) ∷ [])) (sym (touches-rewritten own o words x)))
  where
    one : (b : Bool) → rewritten (cond b own (own ++ (x, words_at s x) ∷ [])) o words
        ≡ cond b (rewritten own o words) (rewritten own o words ++ (x, words_at s x) ∷ [])
    one true = refl
    one false = rewritten-append own ((x, words_at s x) ∷ []) o words t

-- Different objects, locked and written behind others.
own_behind : (s : State) (own ws : Writes) → are_distinct (own ++ ws) ≡ true → with_writes (with_locks s own (objects_of ws)) ws ≡ own ++ ws
own_behind s own [] d = sym (append-nil own)
own_behind s own (w ∷ ws) d =
    let out : touches own w.0 ≡ false = (distinct_parts own ws w d).1 in
    let lock : with_lock s own w.0 ≡ own ++ (w.0, words_at s w.0) ∷ [] = ap (λ (b : Bool). cond b own (own ++ (w.0, words_at s w.0) ∷ [])) out in
    let held : touches (with_lock s own w.0) w.0 ≡ true = touches-with_lock s own w.0 w.0 ∙ grind (arith, nat_tests) in
    let assoc : (own ++ w ∷ []) ++ ws ≡ own ++ w ∷ ws = append_assoc own (w ∷ []) ws in
    ap (λ u. with_writes u ws) (rewritten-with_locks s (with_lock s own w.0) (objects_of ws) w.0 w.1 held
    ∙ ap (λ u. with_locks s (rewritten u w.0 w.1) (objects_of ws)) lock
    ∙ ap (λ u. with_locks s u (objects_of ws)) (rewritten-last own w.0 (words_at s w.0) w.1 out))
    ∙ own_behind s (own ++ w ∷ []) ws (ap are_distinct assoc ∙ d) ∙ assoc

-- Where nothing was held, the section holds exactly these writes.
pub own_from_none : (s : State) (ws : Writes) → are_distinct ws ≡ true → with_writes (with_locks s [] (objects_of ws)) ws ≡ ws
own_from_none s ws d = own_behind s [] ws d
