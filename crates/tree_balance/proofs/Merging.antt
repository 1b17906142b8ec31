-- More writes after those that are planned.
use Rattle.std.proofs.Common.{
  ◌≡◌,
  ◌≢◌,
  ℕ,
  zero,
  suc,
  ◌+◌,
  ◌<◌,
  ◌≤◌,
  Bool,
  true,
  false,
  cond,
  eqb,
  eq-eqb,
  ◌||◌,
  List,
  [],
  ◌∷◌,
  ◌++◌,
  length,
  take,
  drop,
  set,
  get_or,
  refl,
  sym,
  ap,
  ◌∙◌,
  subst,
  arith,
  true≢false,
  drop-cons,
  length-append,
}
use Rattle.std.proofs.lemmas.List.{take_more, take_all, take_more_set, length-take-le}
use Rattle.std.proofs.lemmas.Bool.Decides.{nat_tests}
use Rattle.mv_history.specs.State.{State, Writes, touches, rewritten}
use Rattle.mv_history.specs.Legal.{are_distinct}
use Rattle.mv_history.specs.Meaning.{words_at}
use Rattle.mv_history.proofs.Writing.{touches-append, touches_at, touches-rewritten, set-rewritten, are_distinct-rewritten, length-rewritten}
use Rattle.section_work.specs.OwnWrites.{with_lock, with_locks, with_writes, objects_of}
use Rattle.section_work.proofs.OwnWrites.{touches-with_lock, distinct-with_locks, own_from_none}
use Rattle.section_work.proofs.HeldWrites.{touches-with_locks, touches-with_writes}
use Rattle.section_work.specs.Held.{count_unheld}
use Rattle.tree_balance.specs.Drafts.{merged_one, merged}

pub merged-push : (own ws : Writes) (x : ℕ × List ℕ) → merged own (ws ++ x ∷ []) ≡ merged_one (merged own ws) x.0 x.1
merged-push own [] x = refl
merged-push own (w ∷ ws) x = merged-push (merged_one own w.0 w.1) ws x

rewritten-append : (own ys : Writes) (o : ℕ) (w : List ℕ) → touches own o ≡ true → rewritten (own ++ ys) o w ≡ rewritten own o w ++ ys
rewritten-append [] ys o w t = absurd (true≢false (sym t))
rewritten-append (x ∷ own) ys o w t = go (eqb x.0 o) refl (rewritten-append own ys o w)
  where
    go : (b : Bool) → eqb x.0 o ≡ b → (touches own o ≡ true → rewritten (own ++ ys) o w ≡ rewritten own o w ++ ys)
        → cond b ((o, w) ∷ (own ++ ys)) (x ∷ rewritten (own ++ ys) o w) ≡ cond b ((o, w) ∷ own) (x ∷ rewritten own o w) ++ ys
    go true q r = refl
    go false q r = ap (λ (u : Writes). x ∷ u) (r (ap (λ (b : Bool). b || touches own o) (sym q) ∙ t))

rewritten-last : (own : Writes) (o : ℕ) (words w : List ℕ) → touches own o ≡ false → rewritten (own ++ (o, words) ∷ []) o w ≡ own ++ (o, w) ∷ []
rewritten-last [] o words w out = ap (λ (b : Bool). cond b ((o, w) ∷ []) ((o, words) ∷ [])) (eq-eqb o o refl)
rewritten-last (x ∷ own) o words w out = grind (arith, nat_tests, rewritten-last own o words w)

-- a write of a held object, and locks of others after it
rewritten-lock : (s : State) (own : Writes) (x o : ℕ) (w : List ℕ) → touches own o ≡ true
    → rewritten (with_lock s own x) o w ≡ with_lock s (rewritten own o w) x
rewritten-lock s own x o w t =
    go (touches own x) ∙ ap (λ (b : Bool). cond b (rewritten own o w) (rewritten own o w ++ (x, words_at s x) ∷ [])) (sym (touches-rewritten own o w x))
  where
    go : (b : Bool) → rewritten (cond b own (own ++ (x, words_at s x) ∷ [])) o w ≡ cond b (rewritten own o w) (rewritten own o w ++ (x, words_at s x) ∷ [])
    go true = refl
    go false = rewritten-append own ((x, words_at s x) ∷ []) o w t

held-lock : (s : State) (own : Writes) (o p : ℕ) → touches own o ≡ true → touches (with_lock s own p) o ≡ true
held-lock s own o p t = touches-with_lock s own p o ∙ grind (arith, nat_tests)

rewritten-locks : (s : State) (own : Writes) (os : List ℕ) (o : ℕ) (w : List ℕ) → touches own o ≡ true
    → rewritten (with_locks s own os) o w ≡ with_locks s (rewritten own o w) os
rewritten-locks s own [] o w t = refl
rewritten-locks s own (x ∷ os) o w t =
    rewritten-locks s (with_lock s own x) os o w (held-lock s own o x t) ∙ ap (λ (u : Writes). with_locks s u os) (rewritten-lock s own x o w t)

-- a lock of one object and a write of it
lock_and_write : (s : State) (own : Writes) (o : ℕ) (w : List ℕ) → rewritten (with_lock s own o) o w ≡ merged_one own o w
lock_and_write s own o w = go (touches own o) refl
  where
    go : (b : Bool) → touches own o ≡ b → rewritten (cond b own (own ++ (o, words_at s o) ∷ [])) o w ≡ cond b (rewritten own o w) (own ++ (o, w) ∷ [])
    go true q = refl
    go false q = rewritten-last own o (words_at s o) w q

locked_itself : (s : State) (own : Writes) (o : ℕ) → touches (with_lock s own o) o ≡ true
locked_itself s own o = touches-with_lock s own o o ∙ grind (arith, nat_tests)

-- Locks and then writes of the same objects are these writes merged with those that are held.
pub merged-is : (s : State) (own ws : Writes) → with_writes (with_locks s own (objects_of ws)) ws ≡ merged own ws
merged-is s own [] = refl
merged-is s own (w ∷ ws) =
    ap (λ (u : Writes). with_writes u ws) (rewritten-locks s (with_lock s own w.0) (objects_of ws) w.0 w.1 (locked_itself s own w.0))
    ∙ ap (λ (u : Writes). with_writes (with_locks s u (objects_of ws)) ws) (lock_and_write s own w.0 w.1)
    ∙ merged-is s (merged_one own w.0 w.1) ws

-- with nothing before they are themselves
pub merged-none : (ws : Writes) → are_distinct ws ≡ true → merged [] ws ≡ ws
merged-none ws d = sym (merged-is [] [] ws) ∙ own_from_none [] ws d

-- What is counted of objects that are not held.
pub touches-merged_one : (own : Writes) (o p : ℕ) (w : List ℕ) → touches own p ≡ true → touches (merged_one own o w) p ≡ true
touches-merged_one own o p w t =
    ap (λ (u : Writes). touches u p) (sym (lock_and_write [] own o w)) ∙ touches-rewritten (with_lock [] own o) o w p ∙ held-lock [] own p o t

pub count-less : (own more : Writes) (os : List ℕ) → ((p : ℕ) → touches own p ≡ true → touches more p ≡ true) → count_unheld more os ≤ count_unheld own os
count-less own more [] f = omega arith
count-less own more (o ∷ os) f = go (touches own o) refl (touches more o) refl (count-less own more os f)
  where
    go : (a : Bool) → touches own o ≡ a → (b : Bool) → touches more o ≡ b → count_unheld more os ≤ count_unheld own os
        → cond b 0 1 + count_unheld more os ≤ cond a 0 1 + count_unheld own os
    go true p true q l = omega arith
    go true p false q l = absurd (true≢false (sym (f o p) ∙ q))
    go false p true q l = omega arith
    go false p false q l = omega arith

-- Room for the next write, and for those after it, of the writes that are planned by now.
module _ (own ws : Writes) (i n : ℕ) (d : ℕ × List ℕ) (lt : i < length ws) (room : n + count_unheld own (objects_of (drop i ws)) ≤ 16) where
  parts : drop i ws ≡ get_or ws i d ∷ drop (suc i) ws
  parts = drop-cons ws i d lt

  room_here : n + count_unheld own ((get_or ws i d).0 ∷ objects_of (drop (suc i) ws)) ≤ 16
  room_here = subst (λ (u : Writes). n + count_unheld own (objects_of u) ≤ 16) parts room

  pub room_next : n + count_unheld own ((get_or ws i d).0 ∷ []) ≤ 16
  room_next = let r = room_here in omega arith

  pub room_later : (m : ℕ) (next : Writes) → m ≡ n + count_unheld own ((get_or ws i d).0 ∷ []) → next ≡ merged_one own (get_or ws i d).0 (get_or ws i d).1
      → m + count_unheld next (objects_of (drop (i + 1) ws)) ≤ 16
  room_later m next e f =
      let r = room_here in
      let same : suc i ≡ i + 1 = omega arith in
      let less = count-less own next (objects_of (drop (suc i) ws))
      (λ p t. ap (λ (u : Writes). touches u p) f ∙ touches-merged_one own (get_or ws i d).0 p (get_or ws i d).1 t) in
      let here : m + count_unheld next (objects_of (drop (suc i) ws)) ≤ 16 = omega arith in
      subst (λ (j : ℕ). m + count_unheld next (objects_of (drop j ws)) ≤ 16) same here

-- the next one is merged too
pub merged_next : (own ws : Writes) (i : ℕ) (d : ℕ × List ℕ) (mid next : Writes) → i < length ws → mid ≡ merged own (take i ws)
    → next ≡ merged_one mid (get_or ws i d).0 (get_or ws i d).1 → next ≡ merged own (take (i + 1) ws)
merged_next own ws i d mid next lt e f =
    f ∙ ap (λ (u : Writes). merged_one u (get_or ws i d).0 (get_or ws i d).1) e ∙ sym (merged-push own (take i ws) (get_or ws i d))
    ∙ ap (merged own) (sym (take_more ws i d lt))

-- at the end all are taken
pub merged_all : (own mid ws : Writes) (i : ℕ) → length ws ≤ i → mid ≡ merged own (take i ws) → mid ≡ merged own ws
merged_all own mid ws i le e = e ∙ ap (merged own) (take_all i ws le)

-- The search for an object among the planned writes.
pub untouched_more : (ws : Writes) (i o : ℕ) (d : ℕ × List ℕ) → i < length ws → touches (take i ws) o ≡ false → (get_or ws i d).0 ≢ o
    → touches (take (i + 1) ws) o ≡ false
untouched_more ws i o d lt out n =
    ap (λ (u : Writes). touches u o) (take_more ws i d lt) ∙ touches-append (take i ws) (get_or ws i d ∷ []) o ∙ grind (arith, nat_tests)

pub take-set_within : (ws : Writes) (n i : ℕ) (x : ℕ × List ℕ) → i < n → take n (set ws i x) ≡ set (take n ws) i x
take-set_within ws zero i x lt = absurd (omega arith)
take-set_within [] (suc n) i x lt = refl
take-set_within (w ∷ ws) (suc n) zero x lt = refl
take-set_within (w ∷ ws) (suc n) (suc i) x lt = ap (λ (u : Writes). w ∷ u) (take-set_within ws n i x (omega arith))

-- a write in the place of its object
pub written_there : (ws : Writes) (n i o : ℕ) (w : List ℕ) → n ≤ length ws → i < length (take n ws) → (get_or (take n ws) i (0, [])).0 ≡ o
    → touches (take i (take n ws)) o ≡ false → (take n (set ws i (o, w)) ≡ merged_one (take n ws) o w) × (touches (take n ws) o ≡ true)
written_there ws n i o w le lt is out =
    let long : length (take n ws) ≡ n = length-take-le n ws le in
    let there : touches (take n ws) o ≡ true = touches_at (take n ws) i o (0, []) lt is in (
      take-set_within ws n i (o, w) (omega arith) ∙ set-rewritten (take n ws) i o w (0, []) lt is out
          ∙ ap (λ (b : Bool). cond b (rewritten (take n ws) o w) (take n ws ++ (o, w) ∷ [])) (sym there),
      there,
    )

-- and a last one
pub written_last : (ws : Writes) (n o : ℕ) (w : List ℕ) → n < length ws → touches (take n ws) o ≡ false
    → take (n + 1) (set ws n (o, w)) ≡ merged_one (take n ws) o w
written_last ws n o w lt out =
    take_more_set ws n (o, w) lt ∙ ap (λ (b : Bool). cond b (rewritten (take n ws) o w) (take n ws ++ (o, w) ∷ [])) (sym out)

-- how many writes there are then
pub count_there : (own : Writes) (n o : ℕ) → touches own o ≡ true → n ≡ n + count_unheld own (o ∷ [])
count_there own n o t = let e : count_unheld own (o ∷ []) ≡ 0 = ap (λ (b : Bool). cond b 0 1 + 0) t in omega arith

pub count_last : (own : Writes) (n o : ℕ) → touches own o ≡ false → n + 1 ≡ n + count_unheld own (o ∷ [])
count_last own n o t = let e : count_unheld own (o ∷ []) ≡ 1 = ap (λ (b : Bool). cond b 0 1 + 0) t in omega arith

pub below_most : (own : Writes) (n o : ℕ) → touches own o ≡ false → n + count_unheld own (o ∷ []) ≤ 16 → n < 16
below_most own n o t r = let e : count_unheld own (o ∷ []) ≡ 1 = ap (λ (b : Bool). cond b 0 1 + 0) t in omega arith

pub room_start : (ws : Writes) (n more : ℕ) → n ≤ length ws → length (take n ws) + more ≤ 16 → n + more ≤ 16
room_start ws n more le r = let long : length (take n ws) ≡ n = length-take-le n ws le in omega arith

-- what is touched by the merged writes, and that their objects differ
are_distinct-with_writes : (own ws : Writes) → are_distinct (with_writes own ws) ≡ are_distinct own
are_distinct-with_writes own [] = refl
are_distinct-with_writes own (w ∷ ws) = are_distinct-with_writes (rewritten own w.0 w.1) ws ∙ are_distinct-rewritten own w.0 w.1

pub merged-distinct : (own ws : Writes) → are_distinct own ≡ true → are_distinct (merged own ws) ≡ true
merged-distinct own ws d =
    ap are_distinct (sym (merged-is [] own ws)) ∙ are_distinct-with_writes (with_locks [] own (objects_of ws)) ws ∙ distinct-with_locks [] own (objects_of ws) d

pub touches-merged : (own ws : Writes) (o : ℕ) → touches (merged own ws) o ≡ touches own o || touches ws o
touches-merged own ws o =
    ap (λ (u : Writes). touches u o) (sym (merged-is [] own ws)) ∙ touches-with_writes (with_locks [] own (objects_of ws)) ws o ∙ touches-with_locks [] own ws o

pub length-merged : (own ws : Writes) → length own ≤ length (merged own ws)
length-merged own [] = omega arith
length-merged own (w ∷ ws) = let r = length-merged (merged_one own w.0 w.1) ws in let one = longer own w.0 w.1 (touches own w.0) in omega arith
  where
    longer : (own : Writes) (o : ℕ) (w : List ℕ) (b : Bool) → length own ≤ length (cond b (rewritten own o w) (own ++ (o, w) ∷ []))
    longer own o w true = let e = length-rewritten own o w in omega arith
    longer own o w false = let e = length-append own ((o, w) ∷ []) in omega arith
