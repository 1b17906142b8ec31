-- Drafts of an add and of steps after it.
use Rattle.std.proofs.Common.{◌≡◌, ℕ, zero, suc, ◌+◌, ◌<◌, ◌≤◌, Bool, true, false, cond, ◌||◌, eqb}
use Rattle.std.proofs.Common.{inr, List, [], ◌∷◌, ◌++◌, length, take, get_or, refl, sym, ap, ◌∙◌, subst, arith}
use Rattle.std.proofs.Common.{length-append, length-take}
use Rattle.mv_history.specs.State.{State, Writes, written, touches, rewritten}
use Rattle.mv_history.specs.Legal.{are_distinct}
use Rattle.mv_history.specs.Meaning.{words_at}
use Rattle.mv_history.proofs.Writing.{words-written_other, words-written_same, length-rewritten}
use Rattle.section_work.specs.OwnWrites.{with_locks, objects_of}
use Rattle.section_work.specs.Held.{count_unheld}
use Rattle.section_work.proofs.OwnWrites.{touches-with_locks, distinct-with_locks, written-with_writes, written-with_locks}
use Rattle.set_model.specs.Objects.{revalue}
use Rattle.tree_set.specs.Places.{redirect}
use Rattle.tree_balance.specs.declared.steps.BalanceStep.{BalanceStep}
use Rattle.tree_balance.specs.declared.steps.BalanceStep.TheVariants.{Rank, Rotate}
use Rattle.tree_balance.specs.Steps.{step_writes, IsStep, stepped, after_steps, AreSteps, names, lowered, raised}
use Rattle.tree_balance.specs.declared.plan.WritePlan.{WritePlan}
use Rattle.tree_balance.specs.Drafts.{writes_in, IsPlaceOf, merged_one, merged, IsDraft, Extends}
use Rattle.tree_balance.proofs.Merging.{merged-is, merged-none, merged-distinct, touches-merged, count-less, touches-merged_one}

-- merged writes change the state as they do one after another
pub written-merged : (s : State) (own ws : Writes) → are_distinct own ≡ true → written s (merged own ws) ≡ written (written s own) ws
written-merged s own ws d =
    ap (written s) (sym (merged-is (written s own) own ws))
    ∙ written-with_writes s (with_locks (written s own) own (objects_of ws)) ws (distinct-with_locks (written s own) own (objects_of ws) d)
    (λ o i. touches-with_locks (written s own) own (objects_of ws) o (inr i))
    ∙ ap (λ (u : State). written u ws) (written-with_locks s (written s own) own (objects_of ws) (λ o i. refl))

-- and are not more than those that were not there
pub length-merged_within : (own ws : Writes) → length (merged own ws) ≤ length own + count_unheld own (objects_of ws)
length-merged_within own [] = omega arith
length-merged_within own (w ∷ ws) =
    let one = longer own w.0 w.1 (touches own w.0) in
    let less = count-less own (merged_one own w.0 w.1) (objects_of ws) (λ p t. touches-merged_one own w.0 p w.1 t) in
    let more = length-merged_within (merged_one own w.0 w.1) ws in omega arith
  where
    longer : (own : Writes) (o : ℕ) (w : List ℕ) (b : Bool) → length (cond b (rewritten own o w) (own ++ (o, w) ∷ [])) ≤ length own + cond b 0 1
    longer own o w true = let e = length-rewritten own o w in omega arith
    longer own o w false = let e = length-append own ((o, w) ∷ []) in omega arith

below_count : (ws : Writes) (n i : ℕ) → i < length (take n ws) → i < n
below_count ws zero i lt = absurd (omega arith)
below_count [] (suc n) i lt = absurd (omega arith)
below_count (w ∷ ws) (suc n) zero lt = omega arith
below_count (w ∷ ws) (suc n) (suc i) lt = let r = below_count ws n i (omega arith) in omega arith

from_take : (ws : Writes) (n i : ℕ) (d : ℕ × List ℕ) → i < n → get_or (take n ws) i d ≡ get_or ws i d
from_take ws zero i d lt = absurd (omega arith)
from_take [] (suc n) i d lt = refl
from_take (w ∷ ws) (suc n) zero d lt = refl
from_take (w ∷ ws) (suc n) (suc i) d lt = from_take ws n i d (omega arith)

-- the words of an object after the writes
pub words_there : (s : State) (ws : Writes) (n i o : ℕ) → are_distinct (take n ws) ≡ true → IsPlaceOf (take n ws) o i → o < length s
    → (get_or ws i (0, [])).1 ≡ words_at (written s (take n ws)) o
words_there s ws n i o d (lt, is, out) range =
    ap (λ (w : ℕ × List ℕ). w.1) (sym (from_take ws n i (0, []) (below_count ws n i lt))) ∙ sym (words-written_same s (take n ws) i o (0, []) d lt is range)

pub words_elsewhere : (s : State) (ws : Writes) (o : ℕ) → touches ws o ≡ false → words_at s o ≡ words_at (written s ws) o
words_elsewhere s ws o out = sym (words-written_other s ws o out)

-- Steps one after another.
after_steps-push : (s : State) (steps : List BalanceStep) (x : BalanceStep) → after_steps s (steps ++ x ∷ []) ≡ stepped (after_steps s steps) x
after_steps-push s [] x = refl
after_steps-push s (y ∷ steps) x = after_steps-push (stepped s y) steps x

are_steps-push : (s : State) (root : ℕ) (steps : List BalanceStep) (x : BalanceStep) → AreSteps s root steps → IsStep (after_steps s steps) root x
    → AreSteps s root (steps ++ x ∷ [])
are_steps-push s root [] x are is = (is, tt)
are_steps-push s root (y ∷ steps) x are is = (are.0, are_steps-push (stepped s y) root steps x are.1 is)

or_assoc : (a b c : Bool) → a || (b || c) ≡ (a || b) || c
or_assoc true b c = refl
or_assoc false b c = refl

names-push : (s : State) (steps : List BalanceStep) (x : BalanceStep) (o : ℕ) → names (steps ++ x ∷ []) o ≡ names steps o || touches (step_writes s x) o
names-push s [] (Rank n r) o = refl
names-push s [] (Rotate g p c) o = refl
names-push s (Rank n r ∷ steps) x o =
    ap (λ (b : Bool). eqb n o || b) (names-push s steps x o) ∙ or_assoc (eqb n o) (names steps o) (touches (step_writes s x) o)
names-push s (Rotate g p c ∷ steps) x o =
    ap (λ (b : Bool). eqb g o || (eqb p o || (eqb c o || b))) (names-push s steps x o) ∙ four (eqb g o) (eqb p o) (eqb c o)
  where
    four : (a b d : Bool) → a || (b || (d || (names steps o || touches (step_writes s x) o)))
        ≡ (a || (b || (d || names steps o))) || touches (step_writes s x) o
    four true b d = refl
    four false true d = refl
    four false false true = refl
    four false false false = refl

-- a draft with a further step
draft_step : (s : State) (root : ℕ) (own ws : Writes) (x : BalanceStep) → IsStep (written s ws) root x → IsDraft s root own ws
    → IsDraft s root own (merged ws (step_writes (written s ws) x))
draft_step s root own ws x is d = record {
  steps = d.steps ++ x ∷ [];
  fits = are_steps-push (written s own) root d.steps x d.fits (subst (λ (u : State). IsStep u root x) d.leaves is);
  leaves = written-merged s ws (step_writes (written s ws) x) d.distinct ∙ ap (λ (u : State). stepped u x) d.leaves
      ∙ sym (after_steps-push (written s own) d.steps x);
  distinct = merged-distinct ws (step_writes (written s ws) x) d.distinct;
  named = λ o. touches-merged ws (step_writes (written s ws) x) o ∙ ap (λ (b : Bool). b || touches (step_writes (written s ws) x) o) (d.named o)
      ∙ sym (or_assoc (touches own o) (names d.steps o) (touches (step_writes (written s ws) x) o))
      ∙ ap (λ (b : Bool). touches own o || b) (sym (names-push (written s ws) d.steps x o));
}

pub extends_none : (s : State) (root limit : ℕ) (ws : Writes) → are_distinct ws ≡ true → Extends s root limit ws ws
extends_none s root limit ws d = record { drafts = λ own x. x; distinct = d; few = λ le. le }

pub extends_both : (s t : State) (root limit : ℕ) (ws vs us : Writes) → t ≡ s → Extends s root limit ws vs → Extends t root limit vs us
    → Extends s root limit ws us
extends_both s t root limit ws vs us e p q0 =
    let q : Extends s root limit vs us = subst (λ (u : State). Extends u root limit vs us) e q0 in
    record { drafts = λ own x. q.drafts own (p.drafts own x); distinct = q.distinct; few = λ le. q.few (p.few le) }

extends_step : (s : State) (root limit : ℕ) (ws : Writes) (x : BalanceStep) (vs : Writes) → are_distinct ws ≡ true → IsStep (written s ws) root x
    → length ws + count_unheld ws (objects_of (step_writes (written s ws) x)) ≤ limit → vs ≡ merged ws (step_writes (written s ws) x)
    → Extends s root limit ws vs
extends_step s root limit ws x vs d is room e = subst (λ (u : Writes). Extends s root limit ws u) (sym e) (record {
  drafts = λ own draft. draft_step s root own ws x is draft;
  distinct = merged-distinct ws (step_writes (written s ws) x) d;
  few = λ le. (let more = length-merged_within ws (step_writes (written s ws) x) in omega arith);
})

pub extends_rank : (s : State) (root limit n r : ℕ) (words made : List ℕ) (ws vs : Writes) → are_distinct ws ≡ true → words ≡ words_at (written s ws) n
    → IsStep (written s ws) root (Rank n r) → made ≡ revalue words r → length ws + count_unheld ws (n ∷ []) ≤ limit → vs ≡ merged ws ((n, made) ∷ [])
    → Extends s root limit ws vs
extends_rank s root limit n r words made ws vs d here is m room e =
    extends_step s root limit ws (Rank n r) vs d is room
    (e ∙ ap (λ (w : List ℕ). merged ws ((n, w) ∷ [])) (m ∙ ap (λ (w : List ℕ). revalue w r) here))

pub extends_rotate : (s : State) (root limit g p c : ℕ) (gw pw cw : List ℕ) (ws vs : Writes) → are_distinct ws ≡ true → gw ≡ words_at (written s ws) g
    → pw ≡ words_at (written s ws) p → cw ≡ words_at (written s ws) c → IsStep (written s ws) root (Rotate g p c)
    → length ws + count_unheld ws (g ∷ p ∷ c ∷ []) ≤ limit
    → vs ≡ merged ws ((g, redirect gw p c) ∷ (p, lowered pw c cw) ∷ (c, raised pw p c cw) ∷ []) → Extends s root limit ws vs
extends_rotate s root limit g p c gw pw cw ws vs d eg ep ec is room e =
    extends_step s root limit ws (Rotate g p c) vs d is room (e ∙ cc)

-- The first writes.
count_none : (ws : Writes) → count_unheld [] (objects_of ws) ≡ length ws
count_none [] = refl
count_none (w ∷ ws) = let r = count_none ws in omega arith

pub room_none : (xs : Writes) (n : ℕ) → n ≡ 0 → (ws : Writes) → length ws ≤ 4 → length (take n xs) + count_unheld (take n xs) (objects_of ws) ≤ 16
room_none xs n z ws le =
    subst (λ (m : ℕ). length (take m xs) + count_unheld (take m xs) (objects_of ws) ≤ 16) (sym z) (let c = count_none ws in omega arith)

pub merged_first : (xs : Writes) (n : ℕ) → n ≡ 0 → (ws : Writes) → are_distinct ws ≡ true → merged (take n xs) ws ≡ ws
merged_first xs n z ws d = ap (λ (m : ℕ). merged (take m xs) ws) z ∙ merged-none ws d

-- a plan has as many writes as it counts
pub count_is : (plan : WritePlan) → length (writes_in plan) ≡ plan.count
count_is plan = let few : plan.count ≤ 16 = plan.few in omega (arith, length-take plan.count plan.writes, few, plan.whole)

-- what was written to a plan that had nothing is all of it
pub first_is : (xs : Writes) (n : ℕ) → n ≡ 0 → (ws vs : Writes) → are_distinct ws ≡ true → vs ≡ merged (take n xs) ws → vs ≡ ws
first_is xs n z ws vs d e = e ∙ merged_first xs n z ws d

pub first_distinct : (xs : Writes) (n : ℕ) → n ≡ 0 → (ws vs : Writes) → are_distinct ws ≡ true → vs ≡ merged (take n xs) ws → are_distinct vs ≡ true
first_distinct xs n z ws vs d e = ap are_distinct (first_is xs n z ws vs d e) ∙ d
