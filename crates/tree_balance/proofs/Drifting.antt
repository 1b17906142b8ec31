-- A draft stays one in a state where the objects that it writes have the same words.
use Rattle.std.proofs.Common.{◌≡◌, ℕ, zero, suc, ◌<◌, inl, inr, Bool, true, false, ◌||◌, eqb, eq-eqb, List, [], ◌∷◌, length, set, refl, sym, ap, ◌∙◌}
use Rattle.std.proofs.Common.{subst, arith, length-set, true≢false}
use Rattle.mv_history.specs.State.{State, Writes, written, touches}
use Rattle.mv_history.specs.Meaning.{words_at}
use Rattle.mv_history.proofs.Writing.{length-written, words-written_other}
use Rattle.section_work.specs.OwnWrites.{objects_of}
use Rattle.section_work.proofs.Objects.{IsIn, in-touches}
use Rattle.set_model.proofs.ObjectWords.{owned_in_range}
use Rattle.tree_set.specs.Places.{IsParent}
use Rattle.tree_set.proofs.TreeWays.{inner_same, child_same, parent_same}
use Rattle.tree_balance.specs.declared.steps.BalanceStep.{BalanceStep}
use Rattle.tree_balance.specs.declared.steps.BalanceStep.TheVariants.{Rank, Rotate}
use Rattle.tree_balance.specs.Steps.{step_writes, IsStep, stepped, after_steps, AreSteps, names}
use Rattle.tree_balance.specs.Drafts.{IsDraft}

-- states whose objects have the same words are the same
same_state : (s t : State) → length s ≡ length t → ((o : ℕ) → words_at s o ≡ words_at t o) → s ≡ t
same_state [] [] e f = refl
same_state [] (y ∷ t) e f = absurd (omega arith)
same_state (x ∷ s) [] e f = absurd (omega arith)
same_state (x ∷ s) (y ∷ t) e f =
    ap (λ (z : List ℕ). z ∷ s) (f 0) ∙ ap (λ (u : State). y ∷ u) (same_state s t (omega arith) (λ o. f (suc o)))

same_set : (s t : State) (i o : ℕ) (w : List ℕ) → length t ≡ length s → words_at t o ≡ words_at s o → words_at (set t i w) o ≡ words_at (set s i w) o
same_set [] [] i o w l e = refl
same_set [] (y ∷ t) i o w l e = absurd (omega arith)
same_set (x ∷ s) [] i o w l e = absurd (omega arith)
same_set (x ∷ s) (y ∷ t) zero zero w l e = refl
same_set (x ∷ s) (y ∷ t) zero (suc o) w l e = e
same_set (x ∷ s) (y ∷ t) (suc i) zero w l e = e
same_set (x ∷ s) (y ∷ t) (suc i) (suc o) w l e = same_set s t i o w (omega arith) e

-- the same writes leave the same words
same_written : (s t : State) (vs : Writes) (o : ℕ) → length t ≡ length s → words_at t o ≡ words_at s o → words_at (written t vs) o ≡ words_at (written s vs) o
same_written s t [] o l e = e
same_written s t (w ∷ vs) o l e =
    same_written (set s w.0 w.1) (set t w.0 w.1) vs o (length-set t w.0 w.1 ∙ l ∙ sym (length-set s w.0 w.1)) (same_set s t w.0 o w.1 l e)

pub or_left : (a b : Bool) → a ≡ true → a || b ≡ true
or_left true b e = refl
or_left false b e = absurd (true≢false (sym e))

or_right : (a b : Bool) → b ≡ true → a || b ≡ true
or_right true b e = refl
or_right false b e = e

or_none : (a b : Bool) → a || b ≡ false → (a ≡ false) × (b ≡ false)
or_none true b e = absurd (true≢false e)
or_none false b e = (refl, e)

length-after_steps : (u : State) (steps : List BalanceStep) → length (after_steps u steps) ≡ length u
length-after_steps u [] = refl
length-after_steps u (x ∷ steps) = length-after_steps (stepped u x) steps ∙ length-written u (step_writes u x)

-- what no step names keeps its words
after_other : (u : State) (steps : List BalanceStep) (o : ℕ) → names steps o ≡ false → words_at (after_steps u steps) o ≡ words_at u o
after_other u [] o e = refl
after_other u (Rank n r ∷ steps) o e =
    let x = or_none (eqb n o) (names steps o) e in
    after_other (stepped u (Rank n r)) steps o x.1
    ∙ words-written_other u (step_writes u (Rank n r)) o (ap (λ (b : Bool). b || false) x.0)
after_other u (Rotate g p c ∷ steps) o e =
    let x = or_none (eqb g o) (eqb p o || (eqb c o || names steps o)) e in
    let y = or_none (eqb p o) (eqb c o || names steps o) x.1 in
    let z = or_none (eqb c o) (names steps o) y.1 in
    after_other (stepped u (Rotate g p c)) steps o z.1
    ∙ words-written_other u (step_writes u (Rotate g p c)) o
    (ap (λ (b : Bool). b || (eqb p o || (eqb c o || false))) x.0 ∙ ap (λ (b : Bool). b || (eqb c o || false)) y.0 ∙ ap (λ (b : Bool). b || false) z.0)

-- the objects that a step names
named_first : (n o : ℕ) (rest : Bool) → o ≡ n → eqb n o || rest ≡ true
named_first n o rest e = or_left (eqb n o) rest (eq-eqb n o (sym e))

-- Two states in which the objects of the steps have the same words.
module _ (root : ℕ) (In : ℕ → Type 0) where
  step_same : (u t : State) (x : BalanceStep) (steps : List BalanceStep) → ((o : ℕ) → names (x ∷ steps) o ≡ true → words_at t o ≡ words_at u o)
      → IsStep u root x → IsStep t root x × (step_writes t x ≡ step_writes u x)
  step_same u t (Rank n r) steps same is =
      let e = same n (named_first n n (names steps n) refl) in (inner_same u t root n e is, writes e)
    where
      writes : words_at t n ≡ words_at u n → step_writes t (Rank n r) ≡ step_writes u (Rank n r)
      writes e = cc
  step_same u t (Rotate g p c) steps same (above, p_inner, child, c_inner) =
      let eg = same g (named_first g g (eqb p g || (eqb c g || names steps g)) refl) in
      let ep = same p (or_right (eqb g p) (eqb p p || (eqb c p || names steps p)) (named_first p p (eqb c p || names steps p) refl)) in
      let ec = same c (or_right (eqb g c) (eqb p c || (eqb c c || names steps c))
      (or_right (eqb p c) (eqb c c || names steps c) (named_first c c (names steps c) refl))) in (
        (parent_same u t root g p eg above, inner_same u t root p ep p_inner, child_same u t p c ep child, inner_same u t root c ec c_inner),
        writes eg ep ec,
      )
    where
      writes : words_at t g ≡ words_at u g → words_at t p ≡ words_at u p → words_at t c ≡ words_at u c
          → step_writes t (Rotate g p c) ≡ step_writes u (Rotate g p c)
      writes eg ep ec = cc

  names_later : (x : BalanceStep) (steps : List BalanceStep) (o : ℕ) → names steps o ≡ true → names (x ∷ steps) o ≡ true
  names_later (Rank n r) steps o e = or_right (eqb n o) (names steps o) e
  names_later (Rotate g p c) steps o e =
      or_right (eqb g o) (eqb p o || (eqb c o || names steps o)) (or_right (eqb p o) (eqb c o || names steps o) (or_right (eqb c o) (names steps o) e))

  -- The steps fit the other state too, and leave the same words of these objects.
  steps_same : (u t : State) (steps : List BalanceStep) → length t ≡ length u → ((o : ℕ) → names steps o ≡ true → In o)
      → ((o : ℕ) → In o → words_at t o ≡ words_at u o) → AreSteps u root steps
      → AreSteps t root steps × ((o : ℕ) → In o → words_at (after_steps t steps) o ≡ words_at (after_steps u steps) o)
  steps_same u t [] l are_in same are = (tt, same)
  steps_same u t (x ∷ steps) l are_in same are =
      let one = step_same u t x steps (λ o i. same o (are_in o i)) are.0 in
      let next : (o : ℕ) → In o → words_at (stepped t x) o ≡ words_at (stepped u x) o =
      λ o i. ap (λ (vs : Writes). words_at (written t vs) o) one.1 ∙ same_written u t (step_writes u x) o l (same o i) in
      let long : length (stepped t x) ≡ length (stepped u x) = length-written t (step_writes t x) ∙ l ∙ sym (length-written u (step_writes u x)) in
      let rest = steps_same (stepped u x) (stepped t x) steps long (λ o i. are_in o (names_later x steps o i)) next are.1 in
      ((one.0, rest.0), rest.1)

-- The draft in the other state.
pub draft_stays : (s t : State) (root : ℕ) (own ws : Writes) → length t ≡ length s → ((o : ℕ) → touches ws o ≡ true → words_at t o ≡ words_at s o)
    → IsDraft s root own ws → IsDraft t root own ws
draft_stays s t root own ws l same d = record {
  steps = d.steps;
  fits = both.0;
  leaves = same_state (written t ws) (after_steps (written t own) d.steps)
      (length-written t ws ∙ sym (length-after_steps (written t own) d.steps ∙ length-written t own)) (λ o. words o (touches ws o) refl);
  distinct = d.distinct;
  named = d.named;
}
  where
    both : AreSteps (written t own) root d.steps
        × ((o : ℕ) → touches ws o ≡ true → words_at (after_steps (written t own) d.steps) o ≡ words_at (after_steps (written s own) d.steps) o)
    both =
        steps_same root (λ o. touches ws o ≡ true) (written s own) (written t own) d.steps
        (length-written t own ∙ l ∙ sym (length-written s own)) (λ o i. d.named o ∙ or_right (touches own o) (names d.steps o) i)
        (λ o i. same_written s t own o l (same o i)) d.fits

    words : (o : ℕ) (b : Bool) → touches ws o ≡ b → words_at (written t ws) o ≡ words_at (after_steps (written t own) d.steps) o
    words o true i =
        same_written s t ws o l (same o i) ∙ ap (λ (u : State). words_at u o) d.leaves ∙ sym (both.1 o i)
    words o false i =
        let out = or_none (touches own o) (names d.steps o) (sym (d.named o) ∙ i) in
        words-written_other t ws o i ∙ sym (after_other (written t own) d.steps o out.1 ∙ words-written_other t own o out.0)

-- The objects that steps name are in range.
parent_in_range : (u : State) (root g p : ℕ) → root < 180 → 180 < length u → IsParent u root g p → g < length u
parent_in_range u root g p lt some (inl (q, e)) = omega arith
parent_in_range u root g p lt some (inr (i, e)) = owned_in_range u g root i.1

or_between : (a b : Bool) → a || b ≡ (a || false) || b
or_between true b = refl
or_between false b = refl

or_after : (a b c d : Bool) → a || (b || (c || d)) ≡ (a || (b || (c || false))) || d
or_after true b c d = refl
or_after false true c d = refl
or_after false false true d = refl
or_after false false false d = refl

names_split : (u : State) (x : BalanceStep) (steps : List BalanceStep) (o : ℕ) → names (x ∷ steps) o ≡ touches (step_writes u x) o || names steps o
names_split u (Rank n r) steps o = or_between (eqb n o) (names steps o)
names_split u (Rotate g p c) steps o = or_after (eqb g o) (eqb p o) (eqb c o) (names steps o)

module _ (root : ℕ) (lt : root < 180) where
  step_in_range : (u : State) (x : BalanceStep) (o : ℕ) → 180 < length u → IsStep u root x → IsIn o (objects_of (step_writes u x)) → o < length u
  step_in_range u (Rank n r) o some is (inl e) = subst (λ (z : ℕ). z < length u) (sym e) (owned_in_range u n root is.1)
  step_in_range u (Rank n r) o some is (inr i) = absurd i
  step_in_range u (Rotate g p c) o some is (inl e) =
      subst (λ (z : ℕ). z < length u) (sym e) (parent_in_range u root g p lt some is.0)
  step_in_range u (Rotate g p c) o some is (inr (inl e)) = subst (λ (z : ℕ). z < length u) (sym e) (owned_in_range u p root is.1.1)
  step_in_range u (Rotate g p c) o some is (inr (inr (inl e))) = subst (λ (z : ℕ). z < length u) (sym e) (owned_in_range u c root is.3.1)
  step_in_range u (Rotate g p c) o some is (inr (inr (inr i))) = absurd i

  pub steps_in_range : (u : State) (steps : List BalanceStep) (o : ℕ) → 180 < length u → AreSteps u root steps → names steps o ≡ true → o < length u
  steps_in_range u [] o some are e = absurd (true≢false (sym e))
  steps_in_range u (x ∷ steps) o some are e =
      go (touches (step_writes u x) o) refl (sym (names_split u x steps o) ∙ e)
      (λ q. steps_in_range (stepped u x) steps o (subst (λ (z : ℕ). 180 < z) (sym long) some) are.1 q)
    where
      long : length (stepped u x) ≡ length u
      long = length-written u (step_writes u x)

      go : (b : Bool) → touches (step_writes u x) o ≡ b → b || names steps o ≡ true → (names steps o ≡ true → o < length (stepped u x)) → o < length u
      go true t q later = step_in_range u x o some are.0 (in-touches (step_writes u x) o t)
      go false t q later = subst (λ (z : ℕ). o < z) long (later q)
