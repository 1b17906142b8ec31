-- Steps keep what a tree stands for.
use Rattle.std.proofs.Common.{◌≡◌, ◌≢◌, ℕ, zero, suc, ◌<◌, ◌≤◌, ◌⊎◌, inl, inr, true, List, [], ◌∷◌, length, refl, sym, ap, ◌∙◌, subst, arith}
use Rattle.std.proofs.lemmas.Bool.{cases_eq}
use Rattle.mv_history.specs.State.{State}
use Rattle.mv_history.specs.Legal.{are_distinct}
use Rattle.mv_history.specs.Meaning.{words_at}
use Rattle.mv_history.proofs.Writing.{length-written, words-written_other, words-written_same}
use Rattle.section_work.proofs.Objects.{IsIn, in_left, in_right, touches-out}
use Rattle.set_model.specs.Objects.{owner, kind, rank, inner_words, revalue}
use Rattle.set_model.specs.Trees.{Tree, top, objects_in, Stands, HoldsTree}
use Rattle.set_model.specs.Trees.Tree.{leaf, inner}
use Rattle.set_model.proofs.ObjectWords.{word, owned_in_range, inner_kept, owner-revalue, kind-revalue, key-revalue}
use Rattle.set_model.proofs.Ways.{IsAt}
use Rattle.set_model.proofs.TreeShape.{is_in-none}
use Rattle.set_model.proofs.Written.{distinct-objects_of}
use Rattle.tree_set.specs.Places.{IsInner, IsParent}
use Rattle.tree_set.proofs.Replacing.{ranked}
use Rattle.tree_set.proofs.TreeWays.{parent_at_root}
use Rattle.tree_balance.specs.Steps.{step_writes, IsStep, stepped, after_steps, AreSteps}
use Rattle.tree_balance.specs.declared.steps.BalanceStep.{BalanceStep}
use Rattle.tree_balance.specs.declared.steps.BalanceStep.TheVariants.{Rank, Rotate}
use Rattle.tree_balance.proofs.Reshaping.{Rebalances, rebalances_none, rebalances_both}
use Rattle.tree_balance.proofs.Turning.{Rotates, rotation_rebalances}

-- a tree stands whatever ranks its inner nodes have
stands_ranked : (s s' : State) (root r : ℕ) (t : Tree) → Stands s root t
    → ((o : ℕ) → IsIn o (objects_in t) → (words_at s' o ≡ words_at s o) ⊎ ((kind s o ≡ 2) × (words_at s' o ≡ revalue (words_at s o) r)))
    → Stands s' root t
stands_ranked s s' root r (leaf n k v) q f = (q.0, q.1, go (f n (inl refl)))
  where
    go : (words_at s' n ≡ words_at s n) ⊎ ((kind s n ≡ 2) × (words_at s' n ≡ revalue (words_at s n) r)) → words_at s' n ≡ suc root ∷ 1 ∷ k ∷ 0 ∷ 0 ∷ v ∷ []
    go (inl e) = e ∙ q.2
    go (inr e) = absurd (let two = e.0 in let one : kind s n ≡ 1 = ap (word 1) q.2 in omega arith)
stands_ranked s s' root r (inner n d a b) q f = (
  q.0,
  q.1,
  go (f n (inl refl)),
  stands_ranked s s' root r a q.3 (λ o i. f o (inr (in_left (objects_in a) (objects_in b) o i))),
  stands_ranked s s' root r b q.4 (λ o i. f o (inr (in_right (objects_in a) (objects_in b) o i))),
)
  where
    go : (words_at s' n ≡ words_at s n) ⊎ ((kind s n ≡ 2) × (words_at s' n ≡ revalue (words_at s n) r))
        → words_at s' n ≡ inner_words root d (top a) (top b) (rank s' n)
    go (inl e) = inner_kept s s' root d (top a) (top b) n e q.2
    go (inr e) = ranked s' root d (top a) (top b) r n (e.1 ∙ ap (λ (w : List ℕ). revalue w r) q.2)

-- what a new rank writes
module _ (s : State) (root n r : ℕ) (lt : root < 180) (is : IsInner s root n) where
  rank_here : words_at (stepped s (Rank n r)) n ≡ revalue (words_at s n) r
  rank_here = words-written_same s (step_writes s (Rank n r)) 0 n (0, []) refl (omega arith) refl (owned_in_range s n root is.1)

  rank_other : (o : ℕ) → o ≢ n → words_at (stepped s (Rank n r)) o ≡ words_at s o
  rank_other o ne =
      words-written_other s (step_writes s (Rank n r)) o (touches-out (step_writes s (Rank n r)) o (λ i. elim i [ inl e ↦ ne e | inr e ↦ e ]))

  rank_keeps : (o i : ℕ) → i < 3 → word i (words_at (stepped s (Rank n r)) o) ≡ word i (words_at s o)
  rank_keeps o i lo = go (cases_eq o n)
    where
      at : (i : ℕ) → i < 3 → word i (revalue (words_at s n) r) ≡ word i (words_at s n)
      at zero lo = owner-revalue (words_at s n) r
      at (suc zero) lo = kind-revalue (words_at s n) r
      at (suc (suc zero)) lo = key-revalue (words_at s n) r
      at (suc (suc (suc i))) lo = absurd (omega arith)

      go : (o ≡ n) ⊎ (o ≢ n) → word i (words_at (stepped s (Rank n r)) o) ≡ word i (words_at s o)
      go (inl e) =
          ap (λ (x : ℕ). word i (words_at (stepped s (Rank n r)) x)) e ∙ ap (word i) rank_here ∙ at i lo ∙ ap (λ (x : ℕ). word i (words_at s x)) (sym e)
      go (inr ne) = ap (word i) (rank_other o ne)

  rank_rebalances : (t : Tree) → HoldsTree s root t → Rebalances s (stepped s (Rank n r)) root
  rank_rebalances t g = record {
    tree = t;
    next = t;
    grown = g;
    grows = record {
      first = rank_other root (λ e. (let lo : 180 ≤ n = is.0 in omega arith)) ∙ g.first;
      stands = stands_ranked s (stepped s (Rank n r)) root r t g.stands (λ o i. words o (cases_eq o n));
      ordered = g.ordered;
      distinct = g.distinct;
      only = λ o lo e. g.only o lo (sym (rank_keeps o 0 (omega arith)) ∙ e);
    };
    seeks = λ k. refl;
    entries = refl;
    keeps = rank_keeps;
    within = λ o. within o (cases_eq o n);
    len = length-written s (step_writes s (Rank n r));
  }
    where
      words : (o : ℕ) → (o ≡ n) ⊎ (o ≢ n)
          → (words_at (stepped s (Rank n r)) o ≡ words_at s o) ⊎ ((kind s o ≡ 2) × (words_at (stepped s (Rank n r)) o ≡ revalue (words_at s o) r))
      words o (inr ne) = inl (rank_other o ne)
      words o (inl e) = inr (
        ap (kind s) e ∙ is.2,
        ap (words_at (stepped s (Rank n r))) e ∙ rank_here ∙ ap (λ (x : ℕ). revalue (words_at s x) r) (sym e),
      )

      within : (o : ℕ) → (o ≡ n) ⊎ (o ≢ n) → (words_at (stepped s (Rank n r)) o ≡ words_at s o) ⊎ IsAt s root o
      within o (inr ne) = inl (rank_other o ne)
      within o (inl e) = inr (inr (let lo : 180 ≤ n = is.0 in omega arith, ap (owner s) e ∙ is.1))

-- what a rotation writes
step_rotates : (s : State) (root g p c : ℕ) → root < 180 → 180 < length s → IsParent s root g p → IsInner s root p → IsInner s root c → p ≢ g → c ≢ g → p ≢ c
    → Rotates s (stepped s (Rotate g p c)) g p c
step_rotates s root g p c lt some above p_inner c_inner pg cg pc = record {
  grand = words-written_same s (step_writes s (Rotate g p c)) 0 g (0, []) distinct (omega arith) refl (range (parent_at_root s root g p above));
  parent = words-written_same s (step_writes s (Rotate g p c)) 1 p (0, []) distinct (omega arith) refl (owned_in_range s p root p_inner.1);
  child = words-written_same s (step_writes s (Rotate g p c)) 2 c (0, []) distinct (omega arith) refl (owned_in_range s c root c_inner.1);
  others = λ o ng np nc. words-written_other s (step_writes s (Rotate g p c)) o
      (touches-out (step_writes s (Rotate g p c)) o (λ i. elim i [ inl e ↦ ng e | inr (inl e) ↦ np e | inr (inr (inl e)) ↦ nc e | inr (inr (inr e)) ↦ e ]));
  len = length-written s (step_writes s (Rotate g p c));
}
  where
    range : IsAt s root g → g < length s
    range (inl e) = omega arith
    range (inr i) = owned_in_range s g root i.1

    distinct : are_distinct (step_writes s (Rotate g p c)) ≡ true
    distinct = distinct-objects_of (step_writes s (Rotate g p c)) (
      is_in-none g (p ∷ c ∷ []) (λ i. elim i [ inl e ↦ pg (sym e) | inr (inl e) ↦ cg (sym e) | inr (inr e) ↦ e ]),
      (is_in-none p (c ∷ []) (λ i. elim i [ inl e ↦ pc e | inr e ↦ e ]), (refl, tt)),
    )

-- A step keeps what the tree stands for,
pub step_rebalances : (s : State) (root : ℕ) (step : BalanceStep) (t : Tree) → root < 180 → 180 < length s → HoldsTree s root t → IsStep s root step
    → Rebalances s (stepped s step) root
step_rebalances s root (Rank n r) t lt some g is = rank_rebalances s root n r lt is t g
step_rebalances s root (Rotate g p c) t lt some gr (above, p_inner, child, c_inner) =
    rotation_rebalances s (stepped s (Rotate g p c)) root g p c t lt gr above p_inner child c_inner
    (step_rotates s root g p c lt some above p_inner c_inner)

-- and so do several.
pub steps_rebalance : (s : State) (root : ℕ) (steps : List BalanceStep) (t : Tree) → root < 180 → 180 < length s → HoldsTree s root t → AreSteps s root steps
    → Rebalances s (after_steps s steps) root
steps_rebalance s root [] t lt some g are = rebalances_none s root t g
steps_rebalance s root (step ∷ steps) t lt some g are =
    let one = step_rebalances s root step t lt some g are.0 in
    let some_still : 180 < length (stepped s step) = subst (λ (n : ℕ). 180 < n) (sym one.len) some in
    rebalances_both s (stepped s step) (after_steps (stepped s step) steps) root one
    (steps_rebalance (stepped s step) root steps one.next lt some_still one.grows are.1)
