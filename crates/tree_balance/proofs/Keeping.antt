-- The laws of steps.
use Rattle.std.proofs.Common.{ℕ, ◌<◌, ◌≤◌, [], ◌∷◌, refl, arith, Option, Some, None}
use Rattle.mv_history.specs.State.{State}
use Rattle.set_model.specs.Trees.{Tree, IsTree}
use Rattle.set_model.specs.Lawful.{IsLawful}
use Rattle.tree_balance.specs.declared.steps.BalanceStep.{BalanceStep}
use Rattle.tree_balance.specs.declared.steps.BalanceStep.TheVariants.{Rank, Rotate}
use Rattle.tree_balance.specs.Steps.{IsStep, after_steps}
use Rattle.tree_balance.specs.Laws.{KeepsTree, StepsKeepTheTree, StepsAfterAnAdd}
use Rattle.tree_balance.proofs.Reshaping.{Rebalances, rebalances_lawful, rebalances_ends}
use Rattle.tree_balance.proofs.Stepping.{steps_rebalance}
use Rattle.tree_balance.proofs.Balancing.{rebalances_catalogue, balanced_half}

-- a tree that is empty has no step
no_step : (s : State) (root : ℕ) (step : BalanceStep) → IsTree s root None → IsStep s root step → ⊥
no_step s root (Rank n r) t is = t.1 n is.0 is.1
no_step s root (Rotate g p c) t (above, p_inner, child, c_inner) = t.1 p p_inner.0 p_inner.1

keeps_tree : (s s' : State) (root : ℕ) → 170 ≤ root → root < 180 → IsLawful s → Rebalances s s' root → KeepsTree s s' root
keeps_tree s s' root lo lt law r = record {
  lawful = rebalances_lawful s s' root lo lt law r;
  catalogue = rebalances_catalogue s s' root lo lt r;
  owners = λ o. r.keeps o 0 (omega arith);
  kinds = λ o. r.keeps o 1 (omega arith);
  keys = λ o. r.keeps o 2 (omega arith);
  ends = λ k l e. rebalances_ends s s' root k l r e;
}

pub steps_keep : StepsKeepTheTree
steps_keep s root [] lo lt law are = record {
  lawful = law;
  catalogue = refl;
  owners = λ o. refl;
  kinds = λ o. refl;
  keys = λ o. refl;
  ends = λ k l e. e;
}
steps_keep s root (step ∷ steps) lo lt law are = go (law.trees root lo lt).0 (law.trees root lo lt).1
  where
    go : (t : Option Tree) → IsTree s root t → KeepsTree s (after_steps s (step ∷ steps)) root
    go None q = absurd (no_step s root step q are.0)
    go (Some t) q = keeps_tree s (after_steps s (step ∷ steps)) root lo lt law (steps_rebalance s root (step ∷ steps) t lt law.some q are)

pub steps_after : StepsAfterAnAdd
steps_after s root k v p l m w ws lo lt fits law place vm vw ne draft =
    let h = balanced_half s root k v p l m w ws law lo lt fits place vm vw ne draft in (h.keeps, h.leaves)
