-- That a commit of a transfer makes it.
use Rattle.std.proofs.Common.{subst}
use Rattle.accounts.specs.Terms.{ℕ, List, refl, State, Writes, written}
use Rattle.accounts.specs.Rules.{IsTransfer}
use Rattle.accounts.specs.Transfers.{PlansTransfer, MakesTransfer}

pub makes_transfer : (tag : List ℕ) (s before : State) (planned : List ℕ) (ws : Writes) → PlansTransfer tag s planned ws
    → IsTransfer planned before ws → MakesTransfer tag before (written before ws)
makes_transfer tag s before planned ws p a =
    record { writes = ws; moves = subst (λ (t : List ℕ). IsTransfer t before ws) p.tagged a; after_is = refl }
