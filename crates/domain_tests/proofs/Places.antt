-- What stands at a place of a row.
use Rattle.std.proofs.Common.{◌≡◌, ℕ, zero, suc, ◌<◌, List, [], ◌∷◌, length, get_or, sym, ap, arith}
use mathlib.Core.Option.{some}
use lib.ListN.{get_elem?}

pub there : {X : Type 0} (xs : List X) (i : ℕ) (d x : X) → x ≡ get_or xs i d → i < length xs → get_elem? xs i ≡ some x
there [] i d x e lt = absurd (omega arith)
there (y ∷ xs) zero d x e lt = ap some (sym e)
there (y ∷ xs) (suc i) d x e lt = there xs i d x e (omega arith)
