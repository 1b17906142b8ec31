-- Rules of one object.
use Rattle.std.specs.Prelude.{◌≡◌, ℕ, ◌<◌, List, [], ◌∷◌, length}
use Rattle.std.proofs.Props.{props}
use Rattle.mv_history.specs.State.{State, Writes}
use Rattle.mv_history.specs.Meaning.{words_at}
use Rattle.mv_client.specs.Rules.{Writes-set}

-- A commit writes this object alone, and gives it the words that come next to those that it has.
pub record Rewrites (object : ℕ) (next : List ℕ → List ℕ) (tag : List ℕ) (before : State) (writes : Writes) : Type 0 where
  pub there : object < length before
  pub writes_are : writes ≡ (object, next (words_at before object)) ∷ []

pub Rewrites-prop : (object : ℕ) (next : List ℕ → List ℕ) (tag : List ℕ) (before : State) (writes : Writes)
    → IsProp (Rewrites object next tag before writes)
Rewrites-prop object next tag before writes x y =
    let there_prop : IsProp (object < length before) = hlevel props in
    λ i. record { there = there_prop x.there y.there i; writes_are = Writes-set writes _ x.writes_are y.writes_are i }
