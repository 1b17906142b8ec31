-- That the rules are propositions, as a `Protocol` asks.
use Rattle.std.specs.Prelude.{ℕ, List}
use Rattle.std.proofs.Props.{props}
use Rattle.mv_history.specs.State.{State, Writes}
use Rattle.mv_client.specs.Rewriting.{Rewrites-prop}
use Rattle.counter.specs.Counting.{IsCounter, CountsOne, counted}

pub IsCounter-prop : (s : State) → IsProp (IsCounter s)
IsCounter-prop s = hlevel props

pub CountsOne-prop : (tag : List ℕ) (before : State) (writes : Writes) → IsProp (CountsOne tag before writes)
CountsOne-prop = Rewrites-prop 0 counted
