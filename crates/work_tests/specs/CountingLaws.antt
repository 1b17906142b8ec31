-- That the rules are propositions, as a `Protocol` asks.
use Rattle.std.specs.Prelude.{◌≡◌, ℕ, List}
use Rattle.std.specs.Coded.{Coded-set, coded×, coded_ℕ, coded_list}
use Rattle.std.proofs.Props.{props}
use Rattle.mv_history.specs.State.{State, Writes}
use Rattle.work_tests.specs.Counting.{IsCounter, CountsOne}

pub IsCounter-prop : (s : State) → IsProp (IsCounter s)
IsCounter-prop s = hlevel props

-- two lists of writes are equal in one way
Writes-set : (x y : Writes) → IsProp (x ≡ y)
Writes-set = Coded-set (coded_list (coded× coded_ℕ (coded_list coded_ℕ)))

pub CountsOne-prop : (tag : List ℕ) (before : State) (writes : Writes) → IsProp (CountsOne tag before writes)
CountsOne-prop tag before writes = hlevel (props, Writes-set)
