-- What rules are made of, as a `Protocol` asks.
use Rattle.std.specs.Prelude.{◌≡◌}
use Rattle.std.specs.Coded.{Coded-set, coded×, coded_ℕ, coded_list}
use Rattle.mv_history.specs.State.{Writes}

-- Two lists of writes are equal in one way. Where rules are made of products, functions and equations, `hlevel (props, Writes-set)` shows that
-- they are propositions.
pub Writes-set : (x y : Writes) → IsProp (x ≡ y)
Writes-set = Coded-set (coded_list (coded× coded_ℕ (coded_list coded_ℕ)))
