-- A `&` to it holds nothing.
use denote.RattleType.{RattleType}
use denote.Param.Send.{IsSync}
use Rattle.shared_domain.specs.contracts.exclusive.Exclusive.{the_row}

pub sync : (T : RattleType) → IsSync (the_row T)
sync T = record { shared = λ x b o κ. tt }
