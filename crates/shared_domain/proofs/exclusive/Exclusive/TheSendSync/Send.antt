-- It owns what its value owns.
use denote.RattleType.{RattleType}
use denote.Param.Send.{IsSend}
use Rattle.shared_domain.specs.contracts.exclusive.Exclusive.{the_row}

pub send : (T : RattleType) → IsSend T → IsSend (the_row T)
send T s = record { owned = λ x vs. ((λ _. tt), λ vss. (tt, (s.owned x vss.0, tt))); leaving = λ k x w. tt }
