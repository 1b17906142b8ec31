use Rattle.std.specs.Vec.{vec_len}
use Rattle.shared_domain.proofs.gathering.let_all_go.Given as goal

abbrev pub decreases-loop-seat : goal.decreases-loop-seat
decreases-loop-seat g l = vec_len l.seats
