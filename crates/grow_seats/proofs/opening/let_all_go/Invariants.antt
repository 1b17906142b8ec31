use Rattle.std.specs.Vec.{vec_len}
use Rattle.grow_seats.proofs.opening.let_all_go.Given as goal

abbrev pub decreases-loop-seat : goal.decreases-loop-seat
decreases-loop-seat l = vec_len l.seats
