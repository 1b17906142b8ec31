use Rattle.grow_seats.proofs.Outcomes.{replied}
use Rattle.grow_seats.proofs.seat.GrowSeat.attempt.Goals as goal

pub returns-clause-replied : goal.returns-clause-replied
returns-clause-replied c = replied _ _ c.args.command _ c.attempt_in-seat.ensures.attempted
