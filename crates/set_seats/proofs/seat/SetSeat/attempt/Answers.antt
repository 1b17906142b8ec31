use Rattle.set_seats.proofs.Outcomes.{replied}
use Rattle.set_seats.proofs.seat.SetSeat.attempt.Goals as goal

pub returns-clause-replied : goal.returns-clause-replied
returns-clause-replied c = replied _ _ c.args.command.now _ c.attempt_in-seat.ensures.attempted
