use Rattle.step_replay.proofs.TurnLaws.{seats_next}
use Rattle.step_replay.proofs.schedule.new_seats.Goals as goal

pub loop-seat-preserved : goal.loop-seat-preserved
loop-seat-preserved c =
    seats_next c.args.calls.now c.loop-seat.seats.items c.loop-seat.seat c.args.count c.new_seat.result c.push.new.self.items c.new_seat.ensures
    c.loop-seat-test.true c.in_ok-push.ensures.items c.loop-seat.invariant
