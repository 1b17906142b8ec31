use Rattle.std.proofs.Common.{◌≡◌, ◌++◌, ◌-◌}
use Rattle.replay_text.specs.replay_rules.Runs.{new_seats}
use Rattle.step_replay.specs.Shown.{seats_of}
use Rattle.step_replay.proofs.schedule.new_seats.Given as goal

-- the seats so far, and those to come, are all of them
abbrev pub invariant-loop-seat : goal.invariant-loop-seat
invariant-loop-seat l = seats_of l.calls l.seats.items ++ new_seats l.calls l.seat (l.count - l.seat) ≡ new_seats l.calls 0 l.count
