use Rattle.std.proofs.Common.{◌≡◌, ◌≤◌, drop, length}
use Rattle.step_replay.specs.Machines.{config_of}
use Rattle.replay_text.specs.replay_rules.Plans.{plan_of}
use Rattle.replay_text.specs.replay_rules.Runs.{replay_of, turns_taken}
use Rattle.step_replay.specs.Shown.{tape_of, seats_of}
use Rattle.step_replay.proofs.schedule.replay.Given as goal

-- what the turns from here on come to is what all of them do
abbrev pub invariant-loop-seat : goal.invariant-loop-seat
invariant-loop-seat l = record {
  same : config_of l.tape.machine ≡ l.plan.config;
  room : l.tape.made ≤ l.seat-index;
  long : length l.seats.items ≡ l.plan.config.seats;
  rest : replay_of (plan_of l.plan)
      ≡ turns_taken l.plan.config (record { seats = seats_of l.plan.calls.items l.seats.items; tape = tape_of l.tape })
      (drop l.seat-index l.plan.steps.items);
}
