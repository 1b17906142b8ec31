use Rattle.std.proofs.Common.{◌≡◌, drop}
use Rattle.step_replay.specs.Machines.{config_of}
use Rattle.replay_text.specs.replay_rules.Runs.{looked}
use Rattle.step_replay.specs.Shown.{scene_of}
use Rattle.step_replay.proofs.turns.ReplaySeat.look.Given as goal

-- what the calls from here on come to is what all of them do
abbrev pub invariant-loop-place : goal.invariant-loop-place
invariant-loop-place l = record {
  same : config_of l.tape.machine ≡ l.config;
  room : l.tape.made ≡ l.fn.tape.made;
  next : l.self.next ≡ l.place;
  rest : looked l.config (drop l.fn.self.next l.calls) (scene_of l.calls l.fn.self l.fn.tape)
      ≡ looked l.config (drop l.place l.calls) (scene_of l.calls l.self l.tape);
}
