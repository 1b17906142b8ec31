use Rattle.std.proofs.Common.{◌≡◌}
use Rattle.replay_text.specs.replay_rules.SeatNotes.{first_from}
use Rattle.step_replay.proofs.notes.first_from.Given as goal

-- no version before this one is what is looked for
abbrev pub invariant-loop-at : goal.invariant-loop-at
invariant-loop-at l = first_from l.log l.from l.test ≡ first_from l.log l.at l.test
