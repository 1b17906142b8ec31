use Rattle.std.proofs.Common.{◌≡◌, length}
use Rattle.replay_text.specs.replay_rules.SeatNotes.{edited_from}
use Rattle.replay_text.proofs.replay_rules_lemmas.SeatNotes.{edited_behind}
use Rattle.step_replay.proofs.notes.edit_all.Given as goal

-- the versions before this one are changed, and those from it on are still to be
abbrev pub invariant-loop-at : goal.invariant-loop-at
invariant-loop-at l = record {
  long : length l.log.items ≡ length l.fn.log.items;
  rest : edited_behind l.edit l.at 0 l.log.items ≡ edited_from l.edit 0 l.fn.log.items;
}
