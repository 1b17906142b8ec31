use Rattle.std.proofs.Common.{◌+◌, sym, arith}
use Rattle.replay_text.proofs.replay_rules_lemmas.SeatNotes.{none_left}
use Rattle.step_replay.proofs.notes.first_behind.Goals as goal

pub returns-else-at-log : goal.returns-else-at-log
returns-else-at-log c = sym (none_left c.args.log.now (c.args.at + 1) c.args.test (let late = c.if-at-log.false in omega (arith, late)))
