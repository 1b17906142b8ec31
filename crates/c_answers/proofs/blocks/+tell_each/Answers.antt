use Rattle.c_answers.proofs.SaidBlocks.{told_next}
use Rattle.c_answers.proofs.blocks.+tell_each.Goals as goal

pub returns-in-Some : goal.returns-in-Some
returns-in-Some t c = told_next c.args.said.now c.args.place c.args.from _ _ _ c.get.ensures c.done_at.ensures c.tell_each.ensures
