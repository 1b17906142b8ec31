use Rattle.rand_pcg.specs.Pcg.{pcg32}
use Rattle.script_gen.proofs.Drawing.{draws_one}
use Rattle.script_gen.proofs.draw.draw.Goals as goal

pub returns : goal.returns
returns c = λ left.
    draws_one pcg32 c.args.seat left _ _ _ _ _ _ _ _ _ _ c.next_word.ensures c.next_word-2.ensures c.next_word-3.ensures c.next_word-4.ensures c.command.ensures
