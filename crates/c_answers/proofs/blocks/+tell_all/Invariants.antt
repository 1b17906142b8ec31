use Rattle.std.specs.Prelude.{length}
use Rattle.c_answers.proofs.blocks.+tell_all.Given as goal

abbrev pub decreases-tell_all : goal.decreases-tell_all
decreases-tell_all l = length l.replies.now
