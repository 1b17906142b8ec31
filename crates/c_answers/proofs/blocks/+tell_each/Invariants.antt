use Rattle.std.specs.Prelude.{length}
use Rattle.c_answers.proofs.blocks.+tell_each.Given as goal

abbrev pub decreases-tell_each : goal.decreases-tell_each
decreases-tell_each l = length l.replies.now
