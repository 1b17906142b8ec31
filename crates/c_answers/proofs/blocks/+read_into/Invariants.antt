use Rattle.std.specs.Prelude.{length}
use Rattle.c_answers.proofs.blocks.+read_into.Given as goal

abbrev pub decreases-read_into : goal.decreases-read_into
decreases-read_into l = length l.given.now
