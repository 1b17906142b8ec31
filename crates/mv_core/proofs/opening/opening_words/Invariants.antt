use Rattle.mv_core.specs.Start.{Laid}
use Rattle.mv_core.proofs.opening.opening_words.Given as goal

abbrev pub invariant-loop-object : goal.invariant-loop-object
invariant-loop-object l = Laid l.config l.start l.words.items l.object 0
