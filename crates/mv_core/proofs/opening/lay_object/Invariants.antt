use Rattle.mv_core.specs.Start.{Laid}
use Rattle.mv_core.proofs.opening.lay_object.Given as goal

abbrev pub invariant-loop-word : goal.invariant-loop-word
invariant-loop-word l = Laid l.config l.start l.words l.object l.word
