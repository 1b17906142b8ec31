use Rattle.set_catalog.proofs.picks.vacant_far.Given as goal

abbrev pub invariant-loop-strides : goal.invariant-loop-strides
invariant-loop-strides g l = g.V.View.as_before l.fn.view l.view
