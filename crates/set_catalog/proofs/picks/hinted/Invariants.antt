use Rattle.std.proofs.Common.{length}
use Rattle.set_catalog.proofs.Hinting.{HintLoop}
use Rattle.set_catalog.proofs.picks.hinted.Given as goal

abbrev pub invariant-loop-object : goal.invariant-loop-object
invariant-loop-object g l = record {
  before : g.V.View.as_before l.fn.view l.view;
  hints : HintLoop (g.V.View.state l.fn.view) l.fn.hints l.hints l.but;
}

abbrev pub decreases-loop-object : goal.decreases-loop-object
decreases-loop-object g l = length l.hints.objects
