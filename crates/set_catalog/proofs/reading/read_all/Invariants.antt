use Rattle.set_catalog.specs.Readings.{HasHeads}
use Rattle.set_catalog.proofs.reading.read_all.Given as goal

-- the heads before this one were read
abbrev pub invariant-loop-head : goal.invariant-loop-head
invariant-loop-head g l = record {
  before : g.V.View.as_before l.fn.view l.view;
  read : HasHeads (g.V.View.state l.fn.view) l.head l.all;
}
