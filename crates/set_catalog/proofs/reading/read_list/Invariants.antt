use Rattle.set_model.specs.Catalogue.{Map}
use Rattle.hash_set.specs.list_set.Walks.{walk_left}
use Rattle.set_catalog.proofs.HeadReads.{AtNode, HasPart}
use Rattle.set_catalog.proofs.reading.read_list.Given as goal

-- the nodes before this one were read
abbrev pub invariant-loop-node : goal.invariant-loop-node
invariant-loop-node g l = record {
  before : g.V.View.as_before l.fn.view l.view;
  left : (m : Map) × AtNode (g.V.View.state l.fn.view) l.head l.node m × HasPart (g.V.View.state l.fn.view) l.head m l.all;
}

abbrev pub decreases-loop-node : goal.decreases-loop-node
decreases-loop-node g l = walk_left (g.V.View.state l.fn.view) l.node
