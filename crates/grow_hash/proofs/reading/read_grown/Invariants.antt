use Rattle.grow_hash.proofs.CatalogueReads.{HasFrom}
use Rattle.grow_hash.proofs.reading.read_grown.Given as goal
use Rattle.grow_hash.proofs.Terms.{first_grown, ◌≤◌}

-- the nodes from this one on were read
abbrev pub invariant-loop-object : goal.invariant-loop-object
invariant-loop-object g l = record {
  before : g.V.View.as_before l.fn.view l.view;
  from : first_grown g.row.LEVELS ≤ l.object;
  read : HasFrom (g.V.View.state l.fn.view) l.object l.all;
}
