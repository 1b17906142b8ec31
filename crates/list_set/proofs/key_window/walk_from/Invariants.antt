use Rattle.list_set.specs.Walks.{walk_left}
use Rattle.list_set.proofs.Walking.{IsWindowLoop}
use Rattle.list_set.proofs.key_window.walk_from.Given as goal

abbrev pub invariant-loop-link : goal.invariant-loop-link
invariant-loop-link g l = record {
  before : g.V.View.as_before l.fn.view l.view;
  window : IsWindowLoop (g.V.View.state l.fn.view) (g.V.View.state l.view) l.head l.key l.previous l.link;
}

abbrev pub decreases-loop-link : goal.decreases-loop-link
decreases-loop-link g l = walk_left (g.V.View.state l.view) l.link
