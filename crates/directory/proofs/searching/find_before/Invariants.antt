use Rattle.std.proofs.Common.{ℕ, ◌≢◌}
use Rattle.directory.specs.declared.rules.TheConstants.{OBJECTS, SHELVES}
use Rattle.directory.specs.Ring.{next_of}
use Rattle.mv_client.specs.Linked.{IsRing}
use Rattle.mv_client.proofs.LinkedWalks.{Walked}
use Rattle.directory.proofs.searching.find_before.Given as goal

abbrev pub invariant-loop-nth : goal.invariant-loop-nth
invariant-loop-nth g l = record {
  as_before : g.V.View.as_before l.fn.view l.view;
  other : l.at ≢ l.user;
  walked : (place : ℕ → ℕ) → IsRing SHELVES OBJECTS (next_of (g.V.View.state l.fn.view)) place
      → Walked SHELVES OBJECTS (next_of (g.V.View.state l.fn.view)) place l.shelf l.at l.user l._nth;
}
