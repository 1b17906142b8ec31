use Rattle.std.proofs.Common.{◌≡◌, ◌+◌, ◌<◌, ◌≤◌, length}
use Rattle.mv_history.specs.Calls.{Continues}
use Rattle.directory.proofs.repeating.make_moves.Given as goal

abbrev pub invariant-loop : goal.invariant-loop
invariant-loop g l = record {
  continues : Continues (g.S.Store.seat_of l.fn.store) (g.S.Store.seat_of l.store);
  mine : length (g.S.Store.seat_of l.store).mine ≡ length (g.S.Store.seat_of l.fn.store).mine + l.made;
  most : l.made ≤ l.moves;
  shelf : l.shelf < 2;
}
