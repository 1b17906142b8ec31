use Rattle.accounts.proofs.Terms.{length, Continues, ◌≡◌, ◌+◌, ◌≤◌}
use Rattle.accounts.proofs.repeating.make_transfers.Given as goal

abbrev pub invariant-loop : goal.invariant-loop
invariant-loop g l = record {
  continues : Continues (g.S.Store.seat_of l.fn.store) (g.S.Store.seat_of l.store);
  mine : length (g.S.Store.seat_of l.store).mine ≡ length (g.S.Store.seat_of l.fn.store).mine + l.made;
  most : l.made ≤ l.transfers;
}
