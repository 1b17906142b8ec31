use Rattle.domain_loan.proofs.Terms.{◌≡◌, ◌≤◌, ◌+◌, ◌++◌, length, map, vec_len, vec_capacity, seat_of, handled}
use Rattle.domain_loan.proofs.lending.give_back.Given as goal

abbrev pub invariant-loop-seats : goal.invariant-loop-seats
invariant-loop-seats g l = record {
  seats : map seat_of l.seats.items ++ map handled l.handles.items ≡ map handled l.initial.handles.items;
  room : length l.seats.items + length l.handles.items ≤ vec_capacity l.seats;
}

abbrev pub decreases-loop-seats : goal.decreases-loop-seats
decreases-loop-seats g l = vec_len l.handles
