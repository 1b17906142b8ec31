use Rattle.domain_loan.proofs.Terms.{◌≡◌, ◌≤◌, ◌+◌, ◌++◌, length, map, All, vec_len, vec_capacity, seat_of, handled, IsSeatOf}
use Rattle.domain_loan.proofs.lending.lend.Given as goal

abbrev pub invariant-loop-handles : goal.invariant-loop-handles
invariant-loop-handles g l = record {
  own : All (λ seat. IsSeatOf l.domain seat) l.seats.items;
  handles : map handled l.handles.items ++ map seat_of l.seats.items ≡ map seat_of l.initial.seats.items;
  room : length l.handles.items + length l.seats.items ≤ vec_capacity l.handles;
  capacity : vec_capacity l.seats ≡ vec_capacity l.initial.seats;
}

abbrev pub decreases-loop-handles : goal.decreases-loop-handles
decreases-loop-handles g l = vec_len l.seats
