use Rattle.std.proofs.Common.{◌≡◌, ◌+◌, ◌≤◌, ◌++◌, length, map, All, vec_len, vec_capacity}
use Rattle.shared_domain.specs.Met.{domain_of}
use Rattle.set_seats.specs.Opening.{MayShare, Shares, seat_in}
use Rattle.set_seats.proofs.opening.share_all.Given as goal

-- those that have a share, and those that have none yet, are the seats in their order
abbrev pub invariant-loop-alloc : goal.invariant-loop-alloc
invariant-loop-alloc l = record {
  may : All (MayShare (domain_of l.first)) l.seats.items;
  own : map seat_in l.shared.items ++ l.seats.items ≡ l.initial.seats.items;
  shared : All (Shares (domain_of l.first)) l.shared.items;
  room : length l.shared.items + length l.seats.items ≤ vec_capacity l.shared;
}

abbrev pub decreases-loop-alloc : goal.decreases-loop-alloc
decreases-loop-alloc l = vec_len l.seats
