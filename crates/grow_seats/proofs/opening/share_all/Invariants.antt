use Rattle.std.proofs.Common.{◌≡◌, ◌+◌, ◌≤◌, ◌++◌, length, map, All, vec_len, vec_capacity}
use Rattle.shared_domain.specs.Met.{domain_of}
use Rattle.grow_seats.specs.Opening.{MayShare, Shares}
use Rattle.grow_seats.specs.declared.seat.GrowSeat.{GrowSeat}
use Rattle.grow_seats.proofs.opening.share_all.Given as goal

-- those that have a share, and those that have none yet, are the seats in their order
abbrev pub invariant-loop-seats : goal.invariant-loop-seats
invariant-loop-seats l = record {
  may : All (MayShare (domain_of l.first)) l.seats.items;
  own : map (λ (s : GrowSeat). s.seat) l.shared.items ++ l.seats.items ≡ l.initial.seats.items;
  shared : All (Shares (domain_of l.first)) l.shared.items;
  room : length l.shared.items + length l.seats.items ≤ vec_capacity l.shared;
}

abbrev pub decreases-loop-seats : goal.decreases-loop-seats
decreases-loop-seats l = vec_len l.seats
