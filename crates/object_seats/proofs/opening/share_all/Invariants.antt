use Rattle.std.proofs.Common.{◌≡◌, ◌+◌, ◌≤◌, ◌++◌, length, map, All, vec_len, vec_capacity}
use Rattle.mvrlu.specs.Meant.{IsSeatOf}
use Rattle.shared_domain.specs.Met.{domain_of}
use Rattle.object_seats.specs.declared.position.Position.TheVariants.{Outside}
use Rattle.object_seats.specs.Opening.{Shares, position_of}
use Rattle.object_seats.proofs.opening.share_all.Given as goal

-- those that have a share, and those that have none yet, are the seats in their order
abbrev pub invariant-loop-seats : goal.invariant-loop-seats
invariant-loop-seats l = record {
  of : All (λ seat. IsSeatOf (domain_of l.first) seat) l.seats.items;
  outside : map position_of l.shared.items ++ map Outside l.seats.items ≡ map Outside l.initial.seats.items;
  shared : All (Shares (domain_of l.first)) l.shared.items;
  room : length l.shared.items + length l.seats.items ≤ vec_capacity l.shared;
}

abbrev pub decreases-loop-seats : goal.decreases-loop-seats
decreases-loop-seats l = vec_len l.seats
