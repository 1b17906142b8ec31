use Rattle.std.proofs.Common.{◌≢◌, ◌+◌, ◌≤◌, length, All, AllPairs, vec_len, vec_capacity}
use Rattle.mvrlu.specs.Meant.{seat_of, IsSeatOf}
use Rattle.shared_domain.specs.Tags.{IsTagOf}
use Rattle.shared_domain.proofs.gathering.gathered.Given as goal

-- the seats of the row are those of higher places, no two of one number
abbrev pub invariant-loop-place : goal.invariant-loop-place
invariant-loop-place g l = record {
  tags : All (λ tag. IsTagOf l.domain tag) l.places.items;
  own : All (λ seat. IsSeatOf l.domain seat) l.row.items;
  above : All (λ seat. length l.places.items ≤ (seat_of seat).number) l.row.items;
  apart : AllPairs (λ s t. (seat_of s).number ≢ (seat_of t).number) l.row.items;
  room : length l.row.items + length l.places.items ≤ vec_capacity l.row;
}

abbrev pub decreases-loop-place : goal.decreases-loop-place
decreases-loop-place g l = vec_len l.places
