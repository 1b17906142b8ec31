use Rattle.std.proofs.Common.{◌-◌, ◌≤◌, length, All, vec_len, vec_capacity}
use Rattle.shared_domain.specs.Tags.{IsTagOf}
use Rattle.shared_domain.proofs.gathering.empty_places.Given as goal

-- there are no more than are wanted, all of the domain
abbrev pub invariant-loop-places : goal.invariant-loop-places
invariant-loop-places g l = record {
  tags : All (λ tag. IsTagOf l.domain tag) l.places.items;
  count : length l.places.items ≤ l.count;
  room : l.count ≤ vec_capacity l.places;
}

abbrev pub decreases-loop-places : goal.decreases-loop-places
decreases-loop-places g l = l.count - vec_len l.places
