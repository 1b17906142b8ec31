use Rattle.std.proofs.Common.{◌≡◌}
use Rattle.mvrlu.specs.Meant.{section_of, aborts_before}
use Rattle.mvrlu.specs.Standing.{Stays}
use Rattle.object_seats.specs.Vacant.{NoneVacant}
use Rattle.object_seats.proofs.vacant.first_vacant.Given as goal

-- none of those looked at is vacant, and the section is as it was
abbrev pub invariant-loop-object : goal.invariant-loop-object
invariant-loop-object l =
    NoneVacant (section_of l.fn.session) l.from l.object × Stays (section_of l.fn.session) (section_of l.session)
    × (aborts_before l.session ≡ aborts_before l.fn.session)
