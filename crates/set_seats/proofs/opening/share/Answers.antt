use Rattle.std.proofs.Common.{sym, subst}
use Rattle.mvrlu.specs.Meant.{IsSeatOf}
use Rattle.set_seats.proofs.NewSeats.{known_none}
use Rattle.set_seats.proofs.opening.share.Goals as goal

pub invariant_of-result : goal.invariant_of-result
invariant_of-result c = record {
  of = subst (λ d. IsSeatOf d c.args.seat) (sym c.in-Ok.ensures.share) c.requires.may.of;
  room = c.requires.may.room;
  known = known_none _ _ c.args.seat.lawful c.in-Ok.ensures.time c.in-Ok.ensures.few;
}
