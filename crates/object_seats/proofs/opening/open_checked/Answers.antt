use Rattle.std.proofs.Common.{sym, subst, All}
use Rattle.mvrlu.specs.Meant.{IsSeatOf}
use Rattle.shared_domain.specs.Met.{domain_of}
use Rattle.object_seats.proofs.NewSeats.{new_are_of, are_opened}
use Rattle.object_seats.proofs.opening.open_checked.Goals as goal

pub share_all-requires : goal.share_all-requires
share_all-requires c =
    let seats = c.in_ok-whole.seats.items in
    record {
      of = subst (λ d. All (λ s. IsSeatOf d s) seats) (sym c.in-Ok.ensures.domain)
          (new_are_of c.in_ok-whole.whole (λ k. k) seats c.in_ok-whole.ensures.each);
    }

pub returns-in-Ok : goal.returns-in-Ok
returns-in-Ok c =
    are_opened (λ seats. seats.items) c.args.config c.in_ok-whole.whole (domain_of c.in-Ok.first) c.in_ok-whole.seats.items c.share_all.result
    c.in_ok-whole.ensures c.in-Ok.ensures.domain c.share_all.ensures.outside c.share_all.ensures.shared
