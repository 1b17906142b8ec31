use Rattle.std.proofs.Common.{ap, sym, subst, arith, All}
use Rattle.shared_domain.specs.Met.{domain_of}
use Rattle.mv_layout.specs.declared.Config.{Config}
use Rattle.grow_seats.specs.Opening.{MayShare}
use Rattle.grow_seats.proofs.NewSeats.{new_may, are_opened}
use Rattle.grow_seats.proofs.opening.open_checked.Goals as goal

pub share_all-requires : goal.share_all-requires
share_all-requires c =
    let seats = c.in_ok-whole.seats.items in
    let opened = c.in_ok-whole.ensures in
    record {
      may = subst (λ d. All (MayShare d) seats) (sym c.in-Ok.ensures.domain)
          (new_may _ _ c.in_ok-whole.whole seats opened (omega (arith, ap (λ (n : Config). n.write_max) c.requires.numbers)));
    }

pub returns-in-Ok : goal.returns-in-Ok
returns-in-Ok c =
    are_opened (λ seats. seats.items) c.args.grown c.args.config c.in_ok-whole.whole (domain_of c.in-Ok.first) c.in_ok-whole.seats.items
    c.share_all.result c.requires.objects c.requires.numbers c.in_ok-whole.ensures c.in-Ok.ensures.domain c.share_all.ensures.seats
    c.share_all.ensures.shared
