use Rattle.std.proofs.Common.{arith, sym, subst}
use Rattle.atomic_table.specs.Table.{Joins}
use Rattle.mv_core.proofs.Terms.{Config, spent_view}
use Rattle.mv_core.specs.SeatSteps.{joined}
use Rattle.mv_core.specs.Rule.{Ruled}
use Rattle.mv_core.proofs.frames.Turning.{unspent_of}
use Rattle.mv_core.proofs.kinds.joining.Join.{seats_join}
use Rattle.mv_core.proofs.shared.accesses.join_as.Goals as goal

pub join_seat-requires : goal.join_seat-requires
join_seat-requires g c =
    let o = c.requires.of in
    let p = c.requires.other in
    let z = c.args.shared.now.sized.0 in
    let v = c.args.seat.now.me.0 in
    let w = c.args.other.me.0 in (
      o.0,
      p.0,
      c.requires.taken,
      omega arith,
      subst (λ (n : Config). Joins (Ruled g.P.Protocol.start g.P.Protocol.allowed c.args.shared.now.table.shared.key) c.args.seat.now.id v c.args.other.id w
          (joined n v w) spent_view) (sym c.requires.config) (seats_join _ _ _ _ _ _ _ (unspent_of _ _ _ o.3) (unspent_of _ _ _ p.3) c.requires.may),
    )
