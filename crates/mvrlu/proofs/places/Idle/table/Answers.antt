use Rattle.std.proofs.Common.{subst}
use Rattle.mvrlu.specs.Placed.{Placed, placed, seat_from}
use Rattle.mvrlu.specs.Holding.{IsSeatTable}
use Rattle.mvrlu.proofs.rooms.Tabled.{tabled}
use Rattle.mvrlu.proofs.Behind.{lent_idle, lent_view}
use Rattle.mvrlu.proofs.places.Idle.table.Goals as goal

pub returns-clause-table : goal.returns-clause-table
returns-clause-table g c =
    let i = c.deref.result.now in
    let idle = lent_idle i c.self.inside.place.value c.deref.ensures g.P.Protocol.start g.P.Protocol.allowed c.self.invariant in
    let view_is = lent_view i c.self.inside.place.value c.deref.ensures _ c.self.view_is in
    let p = placed i.pass i.log in
    subst (λ (x : Placed). IsSeatTable (seat_from x) c.table.result) view_is
    (tabled g.P.Protocol.start g.P.Protocol.allowed p idle c.table.result c.table.ensures.table
    (c.table.ensures.counts p.config p.view idle.placed.stands))
