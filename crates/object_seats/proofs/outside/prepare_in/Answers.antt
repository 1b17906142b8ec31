use Rattle.std.proofs.Common.{sym, subst, Ok}
use Rattle.mv_history.specs.Calls.{Prepares}
use Rattle.mvrlu.specs.Holding as holding
use Rattle.mvrlu.specs.Meant.{place_of}
use Rattle.mvrlu.specs.Placed.{Placed, seat_from}
use Rattle.object_seats.specs.Calls.{MakesRoom, HasRoom}
use Rattle.object_seats.specs.declared.position.Position.{Position}
use Rattle.object_seats.specs.declared.position.Position.TheVariants.{Outside}
use Rattle.object_seats.proofs.Rooms.{has_room}
use Rattle.object_seats.proofs.outside.prepare_in.Goals as goal

-- what `prepare` says of the handle's pass and log is said of those of the seat before it was lent and after it came back
pub returns-in-Outside-clause-makes_room : goal.returns-in-Outside-clause-makes_room
returns-in-Outside-clause-makes_room c =
    let room = c.prepare-room.result in
    let e = c.prepare-room.ensures in
    let Made : Placed → Placed → Type 0 = λ p q. Prepares (seat_from p) (seat_from q) × HasRoom p q room × holding.MakesRoom p q in
    let p = place_of c.handle-handle.result in
    let q = place_of c.prepare-room.new.self in
    let made : Made p q = (e.prepares, has_room p q room e.enough (λ holder is. (e.short holder is).1) e.holder, e.room) in
    let of_seats : Made c.in-Outside.seat.idle c.into_seat.result.idle =
    subst (λ (x : Placed). Made x c.into_seat.result.idle) c.handle-handle.ensures.placed
    (subst (λ (x : Placed). Made p x) (sym c.into_seat.ensures.placed) made) in
    subst (λ (x : Position). MakesRoom x (Outside c.into_seat.result) (Ok room)) (sym c.in-Outside.is) of_seats
