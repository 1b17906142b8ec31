use Rattle.std.proofs.Common.{refl, sym}
use Rattle.mv_history.specs.Calls.{Continues}
use Rattle.mv_history.specs.Meaning.{Seat}
use Rattle.set_catalog.specs.Shortages.{IsKnown}
use Rattle.set_seats.proofs.Staying.{between, still_of, still_room}
use Rattle.set_seats.specs.Calls.{WalksOver}
use Rattle.set_seats.proofs.outside.walk_on.Goals as goal

pub returns : goal.returns
returns c =
    let lent = c.handle-handle.ensures.meant in
    let back = c.into_seat.ensures.meant in
    let walk = c.walk_in-handle in
    let on = between Continues _ _ _ _ lent back walk.ensures.continues in
    record {
      of = still_of c.args.domain.now c.args.seat c.into_seat.result on c.requires.of;
      room = still_room c.args.domain.now c.args.seat c.into_seat.result on 40 c.requires.room;
      walked = between (λ (s t : Seat). WalksOver c.args.name c.args.from c.args.entries.now walk.new.entries s t walk.result.1) _ _ _ _ lent back
          walk.ensures.walked;
      continues = on;
      known = between IsKnown _ _ _ _ (sym back) refl walk.ensures.known;
    }
