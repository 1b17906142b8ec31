use Rattle.mv_history.specs.Calls.{Continues}
use Rattle.mvrlu.specs.Holding as holding
use Rattle.mvrlu.specs.Placed.{Placed}
use Rattle.set_catalog.specs.CommandLaws.{known_later}
use Rattle.set_seats.proofs.Staying.{between, still_of, still_room}
use Rattle.set_seats.proofs.outside.tidy_in.Goals as goal

pub returns : goal.returns
returns c =
    let tidies = c.tidy-tidy.ensures.tidies in
    let on = between Continues _ _ _ _ c.handle-handle.ensures.meant c.into_seat.ensures.meant tidies.prepares.continues in
    record {
      of = still_of c.args.domain.now c.args.seat c.into_seat.result on c.requires.of;
      room = still_room c.args.domain.now c.args.seat c.into_seat.result on 40 c.requires.room;
      known = known_later c.args.remembered.now.memo.known on c.requires.known;
      tidies = between (λ (p q : Placed). holding.Tidies p q c.tidy-tidy.result) _ _ _ _ c.handle-handle.ensures.placed c.into_seat.ensures.placed tidies;
      continues = on;
    }
