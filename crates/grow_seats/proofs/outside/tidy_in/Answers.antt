use Rattle.mv_history.specs.Calls.{Continues}
use Rattle.mvrlu.specs.Holding as holding
use Rattle.mvrlu.specs.Placed.{Placed}
use Rattle.grow_seats.proofs.Staying.{between, still_of, still_room}
use Rattle.grow_seats.proofs.outside.tidy_in.Goals as goal

pub returns : goal.returns
returns c =
    let tidies = c.tidy-tidy.ensures.tidies in
    let on = between Continues _ _ _ _ c.handle-handle.ensures.meant c.into_seat.ensures.meant tidies.prepares.continues in
    record {
      of = still_of c.args.domain.now c.args.seat c.into_seat.result on c.requires.of;
      room = still_room c.args.domain.now c.args.seat c.into_seat.result on 64 c.requires.room;
      tidies = between (λ (p q : Placed). holding.Tidies p q c.tidy-tidy.result) _ _ _ _ c.handle-handle.ensures.placed c.into_seat.ensures.placed tidies;
      continues = on;
    }
