use Rattle.mv_history.specs.Calls.{Continues}
use Rattle.mv_history.specs.Meaning.{Seat}
use Rattle.section_work.specs.Sections.{TriesOne}
use Rattle.grow_seats.proofs.Staying.{between, still_of, still_room}
use Rattle.grow_seats.specs.Calls.{Splits}
use Rattle.grow_seats.proofs.outside.split_in.Goals as goal

pub returns : goal.returns
returns c =
    let lent = c.handle.ensures.meant in
    let back = c.into_seat.ensures.meant in
    let done = c.try_split-handle in
    let on = between Continues _ _ _ _ lent back done.ensures.continues in
    record {
      of = still_of c.args.domain.now c.args.seat c.into_seat.result on c.requires.of;
      room = still_room c.args.domain.now c.args.seat c.into_seat.result on 64 c.requires.room;
      tried = between (λ (s t : Seat). Splits s t done.result.1) _ _ _ _ lent back done.ensures.tried;
      continues = on;
      at_most_one = between TriesOne _ _ _ _ lent back done.ensures.at_most_one;
    }
