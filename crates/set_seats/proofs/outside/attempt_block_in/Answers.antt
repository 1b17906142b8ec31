use Rattle.mv_history.specs.Calls.{Continues}
use Rattle.mv_history.specs.Meaning.{Seat}
use Rattle.section_work.specs.Sections.{TriesOne}
use Rattle.set_catalog.specs.CommandLaws.{known_later}
use Rattle.set_seats.proofs.Staying.{between, still_of, still_room}
use Rattle.set_seats.specs.Calls.{AttemptedBlock}
use Rattle.set_seats.proofs.outside.attempt_block_in.Goals as goal

pub returns : goal.returns
returns c =
    let lent = c.handle.ensures.meant in
    let back = c.into_seat.ensures.meant in
    let done = c.attempt_block-handle in
    let on = between Continues _ _ _ _ lent back done.ensures.continues in
    record {
      of = still_of c.args.domain.now c.args.seat c.into_seat.result on c.requires.of;
      room = still_room c.args.domain.now c.args.seat c.into_seat.result on 40 c.requires.room;
      known = known_later c.args.remembered.now.memo.known on c.requires.known;
      attempted = between (λ (s t : Seat). AttemptedBlock s t c.args.block.now done.result.1) _ _ _ _ lent back done.ensures.attempted;
      continues = on;
      at_most_one = between TriesOne _ _ _ _ lent back done.ensures.at_most_one;
    }
