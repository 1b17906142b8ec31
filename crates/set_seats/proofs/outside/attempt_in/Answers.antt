use Rattle.std.proofs.Common.{refl, sym}
use Rattle.mv_history.specs.Calls.{Continues}
use Rattle.section_work.specs.Sections.{TriesOne}
use Rattle.set_catalog.specs.Shortages.{IsKnown}
use Rattle.set_seats.proofs.Staying.{between, still_of, still_room}
use Rattle.set_seats.proofs.Outcomes.{done_one, again_one}
use Rattle.set_seats.proofs.outside.attempt_in.Goals as goal

pub returns-in-Done : goal.returns-in-Done
returns-in-Done c =
    let lent = c.handle.ensures.meant in
    let back = c.into_seat-seat.ensures.meant in
    let tried = c.attempt_work-handle.ensures in
    let on = between Continues _ _ _ _ lent back tried.continues in
    record {
      of = still_of c.args.domain.now c.args.seat c.into_seat-seat.result on c.requires.of;
      room = still_room c.args.domain.now c.args.seat c.into_seat-seat.result on 40 c.requires.room;
      attempted = done_one _ _ _ _ c.args.command.now lent back _ _ c.in-Done.place c.get-reply.result c.in-Done.is c.get-reply.ensures
          tried.attempted;
      continues = on;
      at_most_one = between TriesOne _ _ _ _ lent back tried.at_most_one;
      known = between IsKnown _ _ _ _ (sym back) c.note.ensures.known tried.knows;
    }

pub returns-in-Again : goal.returns-in-Again
returns-in-Again c =
    let lent = c.handle.ensures.meant in
    let back = c.into_seat-seat.ensures.meant in
    let tried = c.attempt_work-handle.ensures in
    let on = between Continues _ _ _ _ lent back tried.continues in
    record {
      of = still_of c.args.domain.now c.args.seat c.into_seat-seat.result on c.requires.of;
      room = still_room c.args.domain.now c.args.seat c.into_seat-seat.result on 40 c.requires.room;
      attempted = again_one _ _ _ _ c.args.command.now lent back _ c.in-Again.cause c.in-Again.is tried.attempted;
      continues = on;
      at_most_one = between TriesOne _ _ _ _ lent back tried.at_most_one;
      known = between IsKnown _ _ _ _ (sym back) refl tried.knows;
    }
