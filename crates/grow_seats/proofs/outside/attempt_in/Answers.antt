use Rattle.std.proofs.Common.{subst}
use Rattle.mv_history.specs.Calls.{Continues}
use Rattle.mv_history.specs.Meaning.{Seat}
use Rattle.mvrlu.specs.Meant.{handled}
use Rattle.section_work.specs.Sections.{TriesOne}
use Rattle.set_model.specs.declared.commands.Command.{Command}
use Rattle.grow_hash.specs.GrowAttempts.{GrowAttempted}
use Rattle.grow_seats.proofs.Staying.{between, still_of, still_room}
use Rattle.grow_seats.specs.Calls.{Attempted, domain_causes}
use Rattle.grow_seats.specs.Commands.{table_levels}
use Rattle.grow_seats.proofs.outside.attempt_in.Goals as goal

pub returns : goal.returns
returns c =
    let lent = c.handle.ensures.meant in
    let back = c.into_seat.ensures.meant in
    let done = c.attempt_grow-handle in
    let on = between Continues _ _ _ _ lent back done.ensures.continues in
    let told = subst (λ (x : Command). GrowAttempted table_levels domain_causes (handled c.handle.result) (handled done.result.0) x done.result.1)
    c.command-told.ensures.command done.ensures.attempted in
    record {
      of = still_of c.args.domain.now c.args.seat c.into_seat.result on c.requires.of;
      room = still_room c.args.domain.now c.args.seat c.into_seat.result on 64 c.requires.room;
      attempted = between (λ (s t : Seat). Attempted s t c.args.command done.result.1) _ _ _ _ lent back told;
      continues = on;
      at_most_one = between TriesOne _ _ _ _ lent back done.ensures.at_most_one;
    }
