use Rattle.std.proofs.Common.{ap, ◌∙◌}
use Rattle.set_catalog.specs.Steps.{most_beside}
use Rattle.set_catalog.proofs.NotedGone.{kept_taken, noted_takes, hints_then}
use Rattle.set_catalog.proofs.Outcomes.{left_by, after_the_first, known_then}
use Rattle.set_catalog.proofs.WorkSteps.{stepped_as}
use Rattle.set_catalog.proofs.attempting.attempt_knowing.Goals as goal

pub note-requires : goal.note-requires
note-requires g c = record {
  later = after_the_first _ (g.S.Store.seat_of c.args.store) _ c.args.command.now c.in-Done.answer _ (left_by _ _ _ c.most_beside-most.result _ _ _
      (c.most_beside-most.ensures ∙ ap most_beside c.write_max.ensures) c.in-Done.is c.attempt_work-store.ensures.attempted);
}

pub returns-in-Done : goal.returns-in-Done
returns-in-Done g c =
    let done = left_by _ _ _ c.most_beside-most.result c.args.command.now _ _
    (c.most_beside-most.ensures ∙ ap most_beside c.write_max.ensures) c.in-Done.is c.attempt_work-store.ensures.attempted in
    record {
      attempted = (c.in-Done.answer.gone, done);
      steps = stepped_as _ _ _ _ _ _ _ c.in-Done.is c.attempt_work-store.ensures.steps;
      noted = hints_then _ (g.S.Store.seat_of c.args.store) _ c.args.command.now c.in-Done.answer _ c.args.memo.now _ _ done
          c.attempt_work-store.ensures.noted c.note.ensures.hints;
      at_most_one = c.attempt_work-store.ensures.at_most_one;
      known = known_then _ (g.S.Store.seat_of c.args.store) _ c.args.command.now c.in-Done.answer _ c.attempt_work-store.new.memo.known _
          (g.met.S.Store.lawful c.attempt_work-store.result.0) done c.attempt_work-store.ensures.knows c.note.ensures.known;
    }

pub returns-in-Again : goal.returns-in-Again
returns-in-Again g c = record {
  attempted = left_by _ _ _ c.most_beside-most.result c.args.command.now _ _
      (c.most_beside-most.ensures ∙ ap most_beside c.write_max.ensures) c.in-Again.is c.attempt_work-store.ensures.attempted;
  steps = stepped_as _ _ _ _ _ _ _ c.in-Again.is c.attempt_work-store.ensures.steps;
  noted = kept_taken _ _ _ _ (noted_takes c.args.command.now _ _ _ _ c.attempt_work-store.ensures.noted);
  at_most_one = c.attempt_work-store.ensures.at_most_one;
  known = c.attempt_work-store.ensures.knows;
}
