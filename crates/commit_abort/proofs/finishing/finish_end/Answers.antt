use Rattle.seat_log.specs.mv_core.Passes.{view, config_of}
use Rattle.commit_abort.proofs.FinishParts.{end_may, finish_ends}
use Rattle.commit_abort.proofs.finishing.finish_end.Goals as goal

pub clear_mark-requires-clause-may : goal.clear_mark-requires-clause-may
clear_mark-requires-clause-may g c =
    let k = c.requires.finishing in
    end_may (config_of c.args.shared.now) k.0 (view c.args.pass.now) c.args.log.now c.args.time k.1

pub returns-clause-finishes : goal.returns-clause-finishes
returns-clause-finishes g c = λ from k.
    (finish_ends (config_of c.args.shared.now) from (view c.args.pass.now) c.args.log.now c.args.time k (view c.clear_mark.new.pass) c.note_commit.new.log
    c.clear_mark.ensures.view c.note_commit.ensures).0

pub returns-clause-stands : goal.returns-clause-stands
returns-clause-stands g c =
    let k = c.requires.finishing in
    (finish_ends (config_of c.args.shared.now) k.0 (view c.args.pass.now) c.args.log.now c.args.time k.1 (view c.clear_mark.new.pass) c.note_commit.new.log
    c.clear_mark.ensures.view c.note_commit.ensures).1

pub clear_mark-requires-clause-of : goal.clear_mark-requires-clause-of
clear_mark-requires-clause-of g c = c.requires.of

pub note_commit-requires-clause-unbuilt : goal.note_commit-requires-clause-unbuilt
note_commit-requires-clause-unbuilt g c = c.requires.finishing.1.named.unbuilt

pub returns-clause-same : goal.returns-clause-same
returns-clause-same g c = c.clear_mark.ensures.same

pub returns-clause-view : goal.returns-clause-view
returns-clause-view g c = c.clear_mark.ensures.view

pub returns-clause-log : goal.returns-clause-log
returns-clause-log g c = c.note_commit.ensures

pub returns-clause-step : goal.returns-clause-step
returns-clause-step g c = c.clear_mark.ensures.step
