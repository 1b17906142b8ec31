use Rattle.seat_log.specs.mv_core.Passes.{view, config_of}
use Rattle.commit_abort.proofs.AbortParts.{end_may, abort_ends}
use Rattle.commit_abort.proofs.aborting.abort_end.Goals as goal

pub clear_mark-requires-clause-may : goal.clear_mark-requires-clause-may
clear_mark-requires-clause-may g c =
    let k = c.requires.given_up in
    end_may (config_of c.args.shared.now) k.0 (view c.args.pass.now) c.args.log.now c.args.dead k.1

pub returns-clause-aborts : goal.returns-clause-aborts
returns-clause-aborts g c = λ from k.
    (abort_ends (config_of c.args.shared.now) from (view c.args.pass.now) c.args.log.now c.args.dead k (view c.clear_mark.new.pass) c.note_abort.new.log
    c.clear_mark.ensures.view c.note_abort.ensures).0

pub returns-clause-stands : goal.returns-clause-stands
returns-clause-stands g c =
    let k = c.requires.given_up in
    (abort_ends (config_of c.args.shared.now) k.0 (view c.args.pass.now) c.args.log.now c.args.dead k.1 (view c.clear_mark.new.pass) c.note_abort.new.log
    c.clear_mark.ensures.view c.note_abort.ensures).1

pub clear_mark-requires-clause-of : goal.clear_mark-requires-clause-of
clear_mark-requires-clause-of g c = c.requires.of

pub note_abort-requires : goal.note_abort-requires
note_abort-requires g c = record { unbuilt = c.requires.given_up.1.aborting.unbuilt }

pub returns-clause-same : goal.returns-clause-same
returns-clause-same g c = c.clear_mark.ensures.same

pub returns-clause-view : goal.returns-clause-view
returns-clause-view g c = c.clear_mark.ensures.view

pub returns-clause-log : goal.returns-clause-log
returns-clause-log g c = c.note_abort.ensures

pub returns-clause-step : goal.returns-clause-step
returns-clause-step g c = c.clear_mark.ensures.step
