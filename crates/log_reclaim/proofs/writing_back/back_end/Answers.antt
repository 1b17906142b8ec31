use Rattle.std.proofs.Common.{ap, ◌∙◌}
use Rattle.seat_log.specs.mv_core.Passes.{view, config_of}
use Rattle.seat_log.specs.Notes.{back_noted}
use Rattle.log_reclaim.proofs.looks.CutBacks.{open_timed, may_retire_timed, may_note_timed, cut_at_timed, stands_timed}
use Rattle.log_reclaim.proofs.writing_back.back_end.Goals as goal

pub leave-requires-clause-open : goal.leave-requires-clause-open
leave-requires-clause-open g c =
    let k = c.requires.timed in
    open_timed (config_of c.args.shared.now) k.0 (view c.args.pass.now) c.args.log.now c.args.back c.args.time k.1

pub retire-requires : goal.retire-requires
retire-requires g c =
    let k = c.requires.timed in
    record { live = may_retire_timed (config_of c.args.shared.now) k.0 (view c.args.pass.now) c.args.log.now c.args.back c.args.time k.1 }

pub note_cut-requires : goal.note_cut-requires
note_cut-requires g c =
    let k = c.requires.timed in
    may_note_timed (config_of c.args.shared.now) k.0 (view c.args.pass.now) c.args.log.now c.args.back c.args.time k.1 c.retire.new.log c.retire.ensures

pub returns-clause-cut : goal.returns-clause-cut
returns-clause-cut g c = λ from k.
    cut_at_timed (config_of c.args.shared.now) from (view c.args.pass.now) c.args.log.now c.args.back c.args.time k (view c.leave.new.pass)
    c.note_cut.new.log c.leave.ensures.view (c.note_cut.ensures ∙ ap back_noted c.retire.ensures)

pub returns-clause-stands : goal.returns-clause-stands
returns-clause-stands g c =
    let k = c.requires.timed in
    stands_timed (config_of c.args.shared.now) k.0 (view c.args.pass.now) c.args.log.now c.args.back c.args.time k.1 (view c.leave.new.pass)
    c.note_cut.new.log c.leave.ensures.view (c.note_cut.ensures ∙ ap back_noted c.retire.ensures)

pub returns-clause-view : goal.returns-clause-view
returns-clause-view g c = c.leave.ensures.view

pub returns-clause-log : goal.returns-clause-log
returns-clause-log g c = c.note_cut.ensures ∙ ap back_noted c.retire.ensures
