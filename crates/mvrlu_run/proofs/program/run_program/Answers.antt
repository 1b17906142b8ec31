use Rattle.std.proofs.Common.{sym, ◌∙◌}
use Rattle.run_ends.specs.declared.finish.Ran.{Ran}
use Rattle.mvrlu_run.proofs.Complete.{is_complete, is_printed, is_read_fault, reads_sets}
use Rattle.mvrlu_run.proofs.program.run_program.Goals as goal

pub returns-clause-printed : goal.returns-clause-printed
returns-clause-printed g c =
    let cause = c.carry_out-finish.ensures.cause in
    let closed = c.into_closed.ensures in
    let ran : Ran = record { status = c.status-status.result; closed = c.into_closed.result } in
    λ asks a nought. is_printed _ _ _ c.carry_out-finish.result ran asks c.status-status.ensures closed cause a nought

pub returns-clause-read : goal.returns-clause-read
returns-clause-read g c =
    λ five. is_read_fault _ _ _ _ _ _ _ c.carry_out-finish.result c.carry_out-finish.ensures.cause c.report.ensures (sym c.status-status.ensures ∙ five)

pub returns-clause-complete : goal.returns-clause-complete
returns-clause-complete g c =
    is_complete _ _ _ c.carry_out-finish.result c.status-status.result c.status-status.ensures c.carry_out-finish.ensures.cause
    c.carry_out-finish.ensures.never_read

pub returns-clause-lawful : goal.returns-clause-lawful
returns-clause-lawful g c = rw c.into_closed.ensures (reads_sets _ _ _ c.carry_out-finish.result c.carry_out-finish.ensures.cause)
