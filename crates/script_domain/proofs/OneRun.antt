-- The seats of a domain that ran their scripts have met: their lines and tables are those of one run in the whole history.
use Rattle.mv_history.specs.declared.answers.LogTable.{LogTable}
use Rattle.mv_history.specs.State.{state_after}
use Rattle.set_model.specs.CatalogueOf.{catalogue_of}
use Rattle.run_report.specs.Whole.{RunOf}
use Rattle.run_report.proofs.history.Grown.{all_worked}
use Rattle.run_report.proofs.history.OneRun.{run_of}
use Rattle.script_domain.proofs.Terms.{List, length, Seat, IsOpening, IsSetCommit, Command, Line, AllRan, Past, IsOneHistory}

pub run_met : (p : Past) (olds news : List Seat) (scripts : List (List Command)) (lines : List Line) (tables : List LogTable)
    → IsOneHistory IsOpening IsSetCommit p (length scripts) olds news tables → AllRan olds news scripts lines
    → RunOf p scripts lines (catalogue_of (state_after p.start p.entries)) tables
run_met p olds news scripts lines tables h ran =
    run_of p scripts lines
    record {
      opening = h.opening;
      legal = h.legal;
      allowed = h.allowed;
      last = h.last;
      makers = h.makers;
      worked = all_worked p 0 olds news scripts lines h.known ran;
    }
    tables h.table_each h.table_of
