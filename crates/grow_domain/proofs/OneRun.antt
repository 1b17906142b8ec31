-- The seats of a domain that ran scripts on a growing hash set have met: their lines and tables are those of one run in the whole history.
use Rattle.mv_history.specs.declared.answers.LogTable.{LogTable}
use Rattle.mv_history.specs.State.{state_after}
use Rattle.run_report.specs.declared.line.Line.{Line}
use Rattle.run_report.specs.Worked.{Past}
use Rattle.grow_hash.specs.Splits.{count_splits}
use Rattle.grow_report.specs.Turns.{AllRanGrow}
use Rattle.grow_report.specs.Whole.{GrowRunOf}
use Rattle.grow_report.proofs.Known.{all_turns}
use Rattle.grow_report.proofs.OneRun.{grow_run_of}
use Rattle.grow_domain.proofs.Terms.{◌∷◌, List, [], length, Seat, Command, AllContinue, IsOneHistory, IsGrownOpening, grown_catalogue, IsGrowCommit}
use Rattle.grow_domain.proofs.Terms.{grow_levels}

-- seats that ran scripts go on
pub all_continue : (olds news : List Seat) (scripts : List (List Command)) (lines : List Line) → AllRanGrow olds news scripts lines
    → AllContinue olds news
all_continue [] [] [] lines ran = tt
all_continue (o ∷ olds) (n ∷ news) (script ∷ scripts) lines ran = (ran.3.continues, all_continue olds news scripts ran.1 ran.4)
all_continue _ _ _ lines ran = absurd ran

-- The lines and tables are those of one run in the whole history.
pub grown_met : (p : Past) (olds news : List Seat) (scripts : List (List Command)) (lines : List Line) (tables : List LogTable)
    → IsOneHistory (IsGrownOpening grow_levels) (IsGrowCommit grow_levels) p (length scripts) olds news tables → AllRanGrow olds news scripts lines
    → GrowRunOf p scripts lines (grown_catalogue grow_levels (state_after p.start p.entries)) (count_splits p.entries) tables
grown_met p olds news scripts lines tables h ran =
    let turns = all_turns p 0 olds news scripts lines h.known ran in
    grow_run_of p scripts turns.0
    record {
      opening = h.opening;
      legal = h.legal;
      allowed = h.allowed;
      last = h.last;
      makers = h.makers;
      each = turns.2;
    }
    lines tables turns.1 h.table_each h.table_of
