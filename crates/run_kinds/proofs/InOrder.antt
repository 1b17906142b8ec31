-- A domain is left of a run whatever the order of the run's lines; and the text of its lines in their order is that of the run.
use Rattle.std.proofs.Common.{ℕ, List}
use Rattle.std.specs.List.Sorted.{IsPermutation}
use Rattle.std.proofs.lemmas.List.Sorted.{IsPermutation-trans}
use Rattle.mv_history.specs.declared.answers.LogTable.{LogTable}
use Rattle.mv_history.specs.Meaning.{Seat}
use Rattle.mv_history.specs.State.{State, Writes}
use Rattle.mv_layout.specs.declared.config.Config.{Config}
use Rattle.mvrlu.specs.declared.closing.Closing.{Closing}
use Rattle.mvrlu.specs.Meant.{whole_of}
use Rattle.domain_lines.specs.Joined.{past_of_whole}
use Rattle.run_report.specs.declared.line.Line.{Line}
use Rattle.run_report.specs.InOrder.{IsTextInOrder}
use Rattle.run_report.specs.Text.{text_of_run}
use Rattle.run_report.specs.Worked.{Past}
use Rattle.set_model.specs.Catalogue.{Maps}
use Rattle.run_kinds.specs.Kinds.{IsLeftOf, IsRunAlong, IsTextOf, kind_along}

-- Of runs on the sets along chains, each of which stays one whatever the order of its lines, and what is left of the domain of one.
module _ (allows : List ℕ → State → Writes → Type 0) (chain : List Seat → List Seat → List Line → Type 0) (numbers : Config)
    (is_run : Past → List Line → Maps → List LogTable → Type 0)
    (permuted : (past : Past) (lines others : List Line) (end : Maps) (tables : List LogTable) → IsPermutation lines others
    → is_run past lines end tables → is_run past others end tables) {Rules : Type 0} (closing : Closing Rules) where
  -- the domain is left of a run of these lines
  abbrev pub IsLeftSo : List Line → Maps → Type 0
  IsLeftSo lines end = IsLeftOf numbers (λ w. IsRunAlong allows chain numbers (λ past. is_run past lines end w.tables) lines w) closing

  -- and so of the same lines in another order
  pub left_permuted : (lines others : List Line) (end : Maps) → IsPermutation lines others → IsLeftSo lines end → IsLeftSo others end
  left_permuted lines others end same left =
      let along = left.run in
      record {
        start = left.start;
        base = left.base;
        run = record {
          run = permuted (past_of_whole (whole_of closing)) lines others end (whole_of closing).tables same along.run;
          home = along.home;
          firsts = along.firsts;
          new = along.new;
          own = along.own;
          same = IsPermutation-trans along.own lines others along.same same;
          linked = along.linked;
        };
      }

  -- the text of the lines in their order is that of the run
  pub text_in_order : (lines : List Line) (end : Maps) (text : List ℕ) → IsLeftSo lines end → IsTextInOrder lines end (whole_of closing).tables text
      → IsTextOf (kind_along allows chain numbers is_run text_of_run) closing text
  text_in_order lines end text left told = record {
    lines = told.ordered;
    end = end;
    left = left_permuted lines told.ordered end told.same left;
    ordered = told.in_order;
    is = told.is;
  }
