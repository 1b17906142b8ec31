-- Lines of scripts that all their seats worked off make one run, in any order.
use Rattle.std.proofs.Common.{◌≡◌, ℕ, zero, suc, ◌+◌, ◌<◌, cond, List, [], ◌∷◌, length, Some, refl, ◌∙◌, subst, arith}
use Rattle.std.specs.List.{All, slice_get}
use Rattle.std.specs.List.Sorted.{IsPermutation}
use Rattle.std.proofs.lemmas.List.Elements.{All-head, All-tail}
use Rattle.std.proofs.lemmas.List.Sorted.{IsPermutation-refl, All-permutation, sum_by-IsPermutation}
use Rattle.mv_history.specs.declared.answers.LogTable.{LogTable}
use Rattle.mv_history.specs.declared.history.Entry.{Entry}
use Rattle.mv_history.specs.declared.history.Entry.TheVariants.{Change}
use Rattle.mv_history.specs.declared.history.TheConstants.{LAST}
use Rattle.mv_history.specs.State.{maker_of, state_after}
use Rattle.mv_history.specs.Legal.{IsLegal, IsAllowed}
use Rattle.set_model.specs.Catalogue.{Maps, empty}
use Rattle.set_model.specs.CatalogueOf.{catalogue_of}
use Rattle.set_model.specs.Lawful.{IsOpening}
use Rattle.set_model.specs.Rules.{capacity, IsSetCommit}
use Rattle.set_model.specs.declared.commands.Command.{Command}
use Rattle.set_model.proofs.Opening.{opening_empty}
use Rattle.run_report.specs.declared.line.Line.{Line}
use Rattle.run_report.specs.Order.{IsOrdered}
use Rattle.run_report.specs.Legal.{LegalRun, Follows, Replays, ids_of}
use Rattle.run_report.specs.Worked.{Past}
use Rattle.run_report.specs.Whole.{StandsIn, EachHasOneLine, RunOf, IsTableOf, commit_lines, is_commit_of}
use Rattle.run_report.proofs.Runs.{legal_permuted}
use Rattle.run_report.proofs.history.Inserted.{some_order}
use Rattle.run_report.proofs.history.Scripts.{AllWorked, all_ids, all_follow, all_stand, all_in_time, all_alone, all_one}
use Rattle.run_report.proofs.history.Replay.{IsLeft, replay}

-- lines in another order are as many commits of a time
pub lines_permuted : (time : ℕ) (lines others : List Line) → IsPermutation lines others → commit_lines time others ≡ commit_lines time lines
lines_permuted time lines others same = sum_by-IsPermutation (λ (l : Line). cond (is_commit_of time l.place) 1 0) lines others same

-- a run stays one whatever the order of its lines
pub run_permuted : (p : Past) (scripts : List (List Command)) (lines others : List Line) (end : Maps) (tables : List LogTable)
    → IsPermutation lines others → RunOf p scripts lines end tables → RunOf p scripts others end tables
run_permuted p scripts lines others end tables same run =
    record {
      opening = run.opening;
      legal = run.legal;
      allowed = run.allowed;
      stand = All-permutation (StandsIn p scripts) lines others same run.stand;
      one_line = λ i c there. lines_permuted (p.base + suc i) lines others same ∙ run.one_line i c there;
      end_is = run.end_is;
      table_each = run.table_each;
      table_of = run.table_of;
      run = legal_permuted scripts lines others p.base (capacity p.start) end same run.run;
    }

-- the entry at a place was made by one of these seats
pub made_by_seat : (n : ℕ) (es : List Entry) (i : ℕ) (e : Entry) → All (λ e. maker_of e < n) es → slice_get es i ≡ Some e → maker_of e < n
made_by_seat n [] i e makers is = absurd (cc)
made_by_seat n (f ∷ es) zero e makers is =
    let same : f ≡ e = cc in subst (λ g. maker_of g < n) same (All-head (λ g. maker_of g < n) f es makers)
made_by_seat n (f ∷ es) (suc i) e makers is = made_by_seat n es i e (All-tail (λ g. maker_of g < n) f es makers) is

-- What holds of a history that the seats of the scripts made from an opening state on, and of the lines of all of them.
pub record IsWorked (p : Past) (scripts : List (List Command)) (lines : List Line) : Type 0 where
  pub opening : IsOpening p.start
  pub legal : IsLegal (length p.start) p.entries
  pub allowed : IsAllowed IsSetCommit p.start p.entries
  pub last : p.last ≡ LAST
  pub makers : All (λ e. maker_of e < length scripts) p.entries
  pub worked : AllWorked p 0 scripts lines

module _ (p : Past) (scripts : List (List Command)) (lines : List Line) (h : IsWorked p scripts lines) where
  one_line : EachHasOneLine p lines
  one_line i c there =
      let few = made_by_seat (length scripts) p.entries i (Change c) h.makers there in
      all_one p (length p.start) i c scripts lines h.legal there few h.worked

  -- ordered lines replay from empty maps
  replays : (ordered : List Line) → IsPermutation lines ordered → IsOrdered ordered
      → Replays scripts (capacity p.start) empty ordered (catalogue_of (state_after p.start p.entries))
  replays ordered same rising =
      let from : p.base ≡ p.base + 0 = omega arith in
      let left : IsLeft p (StandsIn p scripts) 0 ordered = record {
        ordered = rising;
        stand = All-permutation (StandsIn p scripts) lines ordered same (all_stand p scripts lines h.worked);
        follow = All-permutation (λ line. Follows (p.base + 0) line.place) lines ordered same
            (subst (λ t. All (λ line. Follows t line.place) lines) from (all_follow p scripts lines h.worked));
        left = λ i c low there. lines_permuted (p.base + suc i) lines ordered same ∙ one_line i c there;
      } in
      subst (λ m. Replays scripts (capacity p.start) m ordered (catalogue_of (state_after p.start p.entries))) (opening_empty p.start h.opening)
      (replay p scripts h.allowed h.last 0 ordered left)

  legal_run : LegalRun scripts lines p.base (capacity p.start) (catalogue_of (state_after p.start p.entries))
  legal_run =
      let ordered = some_order lines in
      record {
        once = rw (all_ids p 0 scripts lines h.worked) (IsPermutation-refl (ids_of 0 scripts));
        from_base = all_follow p scripts lines h.worked;
        in_time = all_in_time p scripts lines h.worked;
        alone = all_alone p scripts lines h.worked;
        replayed = (ordered.0, ordered.1, ordered.2, replays ordered.0 ordered.1 ordered.2);
      }

  -- The lines are those of one run.
  pub run_of : (tables : List LogTable) → length tables ≡ length scripts
      → ((seat : ℕ) (table : LogTable) → slice_get tables seat ≡ Some table → IsTableOf p.entries seat table)
      → RunOf p scripts lines (catalogue_of (state_after p.start p.entries)) tables
  run_of tables each of_seat =
      record {
        opening = h.opening;
        legal = h.legal;
        allowed = h.allowed;
        stand = all_stand p scripts lines h.worked;
        one_line = one_line;
        end_is = refl;
        table_each = each;
        table_of = of_seat;
        run = legal_run;
      }
