-- Lines of scripts that all their seats worked off on a growing hash set make one run, in any order.
use Rattle.std.proofs.Common.{◌≡◌, ℕ, suc, ◌+◌, ◌<◌, cond, List, length, map, Some, refl, sym}
use Rattle.std.proofs.Common.{ap, ◌∙◌, subst, arith}
use Rattle.std.specs.List.{All, slice_get, flat_map}
use Rattle.std.specs.List.Sorted.{IsPermutation}
use Rattle.std.proofs.lemmas.List.Sorted.{IsPermutation-refl, IsPermutation-trans, IsPermutation-sym, All-permutation}
use Rattle.mv_history.specs.declared.answers.LogTable.{LogTable}
use Rattle.mv_history.specs.declared.history.Entry.TheVariants.{Change}
use Rattle.mv_history.specs.declared.history.TheConstants.{LAST}
use Rattle.mv_history.specs.State.{maker_of, state_after}
use Rattle.mv_history.specs.Legal.{IsLegal, IsAllowed}
use Rattle.set_model.specs.Catalogue.{Maps, empty}
use Rattle.set_model.specs.declared.commands.Command.{Command}
use Rattle.run_report.specs.declared.line.Line.{Line}
use Rattle.run_report.specs.Order.{IsOrdered}
use Rattle.run_report.specs.Legal.{LegalRun, EachPair, Follows, IsAlone, IsInTime, Replays, ids_of}
use Rattle.run_report.specs.Worked.{Past}
use Rattle.run_report.specs.Whole.{EachHasOneLine, IsTableOf, commit_lines}
use Rattle.run_report.proofs.Runs.{legal_permuted}
use Rattle.run_report.proofs.history.Groups as groups_of
use Rattle.run_report.proofs.history.Inserted.{some_order}
use Rattle.run_report.proofs.history.OneRun.{lines_permuted, made_by_seat}
use Rattle.grow_hash.specs.Grown.{IsGrownOpening, grown_catalogue, grown_capacity}
use Rattle.grow_hash.specs.GrowRules.{IsGrowCommit}
use Rattle.grow_hash.specs.Splits.{count_splits}
use Rattle.grow_hash.proofs.Splitting.{grown_after, buckets_after}
use Rattle.grow_report.specs.Turns.{LineAndSplit, line_of}
use Rattle.grow_report.specs.Whole.{AllTurns, EachHasOneLineOrSplits, GrowRunOf, GrowStandsIn, flat_turns}
use Rattle.grow_report.proofs.Counts.{one_or_split, splits_all}
use Rattle.grow_report.proofs.Found.{lines_alone, lines_follow, lines_in_time}
use Rattle.grow_report.proofs.GrownReplay.{AreLeft, replay}
use Rattle.grow_report.proofs.Openings.{grown_empty}
use Rattle.grow_report.proofs.Seats.{all_ids, all_stand, all_steps, groups_count, steps_flat}
use Rattle.grow_report.proofs.Steps.{turn_steps}
use Rattle.grow_report.proofs.Still.{plain_from}
use Rattle.grow_hash.specs.Tables.{grow_levels}

-- a run stays one whatever the order of its lines
pub run_permuted : (p : Past) (scripts : List (List Command)) (lines others : List Line) (end : Maps) (splits : ℕ) (tables : List LogTable)
    → IsPermutation lines others → GrowRunOf p scripts lines end splits tables → GrowRunOf p scripts others end splits tables
run_permuted p scripts lines others end splits tables same run =
    let back = IsPermutation-sym lines others same in
    record {
      opening = run.opening;
      legal = run.legal;
      allowed = run.allowed;
      stand = All-permutation (GrowStandsIn p scripts) lines others same run.stand;
      one_line = λ i c there. lines_permuted (p.base + suc i) lines others same ∙ run.one_line i c there;
      turns = run.turns;
      lines_are = IsPermutation-trans _ _ _ back run.lines_are;
      each = run.each;
      of_turns = run.of_turns;
      of_history = run.of_history;
      buckets_are = run.buckets_are;
      lawful = run.lawful;
      end_is = run.end_is;
      table_each = run.table_each;
      table_of = run.table_of;
      run = legal_permuted scripts lines others p.base (grown_capacity grow_levels p.start) end same run.run;
    }

-- What holds of a history that the seats of the scripts made from an opening state on, and of the turns of all of them.
pub record IsGrowWorked (p : Past) (scripts : List (List Command)) (groups : List (List LineAndSplit)) : Type 0 where
  pub opening : IsGrownOpening grow_levels p.start
  pub legal : IsLegal (length p.start) p.entries
  pub allowed : IsAllowed (IsGrowCommit grow_levels) p.start p.entries
  pub last : p.last ≡ LAST
  pub makers : All (λ e. maker_of e < length scripts) p.entries
  pub each : AllTurns p 0 scripts groups

module _ (p : Past) (scripts : List (List Command)) (groups : List (List LineAndSplit)) (h : IsGrowWorked p scripts groups) where
  -- all turns, their steps and their lines
  abbrev turns : List LineAndSplit
  turns = flat_turns groups

  abbrev steps : List Line
  steps = flat_map turn_steps turns

  abbrev lines : List Line
  lines = map line_of turns

  one_step : EachHasOneLine p steps
  one_step i c there =
      let few = made_by_seat (length scripts) p.entries i (Change c) h.makers there in
      let count = groups_count p 0 scripts groups h.each in
      subst (λ ls. commit_lines (p.base + suc i) ls ≡ 1) (steps_flat groups)
      (groups_of.all_one p (length p.start) i c 0 (map (λ ts. flat_map turn_steps ts) groups) h.legal there (omega arith) (omega (arith, few, count))
      (all_steps p 0 scripts groups h.each))

  one_line : EachHasOneLineOrSplits p lines
  one_line i c there = one_or_split p i c there scripts groups h.each (one_step i c there)

  follow : All (λ line. Follows p.base line.place) lines
  follow =
      lines_follow p.base turns
      (subst (All (λ line. Follows p.base line.place)) (steps_flat groups)
      (groups_of.all_follow p 0 (map (λ ts. flat_map turn_steps ts) groups) (all_steps p 0 scripts groups h.each)))

  in_time : EachPair IsInTime lines
  in_time =
      lines_in_time turns
      (subst (EachPair IsInTime) (steps_flat groups)
      (groups_of.all_in_time p 0 (map (λ ts. flat_map turn_steps ts) groups) (all_steps p 0 scripts groups h.each)))

  alone : EachPair IsAlone lines
  alone =
      lines_alone turns
      (subst (EachPair IsAlone) (steps_flat groups)
      (groups_of.all_alone p 0 (map (λ ts. flat_map turn_steps ts) groups) (all_steps p 0 scripts groups h.each)))

  -- ordered lines replay from empty maps
  replays : (ordered : List Line) → IsPermutation lines ordered → IsOrdered ordered
      → Replays scripts (grown_capacity grow_levels p.start) empty ordered (grown_catalogue grow_levels (state_after p.start p.entries))
  replays ordered same rising =
      let from : p.base ≡ p.base + 0 = omega arith in
      let left : AreLeft p scripts 0 ordered = record {
        ordered = rising;
        stand = All-permutation (GrowStandsIn p scripts) lines ordered same (all_stand p scripts groups h.each);
        follow = All-permutation (λ line. Follows (p.base + 0) line.place) lines ordered same
            (subst (λ t. All (λ line. Follows t line.place) lines) from follow);
        left = λ i c low there.
            let found = plain_from p.entries i c there in
            lines_permuted (p.base + suc i) lines ordered same ∙ one_line i c found.0 ∙ ap (λ b. cond b 0 1) found.1;
      } in
      subst (λ m. Replays scripts (grown_capacity grow_levels p.start) m ordered (grown_catalogue grow_levels (state_after p.start p.entries)))
      (grown_empty p.start h.opening)
      (replay p scripts h.allowed h.last 0 ordered left)

  legal_run : LegalRun scripts lines p.base (grown_capacity grow_levels p.start) (grown_catalogue grow_levels (state_after p.start p.entries))
  legal_run =
      let ordered = some_order lines in
      record {
        once = subst (IsPermutation (ids_of 0 scripts)) (sym (all_ids p 0 scripts groups h.each)) (IsPermutation-refl (ids_of 0 scripts));
        from_base = follow;
        in_time = in_time;
        alone = alone;
        replayed = (ordered.0, ordered.1, ordered.2, replays ordered.0 ordered.1 ordered.2);
      }

  -- The lines are those of one run.
  pub grow_run_of : (all : List Line) (tables : List LogTable) → all ≡ lines → length tables ≡ length scripts
      → ((seat : ℕ) (table : LogTable) → slice_get tables seat ≡ Some table → IsTableOf p.entries seat table)
      → GrowRunOf p scripts all (grown_catalogue grow_levels (state_after p.start p.entries)) (count_splits p.entries) tables
  grow_run_of all tables are each of_seat =
      run_permuted p scripts lines all (grown_catalogue grow_levels (state_after p.start p.entries)) (count_splits p.entries) tables
      (subst (IsPermutation lines) (sym are) (IsPermutation-refl lines))
      record {
        opening = h.opening;
        legal = h.legal;
        allowed = h.allowed;
        stand = all_stand p scripts groups h.each;
        one_line = one_line;
        turns = groups;
        lines_are = IsPermutation-refl lines;
        each = h.each;
        of_turns = sym (splits_all p scripts groups h.each h.makers);
        of_history = refl;
        buckets_are = buckets_after grow_levels p.start p.entries h.opening h.allowed;
        lawful = grown_after grow_levels p.start p.entries h.opening h.allowed;
        end_is = refl;
        table_each = each;
        table_of = of_seat;
        run = legal_run;
      }
