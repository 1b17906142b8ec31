-- The turns of each seat: how their lines are numbered, that they stand in the history, and the steps of all.
use Rattle.std.proofs.Common.{◌≡◌, ℕ, suc, List, [], ◌∷◌, ◌++◌, length, map, Some, refl, sym, ap, ◌∙◌, subst}
use Rattle.std.proofs.Common.{add-one, length-append, append_assoc}
use Rattle.std.specs.List.{All, slice_get, slice_index_or, flat_map}
use Rattle.std.proofs.lemmas.List.{map-append}
use Rattle.std.proofs.lemmas.List.Concat.{flat_map-append}
use Rattle.std.proofs.lemmas.List.Elements.{All-nil, All-cons, All-append}
use Rattle.std.proofs.Math.Seq.{get_or-append_seam}
use Rattle.mv_history.specs.declared.history.Commit.{Commit}
use Rattle.mv_history.specs.State.{commits_of}
use Rattle.set_model.specs.declared.commands.Command.{Command}
use Rattle.run_report.specs.declared.line.Line.{Line}
use Rattle.run_report.specs.Order.{time_of}
use Rattle.run_report.specs.Legal.{id_of, ids_from, ids_of, command_of}
use Rattle.run_report.specs.Worked.{Past}
use Rattle.run_report.proofs.history.Groups.{AllSteps, flat}
use Rattle.grow_report.specs.Turns.{LineAndSplit, TurnsOf, line_of, is_added, odd_with}
use Rattle.grow_report.specs.Whole.{GrowStandsIn, AllTurns, flat_turns}
use Rattle.grow_report.proofs.Steps.{turn_steps, seat_steps}

module _ (p : Past) where
  -- the lines are numbered as the commands are
  seat_ids : (seat number before : ℕ) (odd : _) (script : List Command) (turns : List LineAndSplit) (commits : List Commit)
      → TurnsOf p seat number before odd script turns commits → map id_of (map line_of turns) ≡ ids_from seat number script
  seat_ids seat number before odd [] [] commits h = refl
  seat_ids seat number before odd [] (turn ∷ turns) commits h = absurd h
  seat_ids seat number before odd (command ∷ script) [] commits h = absurd h
  seat_ids seat number before odd (command ∷ script) (turn ∷ turns) commits h =
      let rest = seat_ids seat (suc number) (time_of turn.line.place) (odd_with odd (is_added command turn.line.reply)) script turns h.2 h.6 in
      λ i. (h.4.by i, h.4.numbered i) ∷ rest i

  command_there : (done script : List Command) (command : Command) → slice_get (done ++ command ∷ script) (length done) ≡ Some command
  command_there [] script command = refl
  command_there (first ∷ done) script command = command_there done script command

  -- each line stands in the history, where the commands left are those of the seat's script after these
  seat_stands : (scripts : List (List Command)) (seat before : ℕ) (odd : _) (done script : List Command) (turns : List LineAndSplit) (commits : List Commit)
      → slice_index_or scripts seat [] ≡ done ++ script → TurnsOf p seat (suc (length done)) before odd script turns commits
      → All (GrowStandsIn p scripts) (map line_of turns)
  seat_stands scripts seat before odd done [] [] commits full h = All-nil _
  seat_stands scripts seat before odd done [] (turn ∷ turns) commits full h = absurd h
  seat_stands scripts seat before odd done (command ∷ script) [] commits full h = absurd h
  seat_stands scripts seat before odd done (command ∷ script) (turn ∷ turns) commits full h =
      let here = h.4 in
      let line : Line = turn.line in
      let is : command_of scripts line ≡ Some command = rw (here.by, here.numbered, full) (command_there done script command) in
      let long : suc (length done) ≡ length (done ++ command ∷ []) = sym (length-append done (command ∷ []) ∙ add-one (length done)) in
      All-cons (GrowStandsIn p scripts) line (map line_of turns)
      (rw is (h.0, rw here.by here.place))
      (seat_stands scripts seat (time_of line.place) (odd_with odd (is_added command line.reply)) (done ++ command ∷ []) script turns h.2
      (full ∙ sym (append_assoc done (command ∷ []) script)) (rw long at h.6))

  -- the lines of all are numbered as all commands are
  pub all_ids : (seat : ℕ) (scripts : List (List Command)) (groups : List (List LineAndSplit)) → AllTurns p seat scripts groups
      → map id_of (map line_of (flat_turns groups)) ≡ ids_of seat scripts
  all_ids seat [] [] h = refl
  all_ids seat [] (turns ∷ groups) h = absurd h
  all_ids seat (script ∷ scripts) [] h = absurd h
  all_ids seat (script ∷ scripts) (turns ∷ groups) h =
      let own = seat_ids seat 1 p.base _ script turns (commits_of seat p.entries) h.0 in
      let rest = all_ids (suc seat) scripts groups h.1 in
      ap (map id_of) (map-append line_of turns (flat_turns groups))
      ∙ map-append id_of (map line_of turns) (map line_of (flat_turns groups))
      ∙ (λ i. own i ++ rest i)

  -- each line of all stands in the history, where these scripts are the last of all
  stand_from : (scripts front back : List (List Command)) (groups : List (List LineAndSplit)) → scripts ≡ front ++ back → AllTurns p (length front) back groups
      → All (GrowStandsIn p scripts) (map line_of (flat_turns groups))
  stand_from scripts front [] [] full h = All-nil _
  stand_from scripts front [] (turns ∷ groups) full h = absurd h
  stand_from scripts front (script ∷ back) [] full h = absurd h
  stand_from scripts front (script ∷ back) (turns ∷ groups) full h =
      let is : slice_index_or scripts (length front) [] ≡ script =
      ap (λ (all : List (List Command)). slice_index_or all (length front) []) full ∙ get_or-append_seam front script back [] in
      let long : suc (length front) ≡ length (front ++ script ∷ []) = sym (length-append front (script ∷ []) ∙ add-one (length front)) in
      subst (All (GrowStandsIn p scripts)) (sym (map-append line_of turns (flat_turns groups)))
      (All-append (GrowStandsIn p scripts) (map line_of turns) (map line_of (flat_turns groups))
      (seat_stands scripts (length front) p.base _ [] script turns (commits_of (length front) p.entries) is h.0)
      (stand_from scripts (front ++ script ∷ []) back groups (full ∙ sym (append_assoc front (script ∷ []) back)) (rw long at h.1)))

  pub all_stand : (scripts : List (List Command)) (groups : List (List LineAndSplit)) → AllTurns p 0 scripts groups
      → All (GrowStandsIn p scripts) (map line_of (flat_turns groups))
  all_stand scripts groups h = stand_from scripts [] scripts groups refl h

  -- the turns of all are steps
  pub all_steps : (seat : ℕ) (scripts : List (List Command)) (groups : List (List LineAndSplit)) → AllTurns p seat scripts groups
      → AllSteps p seat (map (λ turns. flat_map turn_steps turns) groups)
  all_steps seat [] [] h = tt
  all_steps seat [] (turns ∷ groups) h = absurd h
  all_steps seat (script ∷ scripts) [] h = absurd h
  all_steps seat (script ∷ scripts) (turns ∷ groups) h =
      (seat_steps p seat _ script turns (commits_of seat p.entries) h.0, all_steps (suc seat) scripts groups h.1)

  pub groups_count : (seat : ℕ) (scripts : List (List Command)) (groups : List (List LineAndSplit)) → AllTurns p seat scripts groups
      → length (map (λ turns. flat_map turn_steps turns) groups) ≡ length scripts
  groups_count seat [] [] h = refl
  groups_count seat [] (turns ∷ groups) h = absurd h
  groups_count seat (script ∷ scripts) [] h = absurd h
  groups_count seat (script ∷ scripts) (turns ∷ groups) h = ap (λ n. suc n) (groups_count (suc seat) scripts groups h.1)

-- and the steps of all are those of all turns
pub steps_flat : (groups : List (List LineAndSplit)) → flat (map (λ turns. flat_map turn_steps turns) groups) ≡ flat_map turn_steps (flat_turns groups)
steps_flat [] = refl
steps_flat (turns ∷ groups) = ap (λ ls. flat_map turn_steps turns ++ ls) (steps_flat groups) ∙ sym (flat_map-append turn_steps turns (flat_turns groups))
