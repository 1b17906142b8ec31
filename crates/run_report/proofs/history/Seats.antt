-- The lines of one seat's script: what they are numbered, and that they stand in the history.
use Rattle.std.proofs.Common.{◌≡◌, ℕ, suc, List, [], ◌∷◌, ◌++◌, length, map, Some, refl, sym, ap, ◌∙◌, add-one, length-append}
use Rattle.std.proofs.Common.{append_assoc}
use Rattle.std.specs.List.{All, slice_get, slice_index_or}
use Rattle.std.proofs.lemmas.List.Elements.{All-nil, All-cons}
use Rattle.mv_history.specs.declared.history.Commit.{Commit}
use Rattle.set_model.specs.declared.commands.Command.{Command}
use Rattle.run_report.specs.declared.line.Line.{Line}
use Rattle.run_report.specs.Order.{time_of}
use Rattle.run_report.specs.Legal.{id_of, ids_from, command_of}
use Rattle.run_report.specs.Worked.{Past, LinesOf}
use Rattle.run_report.specs.Whole.{StandsIn}

-- the lines are numbered as the commands are
pub seat_ids : (p : Past) (seat number before : ℕ) (script : List Command) (lines : List Line) (commits : List Commit)
    → LinesOf p seat number before script lines commits → map id_of lines ≡ ids_from seat number script
seat_ids p seat number before [] [] commits h = refl
seat_ids p seat number before [] (line ∷ lines) commits h = absurd h
seat_ids p seat number before (command ∷ script) [] commits h = absurd h
seat_ids p seat number before (command ∷ script) (line ∷ lines) commits h =
    let here = h.3 in
    rw (here.by, here.numbered) (ap (λ ids. (seat, number) ∷ ids) (seat_ids p seat (suc number) (time_of line.place) script lines h.1 h.4))

command_there : (done script : List Command) (command : Command) → slice_get (done ++ command ∷ script) (length done) ≡ Some command
command_there [] script command = refl
command_there (first ∷ done) script command = command_there done script command

-- each line stands in the history, where the commands left are those of the seat's script after these
pub seat_stands : (p : Past) (scripts : List (List Command)) (seat before : ℕ) (done script : List Command) (lines : List Line) (commits : List Commit)
    → slice_index_or scripts seat [] ≡ done ++ script → LinesOf p seat (suc (length done)) before script lines commits → All (StandsIn p scripts) lines
seat_stands p scripts seat before done [] [] commits full h = All-nil _
seat_stands p scripts seat before done [] (line ∷ lines) commits full h = absurd h
seat_stands p scripts seat before done (command ∷ script) [] commits full h = absurd h
seat_stands p scripts seat before done (command ∷ script) (line ∷ lines) commits full h =
    let here = h.3 in
    let is : command_of scripts line ≡ Some command = rw (here.by, here.numbered, full) (command_there done script command) in
    let long : suc (length done) ≡ length (done ++ command ∷ []) = sym (length-append done (command ∷ []) ∙ add-one (length done)) in
    All-cons (StandsIn p scripts) line lines
    (rw is (h.0, rw here.by here.place))
    (seat_stands p scripts seat (time_of line.place) (done ++ command ∷ []) script lines h.1 (full ∙ sym (append_assoc done (command ∷ []) script))
    (rw long at h.4))
