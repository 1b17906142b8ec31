-- The turns of one seat as steps in a history: each line, and each split, at its place, one after another.
use Rattle.std.proofs.Common.{◌≡◌, ℕ, suc, ◌*◌, ◌≤◌, ◌&&◌, Bool, true, false, List, [], ◌∷◌, ◌++◌}
use Rattle.std.proofs.Common.{Option, Some, None, refl, arith}
use Rattle.std.specs.List.{flat_map}
use Rattle.mv_history.specs.declared.history.Commit.{Commit}
use Rattle.set_model.specs.declared.commands.Command.{Command}
use Rattle.section_work.specs.declared.place.Place.{Place}
use Rattle.section_work.specs.declared.place.Place.TheVariants.{Commit as AtCommit, Read}
use Rattle.set_model.specs.declared.commands.Reply.{Reply}
use Rattle.set_model.specs.declared.commands.Reply.TheVariants.{Yes}
use Rattle.run_report.specs.declared.line.Line.{Line}
use Rattle.run_report.specs.Order.{time_of}
use Rattle.run_report.specs.Worked.{Past}
use Rattle.run_report.proofs.history.Steps.{IsPlaced, StepsOf}
use Rattle.grow_report.specs.Turns.{GrowPlaceOf, IsAhead, SplitIf, LineAndSplit, TurnsOf, first_place, is_added, odd_with}

-- a line as a step; its number leaves one for the split behind it
abbrev pub line_step : Line → Line
line_step line = record { seat = line.seat; number = 2 * line.number; place = line.place; reply = line.reply }

-- the split behind a line as a step, where there is one
abbrev pub split_steps : Line → Option ℕ → List Line
split_steps line None = []
split_steps line (Some time) = record { seat = line.seat; number = suc (2 * line.number); place = AtCommit time; reply = Yes } ∷ []

-- the steps of a turn
abbrev pub turn_steps : LineAndSplit → List Line
turn_steps turn = line_step turn.line ∷ split_steps turn.line turn.split

module _ (p : Past) (seat : ℕ) where
  line_placed : (command : Command) (place : Place) (answer : Reply) (commits : List Commit) → GrowPlaceOf p seat command place answer commits
      → IsPlaced p seat place commits
  line_placed command (AtCommit time) answer commits h = (h.0, h.1, h.2.later, h.2.there, h.2.seat_is)
  line_placed command (Read time) answer commits h = h.0

  -- steps of this number or a later one are steps of an earlier one or a later one
  steps_sooner : (early late before : ℕ) (lines : List Line) (commits : List Commit) → early ≤ late → StepsOf p seat late before lines commits
      → StepsOf p seat early before lines commits
  steps_sooner early late before [] commits le h = h
  steps_sooner early late before (line ∷ lines) commits le h = (
    h.0,
    h.1,
    h.2,
    record { by = h.3.by; from = omega (arith, le, h.3.from); follows = h.3.follows; placed = h.3.placed },
    h.4,
  )

  -- they follow a split that is ahead of the first of them
  steps_behind : (number before time : ℕ) (turns : List LineAndSplit) (commits : List Commit) → IsAhead (first_place turns) time
      → StepsOf p seat number before (flat_map turn_steps turns) commits → StepsOf p seat number time (flat_map turn_steps turns) commits
  steps_behind number before time [] commits ahead h = h
  steps_behind number before time (turn ∷ turns) commits ahead h = (
    h.0,
    h.1,
    h.2,
    record { by = h.3.by; from = h.3.from; follows = ahead; placed = h.3.placed },
    h.4,
  )

  -- the steps behind a line: its split, if there is one, and those of the other turns
  behind_line : (due : Bool) (line : Line) (split : Option ℕ) (turns : List LineAndSplit) (made others : List Commit) → line.seat ≡ seat
      → SplitIf due p seat (time_of line.place) (first_place turns) split made
      → StepsOf p seat (2 * suc line.number) (time_of line.place) (flat_map turn_steps turns) others
      → StepsOf p seat (suc (2 * line.number)) (time_of line.place) (split_steps line split ++ flat_map turn_steps turns) (made ++ others)
  behind_line true line None turns made others by h rest =
      rw h.0 (steps_sooner (suc (2 * line.number)) (2 * suc line.number) (time_of line.place) (flat_map turn_steps turns) others (omega arith) rest)
  behind_line false line None turns made others by h rest =
      rw h.1 (steps_sooner (suc (2 * line.number)) (2 * suc line.number) (time_of line.place) (flat_map turn_steps turns) others (omega arith) rest)
  behind_line true line (Some time) turns made others by h rest = (
    made,
    others,
    refl,
    record {
      by = by;
      from = omega arith;
      follows = h.2;
      placed = (h.0, h.1, h.4.later, h.4.there, h.4.seat_is);
    },
    steps_behind (suc (suc (2 * line.number))) (time_of line.place) time turns others h.3
        (steps_sooner (suc (suc (2 * line.number))) (2 * suc line.number) (time_of line.place) (flat_map turn_steps turns) others (omega arith) rest),
  )
  behind_line false line (Some time) turns made others by h rest = absurd (let none = h.0 in cc)

  pub turns_steps : (number before : ℕ) (odd : Bool) (script : List Command) (turns : List LineAndSplit) (commits : List Commit)
      → TurnsOf p seat number before odd script turns commits → StepsOf p seat (2 * number) before (flat_map turn_steps turns) commits
  turns_steps number before odd [] [] commits h = h
  turns_steps number before odd [] (turn ∷ turns) commits h = absurd h
  turns_steps number before odd (command ∷ script) [] commits h = absurd h
  turns_steps number before odd (command ∷ script) (turn ∷ turns) commits h =
      let here = h.4 in
      let line : Line = turn.line in
      let same : 2 * suc line.number ≡ 2 * suc number = omega (arith, here.numbered) in
      let rest = turns_steps (suc number) (time_of line.place) (odd_with odd (is_added command line.reply)) script turns h.2 h.6 in (
        h.0,
        h.1 ++ h.2,
        h.3,
        record {
          by = here.by;
          from = omega (arith, here.numbered);
          follows = here.follows;
          placed = line_placed command line.place line.reply h.0 here.place;
        },
        behind_line (odd && is_added command line.reply) line turn.split turns h.1 h.2 here.by h.5 (rw same rest),
      )

  pub seat_steps : (odd : Bool) (script : List Command) (turns : List LineAndSplit) (commits : List Commit)
      → TurnsOf p seat 1 p.base odd script turns commits → StepsOf p seat 1 p.base (flat_map turn_steps turns) commits
  seat_steps odd script turns commits h =
      steps_sooner 1 2 p.base (flat_map turn_steps turns) commits (omega arith) (turns_steps 1 p.base odd script turns commits h)
