-- Runs of scripts on the sets, each by a seat of its own, and their texts.
use Rattle.std.specs.Prelude.{◌≡◌, ℕ, List, length, Option}
use Rattle.run_kinds.specs.domain_loan.Shown.{handle_causes}
use Rattle.generated_runs.specs.OneAfterAnother.{NoneIsWorn, one_after_another, scripts_of, text_of_tally}
use Rattle.mv_history.specs.declared.answers.LogTable.{LogTable}
use Rattle.mv_history.specs.Meaning.{Seat}
use Rattle.run_kinds.specs.mvrlu.declared.closing.Closing.{Closing}
use Rattle.run_kinds.specs.Kinds.{IsTextOf, IsTextOfRead, Kind, config_of, kind_along}
use Rattle.host_io.specs.Outside.{Texts}
use Rattle.run_report.specs.declared.line.Line.{Line}
use Rattle.run_report.specs.Summary.{summary}
use Rattle.run_report.specs.Text.{text_of_run}
use Rattle.run_report.specs.Whole.{RunOf}
use Rattle.run_words.specs.declared.request.Options.{Options}
use Rattle.script_files.specs.Scripts.{AllScripts}
use Rattle.script_parser.specs.Grammar.{parsed}
use Rattle.script_workers.specs.Links.{AllLinked}
use Rattle.set_model.specs.Catalogue.{Maps}
use Rattle.set_model.specs.Lawful.{IsOpening}
use Rattle.set_model.specs.Rules.{IsSetCommit}
use Rattle.set_model.specs.declared.commands.Command.{Command}
use Rattle.set_model.specs.declared.rules.SetRules.{SetRules}

-- the chains of commands that each seat did in turn, by the lines of one seat after those of another
abbrev pub chain_of : List (List Command) → List Seat → List Seat → List Line → Type 0
chain_of scripts olds news own = AllLinked (handle_causes IsOpening IsSetCommit) olds news scripts own

-- scripts, each by a seat of its own, on the sets, with such a text
abbrev pub runs_with : (List Line → Maps → List LogTable → List ℕ) → Options → List (List Command) → Kind Maps
runs_with text_of options scripts =
    kind_along IsSetCommit (chain_of scripts) (config_of options 16 (length scripts)) (λ past. RunOf past scripts) text_of

-- and with the text that has all lines
abbrev pub runs : Options → List (List Command) → Kind Maps
runs = runs_with text_of_run

-- the text of a run of the scripts of these files
abbrev pub IsTextOfScripts : Options → Option Texts → List (List ℕ) → Closing SetRules → List ℕ → Type 0
IsTextOfScripts options texts names = IsTextOfRead (AllScripts parsed texts names) (runs options)

-- the numbers of the run of generated scripts
abbrev pub work_options : Options
work_options = record { objects = 16384; slots = 1024; base = 0 }

-- the four generated scripts of a number, likewise: their text is a summary
abbrev pub works : ℕ → Kind Maps
works number = runs_with (λ lines end tables. summary number lines end) work_options (scripts_of number)

-- the nodes that a run of generated scripts has for keys
abbrev pub work_room : ℕ
work_room = 16204

-- The summary of a run of the four generated scripts of a number. Where no reply is worn, it is the summary of these scripts
-- replayed one after another, and so a function of the number alone.
pub record IsTextOfWork (number : ℕ) (closing : Closing SetRules) (text : List ℕ) : Type 0 where
  pub printed : IsTextOf (works number) closing text
  pub replayed : NoneIsWorn printed.lines → text ≡ text_of_tally number (one_after_another work_room (scripts_of number))
