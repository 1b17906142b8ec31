-- Runs of scripts on a growing set, each by a seat of its own, and their texts.
use Rattle.std.specs.Prelude.{ℕ, List, length, Option}
use Rattle.run_kinds.specs.domain_loan.Shown.{handle_causes}
use Rattle.grow_hash.specs.Grown.{IsGrownOpening}
use Rattle.grow_hash.specs.GrowRules.{IsGrowCommit}
use Rattle.grow_hash.specs.Tables.{grow_levels}
use Rattle.grow_hash.specs.declared.rules.GrowRules.{GrowRules}
use Rattle.grow_report.specs.Text.{text_of_grown}
use Rattle.grow_report.specs.Whole.{GrowRunOf}
use Rattle.grow_script.specs.GrowGrammar.{parsed_grow}
use Rattle.script_workers.specs.GrowLinks.{AllLinkedTurns}
use Rattle.mv_history.specs.Meaning.{Seat}
use Rattle.run_kinds.specs.mvrlu.declared.closing.Closing.{Closing}
use Rattle.run_kinds.specs.Kinds.{IsTextOfRead, Kind, config_of, kind_along, usual_options}
use Rattle.grow_run.specs.declared.growing.GrownEnd.{GrownEnd}
use Rattle.host_io.specs.Outside.{Texts}
use Rattle.run_report.specs.declared.line.Line.{Line}
use Rattle.run_words.specs.declared.request.Options.{Options}
use Rattle.script_files.specs.Scripts.{AllScripts}
use Rattle.set_model.specs.declared.commands.Command.{Command}

-- the chains of commands on a growing set that each seat did in turn, by their lines, each with the split that was due behind it
abbrev pub grow_chain_of : List (List Command) → List Seat → List Seat → List Line → Type 0
grow_chain_of scripts olds news own = AllLinkedTurns (handle_causes (IsGrownOpening grow_levels) (IsGrowCommit grow_levels)) olds news scripts own

-- scripts, each by a seat of its own, on a growing set
abbrev pub grow_runs : Options → List (List Command) → Kind GrownEnd
grow_runs options scripts =
    kind_along (IsGrowCommit grow_levels) (grow_chain_of scripts) (config_of options 64 (length scripts))
    (λ past lines end. GrowRunOf past scripts lines end.set end.splits) (λ lines end. text_of_grown lines end.set end.splits)

-- the text of such a run of the scripts of these files
abbrev pub IsTextOfGrown : Option Texts → List (List ℕ) → Closing (GrowRules grow_levels) → List ℕ → Type 0
IsTextOfGrown texts names = IsTextOfRead (AllScripts parsed_grow texts names) (grow_runs usual_options)
