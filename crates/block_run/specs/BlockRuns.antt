-- Runs of scripts of blocks on the sets, each by a seat of its own, and their texts.
use Rattle.std.specs.Prelude.{ℕ, List, length, Option}
use Rattle.block_domain.specs.Whole.{BlocksRunOf}
use Rattle.script_files.specs.block_parser.BlockGrammar.{parsed_blocks}
use Rattle.script_workers.specs.Links.{AllLinkedBlocks}
use Rattle.run_kinds.specs.domain_loan.Shown.{handle_causes}
use Rattle.mv_history.specs.Meaning.{Seat}
use Rattle.run_kinds.specs.mvrlu.declared.closing.Closing.{Closing}
use Rattle.run_kinds.specs.Kinds.{IsTextOfRead, Kind, config_of, kind_along, usual_options}
use Rattle.host_io.specs.Outside.{Texts}
use Rattle.run_report.specs.declared.line.Line.{Line}
use Rattle.run_report.specs.Text.{text_of_run}
use Rattle.run_words.specs.declared.request.Options.{Options}
use Rattle.script_files.specs.Scripts.{AllScripts}
use Rattle.script_files.specs.set_blocks.BlockRules.{IsBlockCommit}
use Rattle.script_files.specs.set_blocks.declared.rules.BlockRules.{BlockRules}
use Rattle.set_model.specs.Catalogue.{Maps}
use Rattle.set_model.specs.Lawful.{IsOpening}
use Rattle.set_model.specs.declared.commands.Command.{Command}

-- the chains of blocks that each seat did in turn, by the lines of one seat after those of another
abbrev pub block_chain_of : List (List (List Command)) → List Seat → List Seat → List Line → Type 0
block_chain_of scripts olds news own = AllLinkedBlocks (handle_causes IsOpening IsBlockCommit) olds news scripts own

-- scripts of blocks, each by a seat of its own, on the sets
abbrev pub block_runs : Options → List (List (List Command)) → Kind Maps
block_runs options scripts =
    kind_along IsBlockCommit (block_chain_of scripts) (config_of options 64 (length scripts)) (λ past. BlocksRunOf past scripts) text_of_run

-- the text of such a run of the scripts of these files
abbrev pub IsTextOfBlocks : Option Texts → List (List ℕ) → Closing BlockRules → List ℕ → Type 0
IsTextOfBlocks texts names = IsTextOfRead (AllScripts parsed_blocks texts names) (block_runs usual_options)
