-- Runs of the commands of one script by a pool of seats, and their texts.
use Rattle.std.specs.Prelude.{ℕ, List, [], ◌∷◌, Option}
use Rattle.command_pool.specs.Pool.{PoolLinked}
use Rattle.run_kinds.specs.domain_loan.Shown.{handle_causes}
use Rattle.mv_history.specs.Meaning.{Seat}
use Rattle.run_kinds.specs.mvrlu.declared.closing.Closing.{Closing}
use Rattle.pool_domain.specs.Whole.{PoolOf}
use Rattle.run_kinds.specs.Kinds.{IsTextOfRead, Kind, config_of, kind_along, usual_options}
use Rattle.host_io.specs.Outside.{Texts}
use Rattle.run_report.specs.declared.line.Line.{Line}
use Rattle.run_report.specs.Text.{text_of_run}
use Rattle.run_words.specs.declared.request.Options.{Options}
use Rattle.script_files.specs.Scripts.{AllScripts}
use Rattle.script_parser.specs.Grammar.{parsed}
use Rattle.set_model.specs.Catalogue.{Maps}
use Rattle.set_model.specs.Lawful.{IsOpening}
use Rattle.set_model.specs.Rules.{IsSetCommit}
use Rattle.set_model.specs.declared.commands.Command.{Command}
use Rattle.set_model.specs.declared.rules.SetRules.{SetRules}

-- the chains of commands that each seat of a pool took, by the lines of one seat after those of another
abbrev pub pool_chain_of : List Command → List Seat → List Seat → List Line → Type 0
pool_chain_of script olds news own = PoolLinked (handle_causes IsOpening IsSetCommit) olds news script own

-- the commands of one script, by whichever of so many seats takes the next, on the sets
abbrev pub pool_runs : Options → ℕ → List Command → Kind Maps
pool_runs options seats script =
    kind_along IsSetCommit (pool_chain_of script) (config_of options 16 seats) (λ past. PoolOf past seats script) text_of_run

-- the text of such a run of the script of this file
abbrev pub IsTextOfPool : ℕ → Option Texts → List (List ℕ) → Closing SetRules → List ℕ → Type 0
IsTextOfPool seats texts names = IsTextOfRead (λ script. AllScripts parsed texts names (script ∷ [])) (pool_runs usual_options seats)
