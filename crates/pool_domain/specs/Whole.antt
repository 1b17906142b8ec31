-- A pool in one history: where each line stands in it, and what the tables count of it.
use Rattle.std.specs.Prelude.{◌≡◌, ℕ, List, length, All, Some, slice_get}
use Rattle.std.specs.Option.{IsSomeAnd}
use Rattle.mv_history.specs.declared.answers.LogTable.{LogTable}
use Rattle.mv_history.specs.declared.history.Commit.{Commit}
use Rattle.mv_history.specs.State.{state_after}
use Rattle.mv_history.specs.Legal.{IsLegal, IsAllowed}
use Rattle.set_model.specs.Catalogue.{Maps}
use Rattle.set_model.specs.CatalogueOf.{catalogue_of}
use Rattle.set_model.specs.Lawful.{IsOpening}
use Rattle.set_model.specs.Rules.{capacity, IsSetCommit}
use Rattle.set_model.specs.declared.commands.Command.{Command}
use Rattle.run_report.specs.declared.line.Line.{Line}
use Rattle.run_report.specs.Legal.{command_at}
use Rattle.run_report.specs.Worked.{Past, PlaceOf}
use Rattle.run_report.specs.Whole.{EachHasOneLine, IsTableOf}
use Rattle.pool_domain.specs.Legal.{LegalPool}

-- The command of the line's number has the line's place and reply in the history: a commit is the entry of its time, by the
-- line's seat and with the command's tag, and a read has its reply in the state of its time, where it has nothing to change.
abbrev pub StandsInPool : Past → List Command → Line → Type 0
StandsInPool p commands line = IsSomeAnd (command_at commands line.number)
    (λ command. (commits : List Commit) × PlaceOf p line.seat command line.place line.reply commits)

-- The lines and the tables are those of a pool of so many seats over the commands, whose commits make this one history and
-- leave these maps.
pub record PoolOf (p : Past) (seats : ℕ) (commands : List Command) (lines : List Line) (end : Maps) (tables : List LogTable) : Type 0 where
  -- the history begins with objects that are all zero, it is legal, and each of its commits does what its command does
  pub opening : IsOpening p.start
  pub legal : IsLegal (length p.start) p.entries
  pub allowed : IsAllowed IsSetCommit p.start p.entries
  -- each line stands in the history, and each commit of the history has exactly one line
  pub stand : All (StandsInPool p commands) lines
  pub one_line : EachHasOneLine p lines
  -- the maps are those of the state after the whole history
  pub end_is : end ≡ catalogue_of (state_after p.start p.entries)
  -- there is a table for each seat, in order, and it counts what that seat did
  pub table_each : length tables ≡ seats
  pub table_of : (seat : ℕ) (table : LogTable) → slice_get tables seat ≡ Some table → IsTableOf p.entries seat table
  -- each command has exactly one line, and the replay of the lines gives every reply and ends in the maps
  pub run : LegalPool seats commands lines p.base (capacity p.start) end
