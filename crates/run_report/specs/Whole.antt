-- A run of scripts in one history: where each line stands in it, and what the tables count of it.
use Rattle.std.specs.Prelude.{◌≡◌, ℕ, suc, ◌+◌, ◌≤◌, ◌==◌, Bool, false, List, length, All, Some, slice_get, count_by, sum_by}
use Rattle.std.specs.Option.{IsSomeAnd}
use Rattle.mv_history.specs.declared.answers.LogTable.{LogTable}
use Rattle.mv_history.specs.declared.history.Commit.{Commit}
use Rattle.mv_history.specs.declared.history.Entry.{Entry}
use Rattle.mv_history.specs.declared.history.Entry.TheVariants.{Change}
use Rattle.mv_history.specs.State.{state_after, commits_of, rests_of}
use Rattle.mv_history.specs.Legal.{IsLegal, IsAllowed}
use Rattle.set_model.specs.Catalogue.{Maps}
use Rattle.set_model.specs.CatalogueOf.{catalogue_of}
use Rattle.set_model.specs.Lawful.{IsOpening}
use Rattle.set_model.specs.Rules.{capacity, IsSetCommit}
use Rattle.set_model.specs.declared.commands.Command.{Command}
use Rattle.section_work.specs.declared.place.Place.{Place}
use Rattle.section_work.specs.declared.place.Place.TheVariants.{Commit as AtCommit, Read}
use Rattle.run_report.specs.declared.line.Line.{Line}
use Rattle.run_report.specs.Legal.{LegalRun, command_of}
use Rattle.run_report.specs.Worked.{Past, PlaceOf}

-- The line's command has the line's place and reply in the history: a commit is the entry of its time, by the line's seat and
-- with the command's tag, and a read has its reply in the state of its time, where it has nothing to change.
abbrev pub StandsIn : Past → List (List Command) → Line → Type 0
StandsIn p scripts line = IsSomeAnd (command_of scripts line)
    (λ command. (commits : List Commit) × PlaceOf p line.seat command line.place line.reply commits)

-- whether a place is the commit of this printed time
abbrev pub is_commit_of : ℕ → Place → Bool
is_commit_of at (AtCommit time) = time == at
is_commit_of at (Read time) = false

-- how many lines are commits of this printed time
abbrev pub commit_lines : ℕ → List Line → ℕ
commit_lines time lines = count_by (λ (line : Line). is_commit_of time line.place) lines

-- each commit of the history has exactly one line
abbrev pub EachHasOneLine : Past → List Line → Type 0
EachHasOneLine p lines = (i : ℕ) (c : Commit) → slice_get p.entries i ≡ Some (Change c) → commit_lines (p.base + suc i) lines ≡ 1

-- how many objects the commits write, each counted once for each commit
abbrev pub writes_in : List Commit → ℕ
writes_in commits = sum_by (λ (c : Commit). length c.writes) commits

-- The table of the seat's log counts the seat's commits and rests in the history. The versions that are live or were freed are
-- those of its commits' writes, and others only where a section of it was aborted: so much a history tells. Of a run over a domain
-- each count is that of the trail of a seat that met (`AreTablesOf` of `domain_loan`).
pub record IsTableOf (entries : List Entry) (seat : ℕ) (table : LogTable) : Type 0 where
  pub commits : table.commits ≡ length (commits_of seat entries)
  pub rests : table.rests ≡ rests_of seat entries
  pub used : writes_in (commits_of seat entries) ≤ table.live + table.freed
  pub all_used : table.aborts ≡ 0 → table.live + table.freed ≡ writes_in (commits_of seat entries)

-- The lines and the tables are those of a run of the scripts, one for each seat, whose commits make this one history and
-- leave these maps.
pub record RunOf (p : Past) (scripts : List (List Command)) (lines : List Line) (end : Maps) (tables : List LogTable) : Type 0 where
  -- the history begins with objects that are all zero, it is legal, and each of its commits does what its command does
  pub opening : IsOpening p.start
  pub legal : IsLegal (length p.start) p.entries
  pub allowed : IsAllowed IsSetCommit p.start p.entries
  -- each line stands in the history, and each commit of the history has exactly one line
  pub stand : All (StandsIn p scripts) lines
  pub one_line : EachHasOneLine p lines
  -- the maps are those of the state after the whole history
  pub end_is : end ≡ catalogue_of (state_after p.start p.entries)
  -- there is a table for each script, in order, and it counts what that seat did
  pub table_each : length tables ≡ length scripts
  pub table_of : (seat : ℕ) (table : LogTable) → slice_get tables seat ≡ Some table → IsTableOf p.entries seat table
  -- each command of each script has exactly one line, and the replay of the lines gives every reply and ends in the maps
  pub run : LegalRun scripts lines p.base (capacity p.start) end
