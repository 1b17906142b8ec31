-- A run of scripts on a growing hash set in one history: where each line and each split stands in it, and what the tables count of it.
use Rattle.std.specs.Prelude.{◌≡◌, ℕ, suc, ◌+◌, Bool, true, false, cond, List, [], ◌∷◌, length, map, All, Option, Some}
use Rattle.std.specs.Prelude.{None, slice_get, count_by, ⊤}
use Rattle.std.specs.Option.{IsSomeAnd}
use Rattle.std.specs.List.{flat_map}
use Rattle.std.specs.List.Sorted.{IsPermutation}
use Rattle.mv_history.specs.declared.answers.LogTable.{LogTable}
use Rattle.mv_history.specs.declared.history.Commit.{Commit}
use Rattle.mv_history.specs.declared.history.Entry.TheVariants.{Change}
use Rattle.mv_history.specs.State.{state_after, commits_of}
use Rattle.mv_history.specs.Legal.{IsLegal, IsAllowed}
use Rattle.set_model.specs.Catalogue.{Maps}
use Rattle.set_model.specs.declared.commands.Command.{Command}
use Rattle.run_report.specs.declared.line.Line.{Line}
use Rattle.run_report.specs.Legal.{LegalRun, command_of}
use Rattle.run_report.specs.Whole.{IsTableOf, commit_lines}
use Rattle.run_report.specs.Worked.{Past}
use Rattle.grow_hash.specs.Tables.{grow_levels, buckets}
use Rattle.grow_hash.specs.Grown.{IsGrown, IsGrownOpening, grown_catalogue, grown_capacity}
use Rattle.grow_hash.specs.GrowRules.{IsGrowCommit, growing_of}
use Rattle.grow_hash.specs.Splits.{is_splitting, count_splits}
use Rattle.grow_report.specs.Turns.{GrowPlaceOf, LineAndSplit, TurnsOf, line_of}

-- The line's command has the line's place and reply in the history: a commit is the entry of its time, by the line's seat and with the
-- command's tag, and replies and changes what the command does in the state just before it; a read has its reply in the state of its
-- time, where it has nothing to change.
abbrev pub GrowStandsIn : Past → List (List Command) → Line → Type 0
GrowStandsIn p scripts line = IsSomeAnd (command_of scripts line)
    (λ command. (commits : List Commit) × GrowPlaceOf p line.seat command line.place line.reply commits)

-- each commit of the history has exactly one line, or is a split and has none
abbrev pub EachHasOneLineOrSplits : Past → List Line → Type 0
EachHasOneLineOrSplits p lines = (i : ℕ) (c : Commit) → slice_get p.entries i ≡ Some (Change c)
    → commit_lines (p.base + suc i) lines ≡ cond (is_splitting (growing_of c.tag)) 0 1

-- whether a turn made a split
abbrev pub has_split : Option ℕ → Bool
has_split None = false
has_split (Some time) = true

-- how many splits turns made
abbrev pub turn_splits : List LineAndSplit → ℕ
turn_splits turns = count_by (λ (turn : LineAndSplit). has_split turn.split) turns

-- Each seat's turns, the first of them those of this seat, are of its script, from the opening state on, and their commits are all that
-- the seat has in the history.
abbrev pub AllTurns : Past → ℕ → List (List Command) → List (List LineAndSplit) → Type 0
AllTurns p seat [] [] = ⊤
AllTurns p seat [] (turns ∷ groups) = ⊥
AllTurns p seat (script ∷ scripts) [] = ⊥
AllTurns p seat (script ∷ scripts) (turns ∷ groups) =
    TurnsOf p seat 1 p.base false script turns (commits_of seat p.entries) × AllTurns p (suc seat) scripts groups

-- the turns of all seats
abbrev pub flat_turns : List (List LineAndSplit) → List LineAndSplit
flat_turns groups = flat_map (λ turns. turns) groups

-- The lines and the tables are those of a run of the scripts, one for each seat, whose commits make this one history and leave these maps,
-- with so many splits.
pub record GrowRunOf (p : Past) (scripts : List (List Command)) (lines : List Line) (end : Maps) (splits : ℕ) (tables : List LogTable) : Type 0 where
  -- the history begins with objects that are all zero, it is legal, and each of its commits does what its command does, or is a split
  pub opening : IsGrownOpening grow_levels p.start
  pub legal : IsLegal (length p.start) p.entries
  pub allowed : IsAllowed (IsGrowCommit grow_levels) p.start p.entries
  -- each line stands in the history, and each commit of the history has exactly one line or is a split
  pub stand : All (GrowStandsIn p scripts) lines
  pub one_line : EachHasOneLineOrSplits p lines
  -- the lines are those of the turns of each seat, between which its splits stand where they are due
  pub turns : List (List LineAndSplit)
  pub lines_are : IsPermutation lines (map line_of (flat_turns turns))
  pub each : AllTurns p 0 scripts turns
  -- so many splits have the turns, and the history, which leaves one bucket more than the first 16 for each
  pub of_turns : splits ≡ turn_splits (flat_turns turns)
  pub of_history : splits ≡ count_splits p.entries
  pub buckets_are : buckets (state_after p.start p.entries) ≡ 16 + splits
  -- the maps are those of the state after the whole history, which is lawful
  pub lawful : IsGrown grow_levels (state_after p.start p.entries)
  pub end_is : end ≡ grown_catalogue grow_levels (state_after p.start p.entries)
  -- there is a table for each script, in order, and it counts what that seat did
  pub table_each : length tables ≡ length scripts
  pub table_of : (seat : ℕ) (table : LogTable) → slice_get tables seat ≡ Some table → IsTableOf p.entries seat table
  -- each command of each script has exactly one line, and the replay of the lines gives every reply and ends in the maps
  pub run : LegalRun scripts lines p.base (grown_capacity grow_levels p.start) end
