-- A run of scripts of blocks in one history: where each block stands in it, and what the tables count of it.
use Rattle.std.specs.Prelude.{◌≡◌, ℕ, suc, ◌+◌, List, length, All, Some, slice_get, count_by}
use Rattle.std.specs.Option.{IsSomeAnd}
use Rattle.std.specs.List.{flat_map}
use Rattle.std.specs.List.Sorted.{IsPermutation}
use Rattle.mv_history.specs.declared.answers.LogTable.{LogTable}
use Rattle.mv_history.specs.declared.history.Commit.{Commit}
use Rattle.mv_history.specs.declared.history.Entry.TheVariants.{Change}
use Rattle.mv_history.specs.State.{state_after}
use Rattle.mv_history.specs.Legal.{IsLegal, IsAllowed}
use Rattle.set_model.specs.Catalogue.{Maps}
use Rattle.set_model.specs.CatalogueOf.{catalogue_of}
use Rattle.set_model.specs.Lawful.{IsOpening}
use Rattle.set_model.specs.Rules.{capacity}
use Rattle.set_model.specs.declared.commands.Command.{Command}
use Rattle.set_blocks.specs.BlockRules.{IsBlockCommit}
use Rattle.run_report.specs.declared.line.Line.{Line}
use Rattle.run_report.specs.Worked.{Past}
use Rattle.run_report.specs.Whole.{IsTableOf, is_commit_of}
use Rattle.script_workers.specs.Lines.{DoneBlock, lines_of}
use Rattle.script_workers.specs.BlockRuns.{BlockPlaceOf}
use Rattle.block_domain.specs.Legal.{LegalBlocks, block_of}

-- The block has its place and its replies in the history: a commit is the entry of its time, by the block's seat and with the tag of a
-- block of so many commands, and replies and changes what the block does in the state just before it; a read has the block's replies
-- in the state of its time, where the block changes nothing.
abbrev pub BlockStandsIn : Past → List (List (List Command)) → DoneBlock → Type 0
BlockStandsIn p scripts d = IsSomeAnd (block_of scripts d)
    (λ block. (commits : List Commit) × BlockPlaceOf p d.seat block d.place d.answers commits)

-- how many blocks are commits of this printed time
abbrev pub commit_blocks : ℕ → List DoneBlock → ℕ
commit_blocks time blocks = count_by (λ (d : DoneBlock). is_commit_of time d.place) blocks

-- each commit of the history has exactly one block
abbrev pub EachHasOneBlock : Past → List DoneBlock → Type 0
EachHasOneBlock p blocks = (i : ℕ) (c : Commit) → slice_get p.entries i ≡ Some (Change c) → commit_blocks (p.base + suc i) blocks ≡ 1

-- The lines and the tables are those of a run of the scripts of blocks, one for each seat, whose commits make this one history and
-- leave these maps.
pub record BlocksRunOf (p : Past) (scripts : List (List (List Command))) (lines : List Line) (end : Maps) (tables : List LogTable) : Type 0 where
  -- the history begins with objects that are all zero, it is legal, and each of its commits is one that blocks make
  pub opening : IsOpening p.start
  pub legal : IsLegal (length p.start) p.entries
  pub allowed : IsAllowed IsBlockCommit p.start p.entries
  -- the lines are those of these blocks, each of which stands in the history, and each commit of the history has exactly one of them
  pub blocks : List DoneBlock
  pub lines_are : IsPermutation lines (flat_map lines_of blocks)
  pub stand : All (BlockStandsIn p scripts) blocks
  pub one_block : EachHasOneBlock p blocks
  -- the maps are those of the state after the whole history
  pub end_is : end ≡ catalogue_of (state_after p.start p.entries)
  -- there is a table for each script, in order, and it counts what that seat did
  pub table_each : length tables ≡ length scripts
  pub table_of : (seat : ℕ) (table : LogTable) → slice_get tables seat ≡ Some table → IsTableOf p.entries seat table
  -- each command has exactly one line, and the replay of the blocks gives every reply and ends in the maps
  pub run : LegalBlocks scripts lines p.base (capacity p.start) end
