-- When the lines of scripts of blocks are legal: each command has its line, the lines of a block have one place, and the replay of the
-- blocks from empty maps gives every reply.
use Rattle.std.specs.Prelude.{
  ◌≡◌,
  ℕ,
  ◌+◌,
  ◌<◌,
  ◌==◌,
  nat_lt,
  true,
  false,
  IsTrue,
  if◌then◌else◌,
  List,
  [],
  ◌∷◌,
  length,
  map,
  All,
  Option,
  None,
  Some,
  slice_index_or,
}
use Rattle.std.specs.Option.{IsSomeAnd}
use Rattle.std.specs.List.{flat_map}
use Rattle.std.specs.List.Sorted.{IsPermutation}
use Rattle.set_model.specs.Catalogue.{Maps, empty}
use Rattle.set_model.specs.declared.commands.Command.{Command}
use Rattle.section_work.specs.declared.place.Place.{Place}
use Rattle.section_work.specs.declared.place.Place.TheVariants.{Commit, Read}
use Rattle.set_model.specs.declared.commands.Reply.TheVariants.{No}
use Rattle.set_blocks.specs.BlockReplies.{block_replies, block_changes, block_next}
use Rattle.run_report.specs.declared.line.Line.{Line}
use Rattle.run_report.specs.Order.{time_of, IsOrdered}
use Rattle.run_report.specs.Legal.{EachPair, Follows, id_of, ids_of, is_commit, is_last}
use Rattle.script_workers.specs.Lines.{DoneBlock, lines_of}

-- the commands of a script, block after block
abbrev pub commands_of : List (List Command) → List Command
commands_of script = flat_map (λ block. block) script

-- The number of the first command of the block in which a command of this number is, where the first command of these blocks has the first number.
abbrev pub start_from : ℕ → List (List Command) → ℕ → ℕ
start_from first [] number = first
start_from first (block ∷ blocks) number =
    if nat_lt number (first + length block) then first else start_from (first + length block) blocks number

-- the number of the first command of a line's block
abbrev pub start_of : List (List (List Command)) → Line → ℕ
start_of scripts line = start_from 1 (slice_index_or scripts line.seat []) line.number

-- the block of which the first command has this number, likewise
abbrev pub block_from : ℕ → List (List Command) → ℕ → Option (List Command)
block_from first [] number = None
block_from first (block ∷ blocks) number = if number == first then Some block else block_from (first + length block) blocks number

-- the block that was done
abbrev pub block_of : List (List (List Command)) → DoneBlock → Option (List Command)
block_of scripts d = block_from 1 (slice_index_or scripts d.seat []) d.number

-- the lines of a block have its one place
abbrev pub IsOfOnePlace : List (List (List Command)) → Line → Line → Type 0
IsOfOnePlace scripts a b = a.seat ≡ b.seat → start_of scripts a ≡ start_of scripts b → a.place ≡ b.place

-- a later block of a script follows the time of an earlier one
abbrev pub IsInBlockTime : List (List (List Command)) → Line → Line → Type 0
IsInBlockTime scripts a b = a.seat ≡ b.seat → start_of scripts a < start_of scripts b → Follows (time_of a.place) b.place

-- lines at commits of one time are of one block
abbrev pub IsOfOneBlock : List (List (List Command)) → Line → Line → Type 0
IsOfOneBlock scripts a b =
    IsTrue (is_commit a.place) → IsTrue (is_commit b.place) → time_of a.place ≡ time_of b.place
    → (a.seat ≡ b.seat) × (start_of scripts a ≡ start_of scripts b)

-- a block at a commit changes the catalogue there, and one at a read changes nothing
abbrev pub MayBlockStand : Place → List Command → Maps → ℕ → Type 0
MayBlockStand (Commit time) block c capacity = block_changes block c capacity false ≡ true
MayBlockStand (Read time) block c capacity = block_changes block c capacity (is_last (Read time)) ≡ false

-- the catalogue after a place: a commit makes its block's change, and a read makes none
abbrev pub after_block : Place → List Command → Maps → ℕ → Maps
after_block (Commit time) block c capacity = block_next block c capacity false
after_block (Read time) block c capacity = c

-- The replay of blocks, one after another from a catalogue, gives each block's replies and ends in another.
abbrev pub ReplaysBlocks : List (List (List Command)) → ℕ → Maps → List DoneBlock → Maps → Type 0
ReplaysBlocks scripts capacity c [] end = c ≡ end
ReplaysBlocks scripts capacity c (d ∷ blocks) end =
    IsSomeAnd (block_of scripts d)
    (λ block. (d.answers ≡ block_replies block c capacity (is_last d.place)) × MayBlockStand d.place block c capacity
    × ReplaysBlocks scripts capacity (after_block d.place block c capacity) blocks end)

-- a line at a block's place and with the number of its first command, by which the block has its turn; a reply is no part of the order
abbrev pub head_of : DoneBlock → Line
head_of d = record { seat = d.seat; number = d.number; place = d.place; reply = No }

-- The lines are a legal run of the scripts of blocks from this printed time on, with room for this many nodes, that leaves these maps.
-- They stand in any order.
pub record LegalBlocks (scripts : List (List (List Command))) (lines : List Line) (base capacity : ℕ) (end : Maps) : Type 0 where
  -- each command of each script has exactly one line, with its seat and number, and there are no others
  pub once : IsPermutation (ids_of 0 (map commands_of scripts)) (map id_of lines)
  -- all lines of a block have its one place
  pub one_place : EachPair (IsOfOnePlace scripts) lines
  -- a commit is later than the printed time of the opening state, and a read is no earlier
  pub from_base : All (λ line. Follows base line.place) lines
  -- along a script the times never fall, and a block at a commit is later than the block before it
  pub in_time : EachPair (IsInBlockTime scripts) lines
  -- no two blocks at a commit have the same time
  pub alone : EachPair (IsOfOneBlock scripts) lines
  -- the lines are those of blocks, and the replay of these in the order of their lines, from empty maps, gives each reply and ends in these maps
  pub replayed : (blocks ordered : List DoneBlock) × IsPermutation lines (flat_map lines_of blocks) × IsPermutation blocks ordered
      × IsOrdered (map head_of ordered) × ReplaysBlocks scripts capacity empty ordered end
