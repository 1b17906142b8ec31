-- Where a block has its place in a history, and what a seat leaves that ran a script of blocks.
use Rattle.std.specs.Prelude.{◌≡◌, ℕ, ◌+◌, ◌-◌, ◌<◌, ◌≤◌, ◌==◌, true, false, List, [], ◌∷◌, ◌++◌, length, Some, slice_get}
use Rattle.set_blocks.specs.BlockReplies.{block_replies, block_changes, block_next}
use Rattle.set_blocks.specs.BlockRules.{block_tag}
use Rattle.script_workers.specs.Terms.{flat_map, Commit, Change, Seat, Continues, catalogue_of, capacity, Command, Place, AtCommit, Read, Reply, Line, time_of}
use Rattle.script_workers.specs.Terms.{Follows, Past, past_of, state_of_time}
use Rattle.script_workers.specs.Lines.{DoneBlock, lines_of}

-- The commit is the entry of this printed time, by this seat and with the tag of a block of so many commands. In the state just
-- before it, which is not at the last time, these are the block's replies and the block changes something; it leaves what the block leaves.
pub record IsBlockCommitOf (p : Past) (seat : ℕ) (block : List Command) (time : ℕ) (answers : List Reply) (c : Commit) : Type 0 where
  pub later : p.base < time
  pub there : slice_get p.entries (time - (p.base + 1)) ≡ Some (Change c)
  pub seat_is : c.seat ≡ seat
  pub tagged : c.tag ≡ block_tag (length block)
  pub answers_are : answers ≡ block_replies block (catalogue_of (state_of_time p (time - 1))) (capacity p.start) false
  pub changing : block_changes block (catalogue_of (state_of_time p (time - 1))) (capacity p.start) false ≡ true
  pub leaves : catalogue_of (state_of_time p time) ≡ block_next block (catalogue_of (state_of_time p (time - 1))) (capacity p.start) false

-- These are the block's replies in the state of this printed time, and it changes nothing there.
pub record IsBlockReadOf (p : Past) (block : List Command) (time : ℕ) (answers : List Reply) : Type 0 where
  pub after : p.base ≤ time
  pub seen : time ≤ p.base + length p.entries
  pub answers_are : answers ≡ block_replies block (catalogue_of (state_of_time p time)) (capacity p.start) (time == p.last)
  pub unchanging : block_changes block (catalogue_of (state_of_time p time)) (capacity p.start) (time == p.last) ≡ false

-- the block has this place and these replies in the history, and these are the commits of it: one, or none
abbrev pub BlockPlaceOf : Past → ℕ → List Command → Place → List Reply → List Commit → Type 0
BlockPlaceOf p seat block (AtCommit time) answers commits = (c : Commit) × (commits ≡ c ∷ []) × IsBlockCommitOf p seat block time answers c
BlockPlaceOf p seat block (Read time) answers commits = (commits ≡ []) × IsBlockReadOf p block time answers

-- What became of a seat's block whose first command has this number, and whose place follows a time.
pub record DoneBlockOf (p : Past) (seat number before : ℕ) (block : List Command) (done : DoneBlock) (commits : List Commit) : Type 0 where
  pub some : 1 ≤ length block
  pub by : done.seat ≡ seat
  pub numbered : done.number ≡ number
  pub follows : Follows before done.place
  pub place : BlockPlaceOf p seat block done.place done.answers commits

-- What became of a seat's blocks in order, the first of this number and following this time, and the commits of them.
abbrev pub BlocksOf : Past → ℕ → ℕ → ℕ → List (List Command) → List DoneBlock → List Commit → Type 0
BlocksOf p seat number before [] [] commits = commits ≡ []
BlocksOf p seat number before (block ∷ blocks) (d ∷ done) commits =
    (first : List Commit) × (others : List Commit) × (commits ≡ first ++ others) × DoneBlockOf p seat number before block d first
    × BlocksOf p seat (number + length block) (time_of d.place) blocks done others
BlocksOf p seat number before _ _ commits = ⊥

-- A seat ran a script of blocks: its lines are those of the blocks, and its commits grew by exactly those of the blocks, in order.
pub record RanBlocks (old new : Seat) (script : List (List Command)) (lines : List Line) : Type 0 where
  pub continues : Continues old new
  pub commits : List Commit
  pub mine : new.mine ≡ old.mine ++ commits
  pub done : List DoneBlock
  pub lines_are : lines ≡ flat_map lines_of done
  pub each : BlocksOf (past_of new) new.number 1 (old.base + length old.seen) script done commits

-- Each seat ran the script of its place; the lines stand by seat and then by number.
abbrev pub AllRanBlocks : List Seat → List Seat → List (List (List Command)) → List Line → Type 0
AllRanBlocks [] [] [] lines = lines ≡ []
AllRanBlocks (o ∷ os) (n ∷ ns) (script ∷ scripts) lines =
    (own others : List Line) × (lines ≡ own ++ others) × RanBlocks o n script own × AllRanBlocks os ns scripts others
AllRanBlocks _ _ _ lines = ⊥
