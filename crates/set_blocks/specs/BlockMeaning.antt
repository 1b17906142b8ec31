-- What a block means, as a work.
use Rattle.mv_history.specs.Drift.{Drifts}
use Rattle.section_work.specs.Works.{Meaning}
use Rattle.std.specs.Prelude.{◌≡◌, ◌*◌}
use Rattle.set_blocks.specs.Terms.{ℕ, Bool, true, false, List, length, State, Writes, written, Command, Reply, catalogue_of, capacity}
use Rattle.set_blocks.specs.BlockPlans.{BlockPlan}
use Rattle.set_blocks.specs.BlockReplies.{block_replies, block_changes, block_next}
use Rattle.set_blocks.specs.BlockRules.{IsBlockCommit, block_tag}

-- the block's replies in a state, at the last time or not
abbrev pub replies_in : List Command → State → Bool → List Reply
replies_in commands s last = block_replies commands (catalogue_of s) (capacity s) last

-- whether the block changes something in a state, at the last time or not
abbrev pub block_changes_in : List Command → State → Bool → Bool
block_changes_in commands s last = block_changes commands (catalogue_of s) (capacity s) last

-- what a commit of it makes of the state just before: the block's change, with its replies there
pub record MakesBlock (commands : List Command) (before after : State) (answers : List Reply) : Type 0 where
  pub changing : block_changes_in commands before false ≡ true
  pub answers_are : answers ≡ replies_in commands before false
  pub leaves : catalogue_of after ≡ block_next commands (catalogue_of before) (capacity before) false

-- What is planned for it: what its commands lock and write one after another, with its tag, which makes the block's change of each
-- state to which others may lead meanwhile.
pub record PlansBlock (commands : List Command) (s : State) (tag : List ℕ) (ws : Writes) (answers : List Reply) : Type 0 where
  pub tagged : tag ≡ block_tag (length commands)
  pub plan : BlockPlan s commands ws answers true
  pub makes : (before : State) → Drifts IsBlockCommit ws s before → MakesBlock commands before (written before ws) answers

-- A block of commands, as a work. It locks at most five objects for each of its commands.
abbrev pub block_meaning : List Command → Meaning (List Reply)
block_meaning commands = record {
  most = 5 * length commands;
  changes = λ s. block_changes_in commands s false ≡ true;
  plans = λ s tag ws answers. PlansBlock commands s tag ws answers;
  settles = λ s last answers. (answers ≡ replies_in commands s last) × (block_changes_in commands s last ≡ false);
  makes = λ before after answers. MakesBlock commands before after answers;
}
