-- Which commands are a block.
use Rattle.std.specs.Prelude.{◌≡◌, ◌<◌, ◌≤◌}
use Rattle.set_blocks.specs.Terms.{Bool, true, false, List, length, list_any, Command, Size, Next, MOST_IN_BLOCK}

-- whether the command reads a whole set, and so is alone
abbrev pub stands_alone : Command → Bool
stands_alone (Size name) = true
stands_alone (Next name key) = true
stands_alone command = false

-- Commands that are a block: 1 to 8 of them, and none that is alone among several.
pub record IsBlock (commands : List Command) : Type 0 where
  pub some : 1 ≤ length commands
  pub few : length commands ≤ MOST_IN_BLOCK
  pub apart : 1 < length commands → list_any stands_alone commands ≡ false
