-- What a block comes to in a state, before anything is locked.
use Rattle.std.specs.Prelude.{◌≡◌, if◌then◌else◌}
use Rattle.set_blocks.specs.Terms.{Bool, true, false, List, State, Writes, Command}
use Rattle.set_blocks.specs.BlockMeaning.{replies_in, block_changes_in}
use Rattle.set_blocks.specs.BlockPlans.{BlockPlan}
use Rattle.set_blocks.specs.declared.finding.BlockFinding.{BlockFinding}
use Rattle.set_blocks.specs.declared.finding.BlockFinding.TheVariants.{Settled, Open}
use Rattle.set_blocks.specs.declared.finding.TurnReplies.{TurnReplies}

-- It changes nothing and these are its replies, at the last time too; or, where a time is left, it changes something, replies so, and
-- this is planned.
abbrev pub IsBlockFound : List Command → State → Writes → BlockFinding → Type 0
IsBlockFound commands s ws (Settled answers) = ((last : Bool) → answers ≡ replies_in commands s last) × (block_changes_in commands s false ≡ false)
IsBlockFound commands s ws (Open answers) =
    (answers ≡ replies_in commands s false) × (block_changes_in commands s false ≡ true) × BlockPlan s commands ws answers true

-- what is found by the turns of commands of which none is full
abbrev pub found_by : TurnReplies → BlockFinding
found_by turns = if turns.changes then Open turns.replies else Settled turns.replies
