-- The set of a domain, and the commands on it.
use Rattle.std.specs.Prelude.{ℕ, List}
use Rattle.mv_history.specs.State.{State, Writes}
use Rattle.set_model.specs.declared.commands.Command.{Command}
use Rattle.set_model.specs.declared.commands.Command.TheVariants.{Add, Del, Has, Size, Next}
use Rattle.grow_hash.specs.Grown.{grown_name, IsGrownOpening}
use Rattle.grow_hash.specs.GrowRules.{IsGrowCommit}
use Rattle.grow_seats.specs.declared.command.GrowCommand.{GrowCommand}
use Rattle.grow_seats.specs.declared.command.GrowCommand.TheVariants as grow

-- the set grows up to 2^20 buckets
abbrev pub table_levels : ℕ
table_levels = 20

-- the states with which it begins
abbrev pub IsTableOpening : State → Type 0
IsTableOpening s = IsGrownOpening table_levels s

-- and the commits that it allows
abbrev pub IsTableCommit : List ℕ → State → Writes → Type 0
IsTableCommit tag before writes = IsGrowCommit table_levels tag before writes

-- the command of the catalogue that a command is, on the one set that there is
abbrev pub as_command : GrowCommand → Command
as_command (grow.Add key) = Add grown_name key
as_command (grow.Del key) = Del grown_name key
as_command (grow.Has key) = Has grown_name key
as_command (grow.Next key) = Next grown_name key
as_command grow.Size = Size grown_name
