-- How many nodes a change takes, and how many it gives back.
use Rattle.std.specs.Prelude.{ℕ, ◌≢◌, ◌-◌, ◌≤◌, ◌==◌, ◌||◌, nat_lt, Bool, true, false, length, if◌then◌else◌}
use Rattle.mv_history.specs.State.{State}
use Rattle.set_model.specs.Catalogue.{Map, Maps, map_of, has_key}
use Rattle.set_model.specs.declared.commands.Command.{Command}
use Rattle.set_model.specs.declared.commands.Command.TheVariants.{Add, Put, Del, Move}
use Rattle.set_catalog.specs.Picks.{IsVacant}

-- the names from this one on are those of trees
abbrev pub first_tree : ℕ
first_tree = 20

-- how many nodes a new key takes in the map of a name: in a tree that is not empty a leaf and an inner node
abbrev pub taken : ℕ → Map → ℕ
taken name m = if nat_lt name first_tree || (length m == 0) then 1 else 2

-- how many become vacant where a key goes
abbrev pub freed : ℕ → Map → ℕ
freed name m = if nat_lt name first_tree || (length m == 1) then 1 else 2

-- how many vacant nodes a command wants that applies; a move takes those first that its del gives back
abbrev pub wanted : Command → Maps → ℕ
wanted (Add name key) c = taken name (map_of name c)
wanted (Put name key value) c = if has_key key (map_of name c) then 0 else taken name (map_of name c)
wanted (Move source target key) c = taken target (map_of target c) - freed source (map_of source c)
wanted command c = 0

-- So many vacant objects, none, one or two different ones.
pub record AreEnough (s : State) (want first second : ℕ) : Type 0 where
  pub one : 1 ≤ want → IsVacant s first
  pub two : 2 ≤ want → IsVacant s second × (second ≢ first)

-- whether it is one of the commands that may change something
abbrev pub may_change : Command → Bool
may_change (Add name key) = true
may_change (Put name key value) = true
may_change (Del name key) = true
may_change (Move source target key) = true
may_change command = false
