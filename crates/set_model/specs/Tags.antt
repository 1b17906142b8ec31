-- The tags of the sets' commits: four numbers that stand for a command.
use Rattle.std.specs.Prelude.{ℕ, ◌==◌, ◌&&◌, if◌then◌else◌, List, [], ◌∷◌, Option, Some, None}
use Rattle.set_model.specs.declared.commands.Command.{Command}
use Rattle.set_model.specs.declared.commands.Command.TheVariants.{Add, Put, Del, Move}

-- the tag of a command that may change something; of the others all zero, which stands for no command
abbrev pub tag_of : Command → List ℕ
tag_of (Add name key) = 1 ∷ name ∷ 0 ∷ key ∷ []
tag_of (Del name key) = 2 ∷ name ∷ 0 ∷ key ∷ []
tag_of (Move source target key) = 3 ∷ source ∷ target ∷ key ∷ []
tag_of (Put name key value) = 4 ∷ name ∷ value ∷ key ∷ []
tag_of command = 0 ∷ 0 ∷ 0 ∷ 0 ∷ []

-- the command for which these four numbers stand: 1 is add, 2 del, 3 move and 4 put
abbrev pub command_by : ℕ → ℕ → ℕ → ℕ → Option Command
command_by code first second key =
    if code == 1 && (second == 0) then Some (Add first key)
    else (if code == 2 && (second == 0) then Some (Del first key)
    else (if code == 3 then Some (Move first second key)
    else (if code == 4 then Some (Put first key second)
    else None)))

-- The command for which a tag stands.
abbrev pub command_of : List ℕ → Option Command
command_of (code ∷ first ∷ second ∷ key ∷ []) = command_by code first second key
command_of tag = None
