-- What commands of C say, by their numbers, and which of them are a block.
use Rattle.std.specs.Prelude.{◌≡◌, ◌<◌, ◌==◌, nat_lt, ℕ, List, map, length, Contains, Result, Ok, Err, if◌then◌else◌}
use Rattle.set_model.specs.declared.commands.Command.{Command}
use Rattle.set_model.specs.declared.commands.Command.TheVariants.{Add, Del, Move, Put, Has, Get, Pair, Size, Next}
use Rattle.set_blocks.specs.Blocks.{IsBlock}
use Rattle.c_answers.specs.declared.blocks.MvrluCommand.{MvrluCommand}
use Rattle.c_answers.specs.declared.status.Status.{Status}
use Rattle.c_answers.specs.declared.status.Status.TheVariants as status

-- the set of a number
abbrev pub in_set : ℕ → Result ℕ Status
in_set set = if nat_lt set 30 then Ok set else Err status.BadSet

-- a move of the key from the one set to the other, if that is a set and another one
abbrev pub move_to : ℕ → ℕ → Result ℕ Status → Result Command Status
move_to source key (Err why) = Err why
move_to source key (Ok target) = if target == source then Err status.SameSet else Ok (Move source target key)

-- what a move says, by the number of the set to which it goes
abbrev pub move_said : ℕ → ℕ → ℕ → Result Command Status
move_said source other key = move_to source key (in_set other)

-- a pair of the key in the one set and the other, if that is a set
abbrev pub pair_with : ℕ → ℕ → Result ℕ Status → Result Command Status
pair_with first key (Err why) = Err why
pair_with first key (Ok second) = Ok (Pair first second key)

-- what a pair says, by the number of its second set
abbrev pub pair_said : ℕ → ℕ → ℕ → Result Command Status
pair_said first other key = pair_with first key (in_set other)

-- what a command on this set says, by its number
abbrev pub said_in : MvrluCommand → Result ℕ Status → Result Command Status
said_in c (Err why) = Err why
said_in c (Ok name) =
    if c.op == 1 then Ok (Add name c.key) else (if c.op == 2 then Ok (Del name c.key) else (if c.op == 3 then move_said name c.other c.key else
    (if c.op == 4 then Ok (Put name c.key c.value) else (if c.op == 5 then Ok (Has name c.key) else (if c.op == 6 then Ok (Get name c.key) else
    (if c.op == 7 then pair_said name c.other c.key else (if c.op == 8 then Ok (Size name) else (if c.op == 9 then Ok (Next name c.key) else
    Err status.BadCommand))))))))

-- What a command of C says, or what is wrong with it.
abbrev pub command_said : MvrluCommand → Result Command Status
command_said c = said_in c (in_set c.set)

-- these are the commands, and they are a block
pub record IsBlockOf (given : List MvrluCommand) (commands : List Command) : Type 0 where
  pub said : map Ok commands ≡ map command_said given
  pub block : IsBlock commands

-- Why commands are no block: want of memory, a fault of one of them, too many, or a size or a next among several.
pub data IsNoBlock (given : List MvrluCommand) : Status → Type 0 where
  memory : IsNoBlock given status.NoMemory
  fault : (why : Status) → Contains (map command_said given) (Err why) → IsNoBlock given why
  many : 8 < length given → IsNoBlock given status.BadBlock
  apart : (commands : List Command) → map Ok commands ≡ map command_said given → ¬ IsBlock commands → IsNoBlock given status.BadBlock
