-- The grammar by all of its lines, and the first faulty one.
use Rattle.std.specs.Prelude.{◌≡◌, ◌≢◌, ◌≤◌, ℕ, ◌+◌, List, [], ◌∷◌, ◌++◌, length, ◌<◌, ◌^◌}
use Rattle.std.specs.Prelude.{codes, decimal, None, Some, Ok, Err, ⊤}
use Rattle.std.specs.List.{flat_map}
use Rattle.set_model.specs.declared.commands.Command.{Command}
use Rattle.set_model.specs.declared.commands.Command.TheVariants.{Add, Put, Del, Has, Get, Move, Pair, Size, Next}
use Rattle.script_parser.specs.declared.faults.FaultKind.{FaultKind}
use Rattle.script_parser.specs.declared.faults.FaultKind.TheVariants.{Many}
use Rattle.set_model.specs.declared.script.TheConstants.{MOST_COMMANDS}
use Rattle.set_model.specs.Names.{name_text}
use Rattle.script_parser.specs.Grammar.{Reading, readings_of}

-- each line is in the grammar
abbrev pub AreRead : List Reading → Type 0
AreRead [] = ⊤
AreRead (Ok command ∷ readings) = AreRead readings
AreRead (Err kind ∷ readings) = ⊥

-- the commands of the lines that have one, in order
abbrev pub commands_in : List Reading → List Command
commands_in [] = []
commands_in (Ok (Some command) ∷ readings) = command ∷ commands_in readings
commands_in (Ok None ∷ readings) = commands_in readings
commands_in (Err kind ∷ readings) = commands_in readings

-- The text is a script of these commands: each line is in the grammar, and there aren't too many commands.
pub record IsScriptOf (text : List ℕ) (commands : List Command) : Type 0 where
  pub read : AreRead (readings_of text)
  pub commands_are : commands ≡ commands_in (readings_of text)
  pub few : length commands ≤ MOST_COMMANDS

-- what is wrong with a line after so many commands: it isn't in the grammar, or its command is one too many
abbrev pub IsFaulty : ℕ → Reading → FaultKind → Type 0
IsFaulty count (Err fault) kind = kind ≡ fault
IsFaulty count (Ok (Some command)) kind = (count ≡ MOST_COMMANDS) × (kind ≡ Many)
IsFaulty count (Ok None) kind = ⊥

-- The line of this number, counted from 1, is the first that is faulty, and this is what is wrong with it.
pub record IsFirstFault (text : List ℕ) (number : ℕ) (kind : FaultKind) : Type 0 where
  pub before : List Reading
  pub reading : Reading
  pub after : List Reading
  pub readings : readings_of text ≡ before ++ reading ∷ after
  pub number_is : number ≡ length before + 1
  pub read : AreRead before
  pub few : length (commands_in before) ≤ MOST_COMMANDS
  pub faulty : IsFaulty (length (commands_in before)) reading kind

-- words with one space between them
abbrev pub spaced : List ℕ → List (List ℕ) → List ℕ
spaced word [] = word
spaced word (next ∷ words) = word ++ (codes " " ++ spaced next words)

-- a command's line, without its LF
abbrev pub line_text : Command → List ℕ
line_text (Add name key) = spaced (codes "add") (name_text name ∷ decimal key ∷ [])
line_text (Put name key value) = spaced (codes "put") (name_text name ∷ decimal key ∷ decimal value ∷ [])
line_text (Del name key) = spaced (codes "del") (name_text name ∷ decimal key ∷ [])
line_text (Has name key) = spaced (codes "has") (name_text name ∷ decimal key ∷ [])
line_text (Get name key) = spaced (codes "get") (name_text name ∷ decimal key ∷ [])
line_text (Move source target key) = spaced (codes "move") (name_text source ∷ name_text target ∷ decimal key ∷ [])
line_text (Pair first second key) = spaced (codes "pair") (name_text first ∷ name_text second ∷ decimal key ∷ [])
line_text (Size name) = spaced (codes "size") (name_text name ∷ [])
line_text (Next name key) = spaced (codes "next") (name_text name ∷ decimal key ∷ [])

-- the plainest lines of commands
abbrev pub script_text : List Command → List ℕ
script_text commands = flat_map (λ command. line_text command ++ codes "\n") commands

-- the line on a format, with its LF
abbrev pub format_text : ℕ → List ℕ
format_text format = spaced (codes "format") (decimal format ∷ []) ++ codes "\n"

-- the values that a command has: a name is below 30, a key fits 32 bits, and a value 64
abbrev pub IsCommand : Command → Type 0
IsCommand (Add name key) = (name < 30) × (key < 2 ^ 32)
IsCommand (Put name key value) = (name < 30) × (key < 2 ^ 32) × (value < 2 ^ 64)
IsCommand (Del name key) = (name < 30) × (key < 2 ^ 32)
IsCommand (Has name key) = (name < 30) × (key < 2 ^ 32)
IsCommand (Get name key) = (name < 30) × (key < 2 ^ 32)
IsCommand (Move source target key) = (source < 30) × (target < 30) × (key < 2 ^ 32)
IsCommand (Pair first second key) = (first < 30) × (second < 30) × (key < 2 ^ 32)
IsCommand (Size name) = name < 30
IsCommand (Next name key) = (name < 30) × (key < 2 ^ 32)

-- the commands that a script of this format may have: put and get are those of format 2 alone, and a move's names differ
abbrev pub IsOfFormat : ℕ → Command → Type 0
IsOfFormat format (Put name key value) = format ≡ 2
IsOfFormat format (Get name key) = format ≡ 2
IsOfFormat format (Move source target key) = source ≢ target
IsOfFormat format command = ⊤

-- a command that a script of this format can say
abbrev pub MaySay : ℕ → Command → Type 0
MaySay format command = IsCommand command × IsOfFormat format command
