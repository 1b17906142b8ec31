-- The generated scripts: the generator's words, the command of four of them, and the script of a number and a seat.
use Rattle.std.specs.Prelude.{ℕ, ◌+◌, ◌*◌, ◌%◌, ◌<◌, ◌≡◌, ◌≢◌, ◌==◌, nat_lt, List, [], ◌∷◌, if◌then◌else◌}
use Rattle.rand_core.specs.Steps.{first_words}
use Rattle.rand_pcg.specs.Lcg.{Lcg, started, increment_of}
use Rattle.rand_pcg.specs.Pcg.{multiplier_64, pcg32}
use Rattle.set_model.specs.declared.commands.Command.{Command}
use Rattle.set_model.specs.declared.commands.Command.TheVariants.{Add, Del, Has, Move}
use Rattle.script_parser.specs.GrammarLaws.{script_text}
use Rattle.script_gen.specs.declared.script.TheConstants.{COMMANDS}

-- the index of the first name
abbrev pub first_name : ℕ → ℕ
first_name word = word % 30

-- the index of the second name, which is never that of the first
abbrev pub second_name : ℕ → ℕ → ℕ
second_name first word = (first + 1 + word % 29) % 30

-- the key, one of 64; those of two seats differ
abbrev pub key_of : ℕ → ℕ → ℕ
key_of seat word = 4 * (word % 64) + seat

-- what the first word says to do: of eight, 0 to 3 is add, 4 and 5 del, 6 has, 7 move
abbrev pub command_for : ℕ → ℕ → ℕ → ℕ → Command
command_for action name other key =
    if nat_lt action 4 then Add name key
    else (if nat_lt action 6 then Del name key
    else (if action == 6 then Has name key
    else Move name other key))

-- the command of four words; the third is that of a move's second name, and is passed over by the others
abbrev pub command_of : ℕ → ℕ → ℕ → ℕ → ℕ → Command
command_of seat w1 w2 w3 w4 = command_for (w1 % 8) (first_name w2) (second_name (first_name w2) w3) (key_of seat w4)

-- the commands of words, four for each
abbrev pub commands_of : ℕ → List ℕ → List Command
commands_of seat (w1 ∷ w2 ∷ w3 ∷ w4 ∷ words) = command_of seat w1 w2 w3 w4 ∷ commands_of seat words
commands_of seat words = []

-- the generator of a number and a seat: the number is its state, and the seat its stream
abbrev pub generator : ℕ → ℕ → Lcg
generator number seat = started 64 multiplier_64 number (increment_of 64 seat)

-- The script of a number and a seat: the commands of the generator's first words.
unfoldable pub script : ℕ → ℕ → List Command
script number seat = commands_of seat (first_words pcg32 (4 * COMMANDS) (generator number seat))

-- The text of that script: its commands, each on a line of its own.
abbrev pub text_of_script : ℕ → ℕ → List ℕ
text_of_script number seat = script_text (script number seat)

-- a name of a set, and a key of the scripts of this seat
abbrev pub IsOwn : ℕ → ℕ → ℕ → Type 0
IsOwn seat name key = (name < 30) × (key < 256) × (key % 4 ≡ seat)

-- An add, a del, a has or a move, of a key of this seat's own.
abbrev pub IsGenerated : ℕ → Command → Type 0
IsGenerated seat (Add name key) = IsOwn seat name key
IsGenerated seat (Del name key) = IsOwn seat name key
IsGenerated seat (Has name key) = IsOwn seat name key
IsGenerated seat (Move source target key) = IsOwn seat source key × (target < 30) × (source ≢ target)
IsGenerated seat command = ⊥
