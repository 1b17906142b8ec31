-- What a script of a growing hash set says: what a script of format 1 says, with five commands and one name.
use Rattle.std.specs.Prelude.{ℕ, ◌||◌, ◌==◌, not, Bool, true, false, List, [], ◌∷◌, Some, None, Result, Ok, Err, if◌then◌else◌, codes}
use Rattle.std.specs.Str.{bytes_eq}
use Rattle.set_model.specs.declared.commands.Command.{Command}
use Rattle.script_parser.specs.declared.faults.FaultKind.{FaultKind}
use Rattle.script_parser.specs.declared.faults.FaultKind.TheVariants.{Word, Key, Name, Format}
use Rattle.set_model.specs.declared.commands.Command.TheVariants.{Add, Put, Del, Has, Get, Move, Pair, Size, Next}
use Rattle.script_parser.specs.Grammar.{◌>>=◌, Reading, lines_of, words_of, command_of, format_of, is_format_word, parsed_after}

-- whether a word is one of the two commands of format 1 that a growing hash set lacks: those on two sets
abbrev pub is_on_two : List ℕ → Bool
is_on_two word = bytes_eq word (codes "move") || bytes_eq word (codes "pair")

-- whether a command is one of the five on one key or none, and names the set
abbrev pub is_of_set : Command → Bool
is_of_set (Add name key) = name == 10
is_of_set (Del name key) = name == 10
is_of_set (Has name key) = name == 10
is_of_set (Size name) = name == 10
is_of_set (Next name key) = name == 10
is_of_set (Put name key value) = false
is_of_set (Get name key) = false
is_of_set (Move source target key) = false
is_of_set (Pair first second key) = false

-- whether the words behind a command begin with the name of the set
abbrev pub names_set : List (List ℕ) → Bool
names_set [] = false
names_set (name ∷ words) = bytes_eq name (codes "h0")

-- whether a line, with these words behind its first, was read past a name that is not the set's: up to a command, or up to its key
abbrev pub is_misnamed : List (List ℕ) → Reading → Bool
is_misnamed words (Ok (Some command)) = not (is_of_set command)
is_misnamed words (Ok None) = false
is_misnamed words (Err Key) = not (names_set words)
is_misnamed words (Err kind) = false

-- what is read of it, where any name but that of the set is unknown
abbrev pub with_name : List (List ℕ) → Reading → Reading
with_name words reading = if is_misnamed words reading then Err Name else reading

-- What is read of the words of a line: as of a line of format 1, but that `move`, `pair` and any other name than `h0` are unknown.
unfoldable pub grow_command : List (List ℕ) → Reading
grow_command [] = Ok None
grow_command (word ∷ words) = if is_on_two word then Err Word else with_name words (command_of 1 (word ∷ words))

-- the one format there is
abbrev pub only_format : ℕ → Reading
only_format format = if format == 1 then Ok None else Err Format

-- what is read of the words behind `format`
abbrev pub grow_format : List (List ℕ) → Reading
grow_format words = format_of words >>= only_format

-- what is read of the first line with words, which may name the format
abbrev pub grow_first : List (List ℕ) → Reading
grow_first [] = Ok None
grow_first (word ∷ words) = if is_format_word word then grow_format words else grow_command (word ∷ words)

-- what is read of a line, by whether a line before it has words
abbrev pub grow_reading : Bool → List ℕ → Reading
grow_reading false line = grow_first (words_of line)
grow_reading true line = grow_command (words_of line)

-- whether a line has words
abbrev pub has_words : List (List ℕ) → Bool
has_words [] = false
has_words (word ∷ words) = true

-- what is read of each line, the first of them by whether a line before it has words
abbrev pub grow_readings : Bool → List (List ℕ) → List Reading
grow_readings begun [] = []
grow_readings begun (line ∷ lines) = grow_reading begun line ∷ grow_readings (begun || has_words (words_of line)) lines

-- The commands of a script of a growing hash set, or its first faulty line, counted from 1, and its fault.
abbrev pub parsed_grow : List ℕ → Result (List Command) (ℕ × FaultKind)
parsed_grow text = parsed_after [] 1 (grow_readings false (lines_of text))
