-- What a script says: its lines, the words of a line, the command of the words, and the first faulty line.
use Rattle.std.specs.Prelude.{ℕ, ◌+◌, ◌-◌, ◌==◌, ◌&&◌, ◌||◌, nat_lt, nat_le, not, Bool, true, false, List, [], ◌∷◌}
use Rattle.std.specs.Prelude.{◌++◌, length, Option, None, Some, Result, Ok, Err, if◌then◌else◌, ◌≡◌, ⊤, codes, filter, take_while}
use Rattle.std.specs.Char.{is_ascii_digit}
use Rattle.std.specs.List.{slice_split, list_all}
use Rattle.std.specs.Result.{result_unwrap_or}
use Rattle.std.specs.Str.{bytes_eq}
use Rattle.std.specs.Str.Lines.{strip_carriage_return}
use Rattle.std.specs.Str.Parse.{digits_value}
use Rattle.set_model.specs.declared.commands.Command.{Command}
use Rattle.set_model.specs.declared.commands.Command.TheVariants as commands
use Rattle.script_parser.specs.declared.faults.FaultKind.{FaultKind}
use Rattle.script_parser.specs.declared.faults.FaultKind.TheVariants as faults
use Rattle.script_parser.specs.declared.faults.ScriptFault.{ScriptFault}
use Rattle.script_parser.specs.declared.faults.ScriptFault.TheVariants.{At, Memory}
use Rattle.script_parser.specs.declared.line.Verb.{Verb}
use Rattle.script_parser.specs.declared.line.Verb.TheVariants.{Add, Put, Del, Has, Get, Move, Pair, Size, Next}
use Rattle.set_model.specs.declared.script.TheConstants.{MOST_COMMANDS}

infixl 10 ◌>>=◌
-- one reading after another, up to the first fault
abbrev pub ◌>>=◌ : {F A B : Type 0} → Result A F → (A → Result B F) → Result B F
(Ok x) >>= f = f x
(Err e) >>= f = Err e

-- LF
abbrev pub is_line_end : ℕ → Bool
is_line_end b = b == 10

-- a space or a tab
abbrev pub is_blank : ℕ → Bool
is_blank b = b == 32 || b == 9

-- The lines of a text are its parts between the LFs. What follows the last LF is a line too, mostly an empty one.
abbrev pub lines_of : List ℕ → List (List ℕ)
lines_of text = slice_split is_line_end text

-- whether a part between two blanks is a word: one that is empty isn't
abbrev pub is_word : List ℕ → Bool
is_word [] = false
is_word (b ∷ bs) = true

-- whether a word begins no comment, as one that begins with `#` does
abbrev pub is_plain : List ℕ → Bool
is_plain [] = true
is_plain (b ∷ bs) = not (b == 35)

-- the words of bytes: the parts between the blanks that aren't empty, up to a comment
abbrev pub words_in : List ℕ → List (List ℕ)
words_in bytes = take_while is_plain (filter is_word (slice_split is_blank bytes))

-- the words of a line, without the one CR at its end
abbrev pub words_of : List ℕ → List (List ℕ)
words_of line = words_in (strip_carriage_return line)

-- What the first word of a line says to do. Format 2 alone has `put` and `get`.
abbrev pub verb_of : ℕ → List ℕ → Result Verb FaultKind
verb_of format word =
    if bytes_eq word (codes "add") then Ok Add
    else (if bytes_eq word (codes "put") && format == 2 then Ok Put
    else (if bytes_eq word (codes "del") then Ok Del
    else (if bytes_eq word (codes "has") then Ok Has
    else (if bytes_eq word (codes "get") && format == 2 then Ok Get
    else (if bytes_eq word (codes "move") then Ok Move
    else (if bytes_eq word (codes "pair") then Ok Pair
    else (if bytes_eq word (codes "size") then Ok Size
    else (if bytes_eq word (codes "next") then Ok Next
    else Err faults.Word))))))))

-- the first of the ten names with this letter: `l`, `h` or `t`
abbrev pub letter_of : ℕ → Result ℕ FaultKind
letter_of letter =
    if letter == 108 then Ok 0
    else (if letter == 104 then Ok 10
    else (if letter == 116 then Ok 20
    else Err faults.Name))

-- a name: its letter and one digit
abbrev pub name_of : List ℕ → Result ℕ FaultKind
name_of (letter ∷ digit ∷ []) = do
  first ← letter_of letter
  if is_ascii_digit digit then Ok (first + (digit - 48)) else Err faults.Name
name_of word = Err faults.Name

-- whether a word is 1 to so many decimal digits
abbrev pub is_numeral : ℕ → List ℕ → Bool
is_numeral most word = nat_le 1 (length word) && nat_le (length word) most && list_all is_ascii_digit word

-- a key: 1 to 10 decimal digits of a number up to 4294967295
abbrev pub key_of : List ℕ → Result ℕ FaultKind
key_of word = if is_numeral 10 word && nat_le (digits_value 10 word) 4294967295 then Ok (digits_value 10 word) else Err faults.Key

-- a value: 1 to 20 decimal digits of a number up to 18446744073709551615
abbrev pub value_of : List ℕ → Result ℕ FaultKind
value_of word = if is_numeral 20 word && nat_le (digits_value 10 word) 18446744073709551615 then Ok (digits_value 10 word) else Err faults.Value

-- the one word behind the command's
abbrev pub one_of : List (List ℕ) → Result (List ℕ) FaultKind
one_of (word ∷ []) = Ok word
one_of words = Err faults.Count

-- the two words behind the command's
abbrev pub two_of : List (List ℕ) → Result (List ℕ × List ℕ) FaultKind
two_of (first ∷ second ∷ []) = Ok (first, second)
two_of words = Err faults.Count

-- the three words behind the command's
abbrev pub three_of : List (List ℕ) → Result (List ℕ × List ℕ × List ℕ) FaultKind
three_of (first ∷ second ∷ third ∷ []) = Ok (first, second, third)
three_of words = Err faults.Count

-- a name
abbrev pub set_of : List (List ℕ) → Result ℕ FaultKind
set_of words = do
  one ← one_of words
  name_of one

-- a name and a key
abbrev pub set_key_of : List (List ℕ) → Result (ℕ × ℕ) FaultKind
set_key_of words = do
  two ← two_of words
  name ← name_of two.0
  key ← key_of two.1
  Ok (name, key)

-- a name, a key and a value
abbrev pub set_key_value_of : List (List ℕ) → Result (ℕ × ℕ × ℕ) FaultKind
set_key_value_of words = do
  three ← three_of words
  name ← name_of three.0
  key ← key_of three.1
  value ← value_of three.2
  Ok (name, key, value)

-- two names and a key
abbrev pub sets_key_of : List (List ℕ) → Result (ℕ × ℕ × ℕ) FaultKind
sets_key_of words = do
  three ← three_of words
  first ← name_of three.0
  second ← name_of three.1
  key ← key_of three.2
  Ok (first, second, key)

-- a move: its names differ
abbrev pub move_of : ℕ × ℕ × ℕ → Result Command FaultKind
move_of m = if m.0 == m.1 then Err faults.Same else Ok (commands.Move m.0 m.1 m.2)

-- the command that does this, by the words behind the first
abbrev pub command_with : Verb → List (List ℕ) → Result Command FaultKind
command_with Add words = do
  two ← set_key_of words
  Ok (commands.Add two.0 two.1)
command_with Put words = do
  three ← set_key_value_of words
  Ok (commands.Put three.0 three.1 three.2)
command_with Del words = do
  two ← set_key_of words
  Ok (commands.Del two.0 two.1)
command_with Has words = do
  two ← set_key_of words
  Ok (commands.Has two.0 two.1)
command_with Get words = do
  two ← set_key_of words
  Ok (commands.Get two.0 two.1)
command_with Move words = do
  three ← sets_key_of words
  move_of three
command_with Pair words = do
  three ← sets_key_of words
  Ok (commands.Pair three.0 three.1 three.2)
command_with Size words = do
  name ← set_of words
  Ok (commands.Size name)
command_with Next words = do
  two ← set_key_of words
  Ok (commands.Next two.0 two.1)

-- what is read of a line: a command, none where it has no words, or what is wrong with it first
abbrev pub Reading : Type 0
Reading = Result (Option Command) FaultKind

-- what is read of a line's words, in this format
unfoldable pub command_of : ℕ → List (List ℕ) → Reading
command_of format [] = Ok None
command_of format (word ∷ words) = do
  verb ← verb_of format word
  command ← command_with verb words
  Ok (Some command)

-- what is read of a line, in this format
abbrev pub line_read : ℕ → List ℕ → Reading
line_read format line = command_of format (words_of line)

-- whether a word is the first one of a line on the format
abbrev pub is_format_word : List ℕ → Bool
is_format_word word = bytes_eq word (codes "format")

-- the format that the words behind `format` name
abbrev pub format_of : List (List ℕ) → Result ℕ FaultKind
format_of words = do
  number ← one_of words
  if bytes_eq number (codes "1") then Ok 1 else (if bytes_eq number (codes "2") then Ok 2 else Err faults.Format)

-- What is read of the first line with words. A line on the format has no command; any other is of format 1.
abbrev pub first_read : List (List ℕ) → Reading
first_read [] = Ok None
first_read (word ∷ words) = if is_format_word word then (format_of words >>= λ format. Ok None) else command_of 1 (word ∷ words)

-- The format of the lines behind it, 1 where it names none; none yet as long as no line has words. It is 1
-- too behind a faulty format line, which nobody sees, since parsing stops at the first fault.
abbrev pub first_format : List (List ℕ) → Option ℕ
first_format [] = None
first_format (word ∷ words) = Some (if is_format_word word then result_unwrap_or (format_of words) 1 else 1)

-- what is read of a line of a script, in the format so far, or none where no line before it has words
abbrev pub reading_in : Option ℕ → List ℕ → Reading
reading_in None line = first_read (words_of line)
reading_in (Some format) line = line_read format line

-- the format once the line is read
abbrev pub format_after : Option ℕ → List ℕ → Option ℕ
format_after None line = first_format (words_of line)
format_after (Some format) line = Some format

-- what is read of each line, the first of them in this format
abbrev pub readings_in : Option ℕ → List (List ℕ) → List Reading
readings_in format [] = []
readings_in format (line ∷ lines) = reading_in format line ∷ readings_in (format_after format line) lines

-- what is read of each line of a script
abbrev pub readings_of : List ℕ → List Reading
readings_of text = readings_in None (lines_of text)

-- the commands so far with that of a line, which has this number
abbrev pub with_reading : List Command → ℕ → Reading → Result (List Command) (ℕ × FaultKind)
with_reading commands number (Err kind) = Err (number, kind)
with_reading commands number (Ok None) = Ok commands
with_reading commands number (Ok (Some command)) = if nat_lt (length commands) MOST_COMMANDS then Ok (commands ++ command ∷ []) else Err (number, faults.Many)

-- the commands so far with those of lines, the first of which has this number, or the first faulty line and its fault
abbrev pub parsed_after : List Command → ℕ → List Reading → Result (List Command) (ℕ × FaultKind)
parsed_after commands number [] = Ok commands
parsed_after commands number (reading ∷ readings) = do
  more ← with_reading commands number reading
  parsed_after more (number + 1) readings

-- The commands of a script, or its first faulty line, counted from 1, and its fault.
abbrev pub parsed : List ℕ → Result (List Command) (ℕ × FaultKind)
parsed text = parsed_after [] 1 (readings_of text)

-- what a call may answer in place of what reading gives: the fault, or want of memory
abbrev pub Refuses : {A : Type 0} → Result A (ℕ × FaultKind) → ScriptFault → Type 0
Refuses reading (At line kind) = reading ≡ Err (line, kind)
Refuses reading Memory = ⊤
