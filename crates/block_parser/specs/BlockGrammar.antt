-- What a script of blocks says: what its lines say, the blocks of its commands, and the first faulty line.
use Rattle.std.specs.Prelude.{ℕ, ◌+◌, ◌≡◌, ◌≤◌, nat_lt, nat_eq, false, List, [], ◌∷◌, ◌++◌, length, count_by, sum_by, codes}
use Rattle.std.specs.Prelude.{Option, None, Some, Result, Ok, Err, if◌then◌else◌, ⊤}
use Rattle.std.specs.List.{ends_with, list_any}
use Rattle.std.specs.Option.{option_map}
use Rattle.std.specs.Str.{bytes_eq}
use Rattle.std.specs.declared.vec.Vec.{Vec}
use Rattle.set_model.specs.declared.commands.Command.{Command}
use Rattle.script_parser.specs.declared.faults.FaultKind.{FaultKind}
use Rattle.script_parser.specs.declared.faults.FaultKind.TheVariants.{Count, Many}
use Rattle.set_model.specs.declared.script.TheConstants.{MOST_COMMANDS}
use Rattle.script_parser.specs.Grammar.{◌>>=◌, is_line_end, lines_of, words_of, reading_in, format_after}
use Rattle.set_blocks.specs.declared.block.TheConstants.{MOST_IN_BLOCK}
use Rattle.block_parser.specs.declared.faults.BlockKind.{BlockKind}
use Rattle.block_parser.specs.declared.faults.BlockKind.TheVariants.{Line, Nested, Stray, Empty, Long, Apart, Unended}
use Rattle.block_parser.specs.declared.faults.BlockFault.{BlockFault}
use Rattle.block_parser.specs.declared.faults.BlockFault.TheVariants.{At, Memory}
use Rattle.block_parser.specs.declared.line.Said.{Said}
use Rattle.block_parser.specs.declared.line.Said.TheVariants.{Nothing, Says, Begin, End}
use Rattle.set_blocks.specs.Blocks.{stands_alone}

-- what a line says of blocks by its first word, where it does
abbrev pub bracket_of : List ℕ → Option Said
bracket_of word = if bytes_eq word (codes "begin") then Some Begin else (if bytes_eq word (codes "end") then Some End else None)

-- it has no further words
abbrev pub bracket_with : Option Said → List (List ℕ) → Result (Option Said) FaultKind
bracket_with None words = Ok None
bracket_with (Some said) [] = Ok (Some said)
bracket_with (Some said) (word ∷ words) = Err Count

-- what words say of blocks, where they do
abbrev pub bracket_in : List (List ℕ) → Result (Option Said) FaultKind
bracket_in [] = Ok None
bracket_in (word ∷ words) = bracket_with (bracket_of word) words

-- what a line of a script says by its command
abbrev pub said_of : Option Command → Said
said_of None = Nothing
said_of (Some command) = Says command

-- what a line says of blocks, or else what it says as a line of a script
abbrev pub said_or : Option Said → Result (Option Command) FaultKind → Result Said FaultKind
said_or (Some said) reading = Ok said
said_or None reading = reading >>= λ command. Ok (said_of command)

-- What a line says, in the format so far.
abbrev pub line_said : Option ℕ → List ℕ → Result Said FaultKind
line_said format line = bracket_in (words_of line) >>= λ bracket. said_or bracket (reading_in format line)

-- what each line says, the first of them in this format
abbrev pub lines_said : Option ℕ → List (List ℕ) → List (Result Said FaultKind)
lines_said format [] = []
lines_said format (line ∷ lines) = line_said format line ∷ lines_said (format_after format line) lines

-- the blocks that ended, and the commands of the block that has begun, if one has
pub record ReadSoFar : Type 0 where
  pub blocks : List (List Command)
  pub begun : Option (List Command)

-- what a reading gives: something, or a faulty line and what is wrong with it
abbrev pub OrFault : Type 0 → Type 0
OrFault A = Result A (ℕ × BlockKind)

-- how many commands the block that has begun has
abbrev pub count_begun : Option (List Command) → ℕ
count_begun None = 0
count_begun (Some commands) = length commands

-- how many commands there are
abbrev pub count_all : ReadSoFar → ℕ
count_all r = sum_by length r.blocks + count_begun r.begun

-- the commands of a block with one more, which this line says: the ninth is too many, and none is one that is alone
abbrev pub with_next : List Command → ℕ → Command → OrFault (List Command)
with_next commands line command =
    if nat_lt (length commands) MOST_IN_BLOCK then (if stands_alone command then Err (line, Apart) else Ok (commands ++ command ∷ []))
    else Err (line, Long)

-- a command is the next one of the block that has begun, or else a block of one
abbrev pub put_next : ReadSoFar → Option (List Command) → ℕ → Command → OrFault ReadSoFar
put_next r None line command = Ok (record { blocks = r.blocks ++ (command ∷ []) ∷ []; begun = None })
put_next r (Some commands) line command = with_next commands line command >>= λ more. Ok (record { blocks = r.blocks; begun = Some more })

-- unless it is one command too many
abbrev pub with_command : ReadSoFar → ℕ → Command → OrFault ReadSoFar
with_command r line command = if nat_lt (count_all r) MOST_COMMANDS then put_next r r.begun line command else Err (line, Line Many)

-- a block begins outside a block
abbrev pub begin_where : ReadSoFar → Option (List Command) → ℕ → OrFault ReadSoFar
begin_where r None line = Ok (record { blocks = r.blocks; begun = Some [] })
begin_where r (Some commands) line = Err (line, Nested)

-- what is read with the `begin` of this line
abbrev pub with_begin : ReadSoFar → ℕ → OrFault ReadSoFar
with_begin r line = begin_where r r.begun line

-- a block ends where one has begun that has commands
abbrev pub end_where : ReadSoFar → Option (List Command) → ℕ → OrFault ReadSoFar
end_where r None line = Err (line, Stray)
end_where r (Some []) line = Err (line, Empty)
end_where r (Some (command ∷ commands)) line = Ok (record { blocks = r.blocks ++ (command ∷ commands) ∷ []; begun = None })

-- what is read with the `end` of this line
abbrev pub with_end : ReadSoFar → ℕ → OrFault ReadSoFar
with_end r line = end_where r r.begun line

-- what is read with what this line says
abbrev pub with_said : ReadSoFar → ℕ → Said → OrFault ReadSoFar
with_said r line Nothing = Ok r
with_said r line (Says command) = with_command r line command
with_said r line Begin = with_begin r line
with_said r line End = with_end r line

-- what is read with this line, which says that or has this fault
abbrev pub with_reading : ReadSoFar → ℕ → Result Said FaultKind → OrFault ReadSoFar
with_reading r line (Err kind) = Err (line, Line kind)
with_reading r line (Ok said) = with_said r line said

-- the same for lines, the first of which has this number
abbrev pub with_readings : ReadSoFar → ℕ → List (Result Said FaultKind) → OrFault ReadSoFar
with_readings r line [] = Ok r
with_readings r line (reading ∷ readings) = do
  more ← with_reading r line reading
  with_readings more (line + 1) readings

-- the blocks, where no block has begun at the end, whose last line is this one
abbrev pub closed_where : ReadSoFar → Option (List Command) → ℕ → OrFault (List (List Command))
closed_where r None last = Ok r.blocks
closed_where r (Some commands) last = Err (last, Unended)

-- the blocks of what is read, where none has begun at the end, whose last line is this one
abbrev pub closed : ReadSoFar → ℕ → OrFault (List (List Command))
closed r last = closed_where r r.begun last

-- how many lines a text has: those that end with LF, and one that lacks it at the end
abbrev pub last_line : List ℕ → ℕ
last_line text = if ends_with nat_eq text (codes "\n") then count_by is_line_end text else count_by is_line_end text + 1

-- The blocks of a script, or its first faulty line, counted from 1, and its fault.
abbrev pub parsed_blocks : List ℕ → OrFault (List (List Command))
parsed_blocks text = do
  r ← with_readings (record { blocks = []; begun = None }) 1 (lines_said None (lines_of text))
  closed r (last_line text)

-- a line that says nothing of blocks
abbrev pub IsPlainLine : List ℕ → Type 0
IsPlainLine line = bracket_in (words_of line) ≡ Ok None

-- a block for each command
abbrev pub singles : List Command → List (List Command)
singles [] = []
singles (command ∷ commands) = (command ∷ []) ∷ singles commands

-- what a script says, as blocks of one
abbrev pub as_blocks : Result (List Command) (ℕ × FaultKind) → OrFault (List (List Command))
as_blocks (Ok commands) = Ok (singles commands)
as_blocks (Err fault) = Err (fault.0, Line fault.1)

-- what a call may answer in place of what reading gives: the fault, or want of memory
abbrev pub Refuses : {A : Type 0} → OrFault A → BlockFault → Type 0
Refuses reading (At line kind) = reading ≡ Err (line, kind)
Refuses reading Memory = ⊤

-- what is read, with the lists in memory
abbrev pub read_so_far : {A : Type 0} → List (List Command) → Option (Vec Command A) → ReadSoFar
read_so_far blocks begun = record { blocks = blocks; begun = option_map (λ v. v.items) begun }

-- the commands of a block that has begun may be one's
pub record MayBegin (commands : List Command) : Type 0 where
  pub few : length commands ≤ MOST_IN_BLOCK
  pub apart : list_any stands_alone commands ≡ false

-- no block has begun, or the commands of the one that has may be a block's
abbrev pub MayHaveBegun : Option (List Command) → Type 0
MayHaveBegun None = ⊤
MayHaveBegun (Some commands) = MayBegin commands

-- so many commands are read
pub record IsCounted (r : ReadSoFar) (count : ℕ) : Type 0 where
  pub count_is : count ≡ count_all r
  pub begun : MayHaveBegun r.begun
