-- A script without `begin` and `end` says blocks of one: the commands that it says as a script.
use Rattle.std.proofs.Common.{◌≡◌, ℕ, ◌+◌, Bool, true, false, cond, nat_lt, List, [], ◌∷◌, ◌++◌, length, Option, None, Some, Result, Ok, Err}
use Rattle.std.proofs.Common.{refl, sym, ap, ◌∙◌, arith}
use Rattle.std.proofs.lemmas.List.Sums.{sum_by-cons}
use Rattle.std.specs.Prelude.{sum_by}
use Rattle.std.specs.List.{AllByRecursion}
use Rattle.set_model.specs.declared.commands.Command.{Command}
use Rattle.script_parser.specs.declared.faults.FaultKind.{FaultKind}
use Rattle.script_parser.specs.declared.faults.FaultKind.TheVariants.{Many}
use Rattle.set_model.specs.declared.script.TheConstants.{MOST_COMMANDS}
use Rattle.script_parser.specs.Grammar.{◌>>=◌, lines_of, reading_in, format_after, readings_in, with_reading, parsed, parsed_after}
use Rattle.block_parser.specs.declared.faults.BlockKind.TheVariants.{Line}
use Rattle.block_parser.specs.declared.line.Said.{Said}
use Rattle.block_parser.specs.BlockGrammar as blocks
use Rattle.block_parser.specs.BlockGrammar.{ReadSoFar, OrFault, said_or, count_all, closed, last_line, parsed_blocks, IsPlainLine, singles, as_blocks}
use Rattle.block_parser.specs.BlockGrammar.{with_readings, lines_said}

count-singles : (commands : List Command) → sum_by length (singles commands) ≡ length commands
count-singles [] = refl
count-singles (c ∷ commands) =
    let rest = count-singles commands in
    sum_by-cons length (c ∷ []) (singles commands) ∙ omega arith

singles-push : (commands : List Command) (c : Command) → singles (commands ++ c ∷ []) ≡ singles commands ++ (c ∷ []) ∷ []
singles-push [] c = refl
singles-push (d ∷ commands) c = ap (λ bs. (d ∷ []) ∷ bs) (singles-push commands c)

-- these blocks are read, and no block has begun
abbrev more : List (List Command) → OrFault ReadSoFar
more bs = Ok (record { blocks = bs; begun = None })

-- what is read of a script of blocks of one
abbrev so_far : List Command → ReadSoFar
so_far commands = record { blocks = singles commands; begun = None }

-- what is read of a script, as blocks of one
abbrev as_read : Result (List Command) (ℕ × FaultKind) → OrFault ReadSoFar
as_read (Ok commands) = Ok (so_far commands)
as_read (Err fault) = Err (fault.0, Line fault.1)

-- one line
line_plain : (commands : List Command) (number : ℕ) (reading : Result (Option Command) FaultKind)
    → blocks.with_reading (so_far commands) number (said_or None reading) ≡ as_read (with_reading commands number reading)
line_plain commands number (Err kind) = refl
line_plain commands number (Ok None) = refl
line_plain commands number (Ok (Some c)) =
    ap (λ (m : ℕ). cond (nat_lt m MOST_COMMANDS) (more (singles commands ++ (c ∷ []) ∷ [])) (Err (number, Line Many))) same
    ∙ go (nat_lt (length commands) MOST_COMMANDS)
  where
    same : count_all (so_far commands) ≡ length commands
    same = let n = count-singles commands in omega arith

    go : (b : Bool) → cond b (more (singles commands ++ (c ∷ []) ∷ [])) (Err (number, Line Many))
        ≡ as_read (cond b (Ok (commands ++ c ∷ [])) (Err (number, Many)))
    go true = ap more (sym (singles-push commands c))
    go false = refl

-- all lines
lines_plain : (commands : List Command) (number : ℕ) (format : Option ℕ) (lines : List (List ℕ)) → AllByRecursion IsPlainLine lines
    → with_readings (so_far commands) number (lines_said format lines) ≡ as_read (parsed_after commands number (readings_in format lines))
lines_plain commands number format [] h = refl
lines_plain commands number format (line ∷ lines) h =
    ap (λ (b : Result (Option Said) FaultKind). blocks.with_reading (so_far commands) number (b >>= λ bracket. said_or bracket (reading_in format line))
    >>= λ more. with_readings more (number + 1) (lines_said (format_after format line) lines)) h.0
    ∙ ap (λ (r : OrFault ReadSoFar). r >>= λ more. with_readings more (number + 1) (lines_said (format_after format line) lines))
    (line_plain commands number (reading_in format line))
    ∙ go (with_reading commands number (reading_in format line)) (λ cs. lines_plain cs (number + 1) (format_after format line) lines h.1)
  where
    go : (r : Result (List Command) (ℕ × FaultKind)) → ((cs : List Command)
        → with_readings (so_far cs) (number + 1) (lines_said (format_after format line) lines)
        ≡ as_read (parsed_after cs (number + 1) (readings_in (format_after format line) lines)))
        → (as_read r >>= λ more. with_readings more (number + 1) (lines_said (format_after format line) lines))
        ≡ as_read (r >>= λ more. parsed_after more (number + 1) (readings_in (format_after format line) lines))
    go (Ok cs) f = f cs
    go (Err e) f = refl

-- The whole script.
pub plain_script : (text : List ℕ) → AllByRecursion IsPlainLine (lines_of text) → parsed_blocks text ≡ as_blocks (parsed text)
plain_script text h =
    ap (λ (r : OrFault ReadSoFar). r >>= λ all. closed all (last_line text)) (lines_plain [] 1 None (lines_of text) h) ∙ go (parsed text)
  where
    go : (r : Result (List Command) (ℕ × FaultKind)) → (as_read r >>= λ all. closed all (last_line text)) ≡ as_blocks r
    go (Ok cs) = refl
    go (Err e) = refl
