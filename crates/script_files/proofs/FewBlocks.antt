-- A script of blocks has no more commands than a script may have.
use Rattle.std.proofs.Common.{◌≡◌, ℕ, ◌+◌, ◌<◌, ◌≤◌, nat_lt, Bool, true, false, if◌then◌else◌, List, [], ◌∷◌}
use Rattle.std.proofs.Common.{◌++◌, length, sum_by}
use Rattle.std.proofs.Common.{Option, None, Some, Result, Ok, Err, MatchResult, IfOk, Vec, refl, arith, subst, length-append}
use Rattle.std.specs.declared.alloc.Global.{Global}
use Rattle.std.specs.Bool.{⊤}
use Rattle.std.proofs.lemmas.Bool.Decides.{nat_tests}
use Rattle.std.proofs.lemmas.List.Sums.{sum_by_push}
use Rattle.set_model.specs.declared.commands.Command.{Command}
use Rattle.script_parser.specs.declared.faults.FaultKind.{FaultKind}
use Rattle.script_parser.specs.declared.faults.FaultKind.TheVariants.{Many}
use Rattle.set_model.specs.declared.script.TheConstants.{MOST_COMMANDS}
use Rattle.script_parser.specs.Grammar.{◌>>=◌, lines_of}
use Rattle.block_parser.specs.declared.faults.BlockFault.{BlockFault}
use Rattle.block_parser.specs.BlockGrammar.{
  Refuses,
  ReadSoFar,
  OrFault,
  begin_where,
  closed,
  closed_where,
  count_all,
  count_begun,
  end_where,
  last_line,
  lines_said,
  parsed_blocks,
  put_next,
  with_command,
  with_next,
  with_reading,
  with_readings,
}
use Rattle.block_parser.specs.set_blocks.Blocks.{stands_alone}
use Rattle.block_parser.specs.set_blocks.declared.block.TheConstants.{MOST_IN_BLOCK}
use Rattle.block_parser.specs.declared.faults.BlockKind.TheVariants.{Apart, Line, Long}
use Rattle.block_parser.specs.declared.line.Said.{Said}
use Rattle.block_parser.specs.declared.line.Said.TheVariants.{Nothing, Says, Begin, End}

below : (a b : ℕ) → nat_lt a b ≡ true → a < b
below a b e = grind (arith, nat_tests)

-- what is read has few commands, where it is read
abbrev IsFew : OrFault ReadSoFar → Type 0
IsFew (Ok r) = count_all r ≤ MOST_COMMANDS
IsFew (Err fault) = ⊤

-- and so have its blocks
abbrev AreFew : OrFault (List (List Command)) → Type 0
AreFew (Ok blocks) = sum_by length blocks ≤ MOST_COMMANDS
AreFew (Err fault) = ⊤

module _ (r : ReadSoFar) (line : ℕ) where
  few_next : (commands : List Command) (command : Command) → sum_by length r.blocks + length commands < MOST_COMMANDS
      → IsFew (with_next commands line command >>= λ more. Ok (record { blocks = r.blocks; begun = Some more }))
  few_next commands command lt = by (nat_lt (length commands) MOST_IN_BLOCK) (stands_alone command)
    where
      by : (fits alone : Bool)
          → IsFew ((if fits then (if alone then Err (line, Apart) else Ok (commands ++ command ∷ [])) else Err (line, Long))
          >>= λ more. Ok (record { blocks = r.blocks; begun = Some more }))
      by true true = tt
      by true false = omega (arith, lt, length-append commands (command ∷ []))
      by false alone = tt

  few_put : (begun : Option (List Command)) (command : Command) → sum_by length r.blocks + count_begun begun < MOST_COMMANDS
      → IsFew (put_next r begun line command)
  few_put None command lt = omega (arith, lt, sum_by_push length r.blocks (command ∷ []))
  few_put (Some commands) command lt = few_next commands command lt

  few_command : (command : Command) → IsFew (with_command r line command)
  few_command command = by (nat_lt (count_all r) MOST_COMMANDS) refl
    where
      by : (b : Bool) → nat_lt (count_all r) MOST_COMMANDS ≡ b → IsFew (if b then put_next r r.begun line command else Err (line, Line Many))
      by true e = few_put r.begun command (below (count_all r) MOST_COMMANDS e)
      by false e = tt

  few_begin : (begun : Option (List Command)) → sum_by length r.blocks + count_begun begun ≤ MOST_COMMANDS → IsFew (begin_where r begun line)
  few_begin None le = omega (arith, le)
  few_begin (Some commands) le = tt

  few_end : (begun : Option (List Command)) → sum_by length r.blocks + count_begun begun ≤ MOST_COMMANDS → IsFew (end_where r begun line)
  few_end None le = tt
  few_end (Some []) le = tt
  few_end (Some (command ∷ commands)) le = omega (arith, le, sum_by_push length r.blocks (command ∷ commands))

  few_reading : (reading : Result Said FaultKind) → count_all r ≤ MOST_COMMANDS → IsFew (with_reading r line reading)
  few_reading (Err kind) le = tt
  few_reading (Ok Nothing) le = le
  few_reading (Ok (Says command)) le = few_command command
  few_reading (Ok Begin) le = few_begin r.begun le
  few_reading (Ok End) le = few_end r.begun le

few_then : (read : OrFault ReadSoFar) (f : ReadSoFar → OrFault ReadSoFar) → IsFew read
    → ((r : ReadSoFar) → count_all r ≤ MOST_COMMANDS → IsFew (f r)) → IsFew (read >>= f)
few_then (Ok r) f few next = next r few
few_then (Err fault) f few next = tt

few_readings : (r : ReadSoFar) (line : ℕ) (readings : List (Result Said FaultKind)) → count_all r ≤ MOST_COMMANDS
    → IsFew (with_readings r line readings)
few_readings r line [] le = le
few_readings r line (reading ∷ readings) le =
    few_then (with_reading r line reading) (λ more. with_readings more (line + 1) readings) (few_reading r line reading le)
    (λ more few. few_readings more (line + 1) readings few)

few_closed : (r : ReadSoFar) (begun : Option (List Command)) (last : ℕ) → count_all r ≤ MOST_COMMANDS → AreFew (closed_where r begun last)
few_closed r None last le = omega (arith, le)
few_closed r (Some commands) last le = tt

few_at_end : (read : OrFault ReadSoFar) (last : ℕ) → IsFew read → AreFew (read >>= λ r. closed r last)
few_at_end (Ok r) last few = few_closed r r.begun last few
few_at_end (Err fault) last few = tt

-- the blocks of a script have few commands
pub few_blocks : (text : List ℕ) (blocks : List (List Command)) → parsed_blocks text ≡ Ok blocks → sum_by length blocks ≤ MOST_COMMANDS
few_blocks text blocks is =
    let nothing : ReadSoFar = record { blocks = []; begun = None } in
    let read = few_readings nothing 1 (lines_said None (lines_of text)) (omega arith) in
    subst AreFew is (few_at_end (with_readings nothing 1 (lines_said None (lines_of text))) (last_line text) read)

-- and so have those that a call which parses it gives
pub few_parsed : (text : List ℕ) (result : Result (Vec (List Command) Global) BlockFault)
    → MatchResult result (λ blocks. parsed_blocks text ≡ Ok blocks.items) (Refuses (parsed_blocks text))
    → IfOk result (λ blocks. sum_by length blocks.items ≤ MOST_COMMANDS)
few_parsed text (Ok blocks) is = few_blocks text blocks.items is
few_parsed text (Err fault) is = tt
