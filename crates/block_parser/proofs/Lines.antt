-- One line more of a script of blocks.
use Rattle.std.proofs.Common.{◌≡◌, ℕ, ◌+◌, ◌≤◌, ◌<◌, List, [], length, get_or, drop, Option, None, Result, Ok, ap, sym, ◌∙◌, arith}
use Rattle.std.proofs.lemmas.List.{at_drop_more, at_drop_all}
use Rattle.script_parser.specs.Grammar.{◌>>=◌, lines_of, format_after}
use Rattle.block_parser.specs.declared.faults.BlockKind.{BlockKind}
use Rattle.block_parser.specs.declared.faults.BlockFault.{BlockFault}
use Rattle.block_parser.specs.declared.faults.BlockFault.TheVariants.{At, Memory}
use Rattle.block_parser.specs.BlockGrammar.{ReadSoFar, OrFault, line_said, lines_said, with_reading, with_readings, closed, last_line, parsed_blocks, Refuses}

-- what is refused in front is refused of the whole
Refuses-then : {A B : Type 0} (reading : Result A (ℕ × BlockKind)) (f : A → Result B (ℕ × BlockKind)) (fault : BlockFault) → Refuses reading fault
    → Refuses (reading >>= f) fault
Refuses-then reading f (At line kind) refused = ap (λ r. r >>= f) refused
Refuses-then reading f Memory refused = tt

-- what all lines of a text give
abbrev pub all_read : List ℕ → OrFault ReadSoFar
all_read text = with_readings (record { blocks = []; begun = None }) 1 (lines_said None (lines_of text))

-- the lines from this one on, in a format
abbrev from_line : List ℕ → ReadSoFar → Option ℕ → ℕ → OrFault ReadSoFar
from_line text r format number = with_readings r (number + 1) (lines_said format (drop number (lines_of text)))

module _ (text : List ℕ) (r : ReadSoFar) (format : Option ℕ) (number : ℕ)
    (rest : all_read text ≡ with_readings r (number + 1) (lines_said format (drop number (lines_of text)))) where
  -- the line that comes
  turn : (k : ℕ) (line : List ℕ) → number ≡ k → (k < length (lines_of text)) × (line ≡ get_or (lines_of text) k line)
      → all_read text ≡ with_reading r (number + 1) (line_said format line) >>= (λ more. from_line text more (format_after format line) (number + 1))
  turn k line same h =
      let at : line ≡ get_or (lines_of text) number line = rw same h.1 in
      rest ∙ at_drop_more (λ lines. with_readings r (number + 1) (lines_said format lines)) (lines_of text) number line (omega arith)
      ∙ ap (λ l. with_reading r (number + 1) (line_said format l) >>= (λ more. from_line text more (format_after format l) (number + 1))) (sym at)

  pub taken : (k : ℕ) (line : List ℕ) (more : ReadSoFar) (then : Option ℕ) → number ≡ k
      → (k < length (lines_of text)) × (line ≡ get_or (lines_of text) k line) → with_reading r (number + 1) (line_said format line) ≡ Ok more
      → then ≡ format_after format line
      → all_read text ≡ with_readings more (number + 1 + 1) (lines_said then (drop (number + 1) (lines_of text)))
  taken k line more then same h read goes =
      turn k line same h ∙ ap (λ x. x >>= (λ m. from_line text m (format_after format line) (number + 1))) read
      ∙ ap (λ f. from_line text more f (number + 1)) (sym goes)

  pub refused : (k : ℕ) (line : List ℕ) (fault : BlockFault) → number ≡ k → (k < length (lines_of text)) × (line ≡ get_or (lines_of text) k line)
      → Refuses (with_reading r (number + 1) (line_said format line)) fault → Refuses (parsed_blocks text) fault
  refused k line fault same h refuses =
      Refuses-then (all_read text) (λ all. closed all (last_line text)) fault
      (rw (turn k line same h)
      (Refuses-then (with_reading r (number + 1) (line_said format line)) (λ more. from_line text more (format_after format line) (number + 1)) fault
      refuses))

  pub done : length (lines_of text) ≤ number → parsed_blocks text ≡ closed r (last_line text)
  done past =
      ap (λ x. x >>= (λ all. closed all (last_line text)))
      (rest ∙ at_drop_all (λ lines. with_readings r (number + 1) (lines_said format lines)) (lines_of text) number past)
