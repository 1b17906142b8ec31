-- One line more of a script.
use Rattle.std.proofs.Common.{◌≡◌, ℕ, ◌+◌, ◌≤◌, ◌<◌, List, length, get_or, drop, Option, Some, None, Result, Ok, ap, sym, ◌∙◌, arith}
use Rattle.std.proofs.lemmas.Iterator.{YieldsList}
use Rattle.std.proofs.lemmas.Iterator.Consumers.{YieldsList-turn, YieldsList-end}
use Rattle.std.specs.Iterator.{Yields}
use Rattle.std.proofs.lemmas.List.{at_drop_more, at_drop_all}
use Rattle.std.proofs.lemmas.List.Splits.{length-slice_split}
use Rattle.std.proofs.lemmas.List.Sums.{count_by-le-length}
use Rattle.set_model.specs.declared.commands.Command.{Command}
use Rattle.script_parser.specs.declared.faults.FaultKind.{FaultKind}
use Rattle.script_parser.specs.declared.faults.ScriptFault.{ScriptFault}
use Rattle.script_parser.specs.declared.faults.ScriptFault.TheVariants.{At, Memory}
use Rattle.script_parser.specs.Grammar.{◌>>=◌, is_line_end, lines_of, reading_in, format_after, readings_in, with_reading, parsed, parsed_after, Refuses}

-- std's two lemmas on a loop's turn and its end, with the items first, from which the iterator's steps are known
module _ {S A B : Type 0} {steps : S → Option A → S → Type 0} {s : S} {all : List B} (v : A → B) (items : List A) (t : S)
    (yields : Yields steps s items t) where
  pub item : (r : Option A) (u : S) (x : A) → r ≡ Some x → steps t r u → YieldsList steps v s all
      → (length items < length all) × (v x ≡ get_or all (length items) (v x))
  item r u x is step road = YieldsList-turn road items t yields r u x is step

  pub no_item : (r : Option A) (u : S) → r ≡ None → steps t r u → YieldsList steps v s all → length items ≡ length all
  no_item r u is step road = (YieldsList-end road items t yields r u is step).1

-- a text has at most one line more than bytes
pub length-lines_of : (text : List ℕ) → length (lines_of text) ≤ length text + 1
length-lines_of text = omega (arith, length-slice_split is_line_end text, count_by-le-length is_line_end text)

-- what is refused in front is refused of the whole
pub Refuses-then : {A B : Type 0} (reading : Result A (ℕ × FaultKind)) (f : A → Result B (ℕ × FaultKind)) (fault : ScriptFault) → Refuses reading fault
    → Refuses (reading >>= f) fault
Refuses-then reading f (At line kind) refused = ap (λ r. r >>= f) refused
Refuses-then reading f Memory refused = tt

-- the lines from this one on, in a format
abbrev from_line : List ℕ → List Command → Option ℕ → ℕ → Result (List Command) (ℕ × FaultKind)
from_line text commands format number = parsed_after commands (number + 1) (readings_in format (drop number (lines_of text)))

module _ (text : List ℕ) (commands : List Command) (format : Option ℕ) (number : ℕ)
    (rest : parsed text ≡ parsed_after commands (number + 1) (readings_in format (drop number (lines_of text)))) where
  -- the line that comes
  turn : (k : ℕ) (line : List ℕ) → number ≡ k → (k < length (lines_of text)) × (line ≡ get_or (lines_of text) k line)
      → parsed text ≡ with_reading commands (number + 1) (reading_in format line) >>= (λ more. from_line text more (format_after format line) (number + 1))
  turn k line same h =
      let at : line ≡ get_or (lines_of text) number line = rw same h.1 in
      rest ∙ at_drop_more (λ lines. parsed_after commands (number + 1) (readings_in format lines)) (lines_of text) number line (omega arith)
      ∙ ap (λ l. with_reading commands (number + 1) (reading_in format l) >>= (λ more. from_line text more (format_after format l) (number + 1))) (sym at)

  pub taken : (k : ℕ) (line : List ℕ) (more : List Command) (then : Option ℕ) → number ≡ k
      → (k < length (lines_of text)) × (line ≡ get_or (lines_of text) k line) → with_reading commands (number + 1) (reading_in format line) ≡ Ok more
      → then ≡ format_after format line
      → parsed text ≡ parsed_after more (number + 1 + 1) (readings_in then (drop (number + 1) (lines_of text)))
  taken k line more then same h read goes =
      turn k line same h ∙ ap (λ r. r >>= (λ cs. from_line text cs (format_after format line) (number + 1))) read
      ∙ ap (λ f. from_line text more f (number + 1)) (sym goes)

  pub refused : (k : ℕ) (line : List ℕ) (fault : ScriptFault) → number ≡ k → (k < length (lines_of text)) × (line ≡ get_or (lines_of text) k line)
      → Refuses (with_reading commands (number + 1) (reading_in format line)) fault → Refuses (parsed text) fault
  refused k line fault same h refuses =
      rw (turn k line same h)
      (Refuses-then (with_reading commands (number + 1) (reading_in format line)) (λ more. from_line text more (format_after format line) (number + 1)) fault
      refuses)

  pub done : length (lines_of text) ≤ number → parsed text ≡ Ok commands
  done past = rest ∙ at_drop_all (λ lines. parsed_after commands (number + 1) (readings_in format lines)) (lines_of text) number past
