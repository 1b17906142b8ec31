-- One line more of a script.
use Rattle.std.proofs.Common.{◌≡◌, ℕ, ◌+◌, ◌≤◌, ◌<◌, ◌||◌, Bool, List, length, get_or, drop, Result, Ok, ap, sym, ◌∙◌, arith}
use Rattle.std.proofs.lemmas.List.{at_drop_more, at_drop_all}
use Rattle.set_model.specs.declared.commands.Command.{Command}
use Rattle.script_parser.specs.declared.faults.FaultKind.{FaultKind}
use Rattle.script_parser.specs.declared.faults.ScriptFault.{ScriptFault}
use Rattle.script_parser.specs.Grammar.{◌>>=◌, lines_of, words_of, with_reading, parsed_after, Refuses}
use Rattle.script_parser.proofs.Lines.{Refuses-then}
use Rattle.grow_script.specs.GrowGrammar.{has_words, grow_reading, grow_readings, parsed_grow}

-- the lines from this one on
abbrev from_line : List ℕ → List Command → Bool → ℕ → Result (List Command) (ℕ × FaultKind)
from_line text commands begun number = parsed_after commands (number + 1) (grow_readings begun (drop number (lines_of text)))

-- whether a line has words up to this one
abbrev begun_after : Bool → List ℕ → Bool
begun_after begun line = begun || has_words (words_of line)

module _ (text : List ℕ) (commands : List Command) (begun : Bool) (number : ℕ)
    (rest : parsed_grow text ≡ parsed_after commands (number + 1) (grow_readings begun (drop number (lines_of text)))) where
  -- the line that comes
  turn : (k : ℕ) (line : List ℕ) → number ≡ k → (k < length (lines_of text)) × (line ≡ get_or (lines_of text) k line)
      → parsed_grow text
      ≡ with_reading commands (number + 1) (grow_reading begun line) >>= (λ more. from_line text more (begun_after begun line) (number + 1))
  turn k line same h =
      let at : line ≡ get_or (lines_of text) number line = rw same h.1 in
      rest ∙ at_drop_more (λ lines. parsed_after commands (number + 1) (grow_readings begun lines)) (lines_of text) number line (omega arith)
      ∙ ap (λ l. with_reading commands (number + 1) (grow_reading begun l) >>= (λ more. from_line text more (begun_after begun l) (number + 1))) (sym at)

  pub taken : (k : ℕ) (line : List ℕ) (more : List Command) (then : Bool) → number ≡ k
      → (k < length (lines_of text)) × (line ≡ get_or (lines_of text) k line) → with_reading commands (number + 1) (grow_reading begun line) ≡ Ok more
      → then ≡ (begun || has_words (words_of line))
      → parsed_grow text ≡ parsed_after more (number + 1 + 1) (grow_readings then (drop (number + 1) (lines_of text)))
  taken k line more then same h read goes =
      turn k line same h ∙ ap (λ r. r >>= (λ cs. from_line text cs (begun_after begun line) (number + 1))) read
      ∙ ap (λ b. from_line text more b (number + 1)) (sym goes)

  pub refused : (k : ℕ) (line : List ℕ) (fault : ScriptFault) → number ≡ k → (k < length (lines_of text)) × (line ≡ get_or (lines_of text) k line)
      → Refuses (with_reading commands (number + 1) (grow_reading begun line)) fault → Refuses (parsed_grow text) fault
  refused k line fault same h refuses =
      rw (turn k line same h)
      (Refuses-then (with_reading commands (number + 1) (grow_reading begun line)) (λ more. from_line text more (begun_after begun line) (number + 1)) fault
      refuses)

  pub done : length (lines_of text) ≤ number → parsed_grow text ≡ Ok commands
  done past = rest ∙ at_drop_all (λ lines. parsed_after commands (number + 1) (grow_readings begun lines)) (lines_of text) number past
