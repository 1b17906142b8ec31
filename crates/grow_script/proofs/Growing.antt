-- A command that is read is one of the five, and names the set.
use Rattle.std.proofs.Common.{◌≡◌, ℕ, Bool, true, false, not, cond, List, [], ◌∷◌, Some, None, Result, Ok, Err}
use Rattle.std.proofs.Common.{IfOk, MatchOption, ◌==◌, refl, sym, subst}
use Rattle.std.specs.Bool.{⊤}
use Rattle.script_parser.specs.declared.faults.FaultKind.{FaultKind}
use Rattle.script_parser.specs.declared.faults.FaultKind.TheVariants as faults
use Rattle.script_parser.specs.Grammar.{◌>>=◌, Reading, words_of, command_of, is_format_word, format_of}
use Rattle.grow_script.specs.GrowGrammar.{is_on_two, is_of_set, is_misnamed, with_name, only_format, grow_command, grow_format, grow_first}

-- a command that is read, if one is
abbrev pub Grows : Reading → Type 0
Grows reading = IfOk reading (λ read. MatchOption read ⊤ (λ command. is_of_set command ≡ true))

-- what is read past another name is none
kept : (words : List (List ℕ)) (reading : Reading) → Grows (with_name words reading)
kept words (Ok (Some command)) = by (is_of_set command) refl
  where
    by : (b : Bool) → is_of_set command ≡ b → Grows (cond (not b) (Err faults.Name) (Ok (Some command)))
    by true is = is
    by false is = tt
kept words (Ok None) = tt
kept words (Err kind) = by (is_misnamed words (Err kind))
  where
    by : (b : Bool) → Grows (cond b (Err faults.Name) (Err kind))
    by true = tt
    by false = tt

command_grows : (words : List (List ℕ)) → Grows (grow_command words)
unfolding grow_command
command_grows [] = tt
command_grows (word ∷ words) = by (is_on_two word)
  where
    by : (b : Bool) → Grows (cond b (Err faults.Word) (with_name words (command_of 1 (word ∷ words))))
    by true = tt
    by false = kept words (command_of 1 (word ∷ words))

format_grows : (words : List (List ℕ)) → Grows (grow_format words)
format_grows words = by (format_of words)
  where
    one : (b : Bool) → Grows (cond b (Ok None) (Err faults.Format))
    one true = tt
    one false = tt

    by : (reading : Result ℕ FaultKind) → Grows (reading >>= only_format)
    by (Ok format) = one (format == 1)
    by (Err kind) = tt

first_grows : (words : List (List ℕ)) → Grows (grow_first words)
first_grows [] = tt
first_grows (word ∷ words) = by (is_format_word word)
  where
    by : (b : Bool) → Grows (cond b (grow_format words) (grow_command (word ∷ words)))
    by true = format_grows words
    by false = command_grows (word ∷ words)

pub first_reads : (line : List ℕ) (read : Reading) → read ≡ grow_first (words_of line)
    → IfOk read (λ command. MatchOption command ⊤ (λ c. is_of_set c ≡ true))
first_reads line read is = subst Grows (sym is) (first_grows (words_of line))

pub command_reads : (line : List ℕ) (read : Reading) → read ≡ grow_command (words_of line)
    → IfOk read (λ command. MatchOption command ⊤ (λ c. is_of_set c ≡ true))
command_reads line read is = subst Grows (sym is) (command_grows (words_of line))
