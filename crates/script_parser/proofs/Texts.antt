-- Commands are read back from their text.
use Rattle.std.proofs.Common.{◌≡◌, ℕ, ◌≤◌, nat_le, true, false, List, [], ◌∷◌, ◌++◌, length, Some, None, Ok, codes, decimal}
use Rattle.std.proofs.Common.{inl, inr, refl, ap, sym, ◌∙◌, subst, append_assoc, arith}
use Rattle.std.specs.List.{All, AllByRecursion, list_all}
use Rattle.std.proofs.lemmas.Bool.{cases_lt}
use Rattle.std.proofs.lemmas.Bool.Decides.{nat_tests}
use Rattle.std.proofs.lemmas.Fmt.{decimal_digit}
use Rattle.std.proofs.lemmas.List.Elements.{All-weaker}
use Rattle.std.proofs.lemmas.List.Splits.{slice_split_at}
use Rattle.std.proofs.lemmas.List.Sums.{AllPass-from_list_all}
use Rattle.set_model.specs.declared.commands.Command.{Command}
use Rattle.set_model.specs.declared.script.TheConstants.{MOST_COMMANDS}
use Rattle.script_parser.specs.Formats.{IsFormat}
use Rattle.script_parser.specs.Grammar.{is_line_end, Reading, readings_in, reading_in, format_after, command_of, lines_of, parsed}
use Rattle.script_parser.specs.GrammarLaws.{AreRead, commands_in, line_text, script_text, format_text, spaced, MaySay}
use Rattle.script_parser.proofs.LineTexts.{line_printed, line_back, first_back, first_plain}
use Rattle.script_parser.proofs.Scripts.{parsed-from_script}

-- what is read of each line of commands; the last line is empty
abbrev pub readings_back : List Command → List Reading
readings_back [] = Ok None ∷ []
readings_back (command ∷ commands) = Ok (Some command) ∷ readings_back commands

all_read : (commands : List Command) → AreRead (readings_back commands)
all_read [] = tt
all_read (command ∷ commands) = all_read commands

all_back : (commands : List Command) → commands ≡ commands_in (readings_back commands)
all_back [] = refl
all_back (command ∷ commands) = ap (λ cs. command ∷ cs) (all_back commands)

no_end : (bytes : List ℕ) → All (λ b. 32 ≤ b) bytes → All (λ b. is_line_end b ≡ false) bytes
no_end bytes printed = All-weaker (λ b. 32 ≤ b) (λ b. is_line_end b ≡ false) (λ b h. grind (arith, nat_tests)) bytes printed

-- the first line of a text, and the others
first_line : (line rest : List ℕ) → All (λ b. 32 ≤ b) line → lines_of ((line ++ codes "\n") ++ rest) ≡ line ∷ lines_of rest
first_line line rest printed = ap lines_of (append_assoc line (10 ∷ []) rest) ∙ slice_split_at is_line_end line 10 rest (no_end line printed) refl

-- what holds of both lines on a format
abbrev format_line : ℕ → List ℕ
format_line format = spaced (codes "format") (decimal format ∷ [])

both_lines : (P : ℕ → List ℕ → Type 0) → P 1 (codes "format 1") → P 2 (codes "format 2") → (format : ℕ) → IsFormat format → P format (format_line format)
both_lines P one two format known = elim (cases_lt format 2) [
  | inl low ↦
      let e : 1 ≡ format = omega (arith, known.0) in
      subst (λ f. P f (format_line f)) e (subst (P 1) (ap (λ d. spaced (codes "format") (d ∷ [])) (sym (decimal_digit 1 (omega arith)))) one)
  | inr high ↦
      let e : 2 ≡ format = omega (arith, known.1) in
      subst (λ f. P f (format_line f)) e (subst (P 2) (ap (λ d. spaced (codes "format") (d ∷ [])) (sym (decimal_digit 2 (omega arith)))) two)
]

at_least_32 : (bytes : List ℕ) → list_all (nat_le 32) bytes ≡ true → All (λ b. 32 ≤ b) bytes
at_least_32 bytes all = All-weaker (λ b. nat_le 32 b ≡ true) (λ b. 32 ≤ b) (λ b h. grind (arith, nat_tests)) bytes (AllPass-from_list_all (nat_le 32) bytes all)

format_printed : (format : ℕ) → IsFormat format → All (λ b. 32 ≤ b) (format_line format)
format_printed = both_lines (λ f line. All (λ b. 32 ≤ b) line) (at_least_32 (codes "format 1") refl) (at_least_32 (codes "format 2") refl)

format_back : (format : ℕ) → IsFormat format → reading_in None (format_line format) ≡ Ok None
format_back = both_lines (λ f line. reading_in None line ≡ Ok None) refl refl

format_known : (format : ℕ) → IsFormat format → format_after None (format_line format) ≡ Some format
format_known = both_lines (λ f line. format_after None line ≡ Some f) refl refl

-- in a format that is known
script_back : (format : ℕ) (commands : List Command) → AllByRecursion (MaySay format) commands
    → readings_in (Some format) (lines_of (script_text commands)) ≡ readings_back commands
unfolding command_of
script_back format [] ok = refl
script_back format (command ∷ commands) ok =
    ap (readings_in (Some format)) (first_line (line_text command) (script_text commands) (line_printed format command ok.0))
    ∙ ap (λ r. r ∷ readings_in (Some format) (lines_of (script_text commands))) (line_back format command ok.0)
    ∙ ap (λ rs. Ok (Some command) ∷ rs) (script_back format commands ok.1)

-- in format 1, before any line with words
plain_back : (commands : List Command) → AllByRecursion (MaySay 1) commands → readings_in None (lines_of (script_text commands)) ≡ readings_back commands
unfolding command_of
plain_back [] ok = refl
plain_back (command ∷ commands) ok =
    ap (readings_in None) (first_line (line_text command) (script_text commands) (line_printed 1 command ok.0))
    ∙ ap (λ r. r ∷ readings_in (format_after None (line_text command)) (lines_of (script_text commands))) (first_back command ok.0)
    ∙ ap (λ f. Ok (Some command) ∷ readings_in f (lines_of (script_text commands))) (first_plain command ok.0)
    ∙ ap (λ rs. Ok (Some command) ∷ rs) (script_back 1 commands ok.1)

-- behind a line on the format
headed_back : (format : ℕ) (commands : List Command) → IsFormat format → AllByRecursion (MaySay format) commands
    → readings_in None (lines_of (format_text format ++ script_text commands)) ≡ Ok None ∷ readings_back commands
headed_back format commands known ok =
    ap (readings_in None) (first_line (spaced (codes "format") (decimal format ∷ [])) (script_text commands) (format_printed format known))
    ∙ ap (λ r. r ∷ readings_in (format_after None (spaced (codes "format") (decimal format ∷ []))) (lines_of (script_text commands))) (format_back format known)
    ∙ ap (λ f. Ok None ∷ readings_in f (lines_of (script_text commands))) (format_known format known)
    ∙ ap (λ rs. Ok None ∷ rs) (script_back format commands ok)

pub commands_back : (commands : List Command) → AllByRecursion (MaySay 1) commands → length commands ≤ MOST_COMMANDS
    → parsed (script_text commands) ≡ Ok commands
commands_back commands ok few =
    let back = plain_back commands ok in
    parsed-from_script (script_text commands) commands (record {
      read = subst AreRead (sym back) (all_read commands);
      commands_are = all_back commands ∙ ap commands_in (sym back);
      few = few;
    })

pub headed_commands_back : (format : ℕ) (commands : List Command) → IsFormat format → AllByRecursion (MaySay format) commands
    → length commands ≤ MOST_COMMANDS → parsed (format_text format ++ script_text commands) ≡ Ok commands
headed_commands_back format commands known ok few =
    let back = headed_back format commands known ok in
    parsed-from_script (format_text format ++ script_text commands) commands (record {
      read = subst AreRead (sym back) (all_read commands);
      commands_are = all_back commands ∙ ap commands_in (sym back);
      few = few;
    })
