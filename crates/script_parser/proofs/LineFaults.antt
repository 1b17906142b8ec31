-- What is wrong with a line is never that it has one command too many, nor its format.
use Rattle.std.proofs.Common.{◌≡◌, ◌≢◌, ℕ, ◌+◌, ◌-◌, Bool, true, false, cond, List, [], ◌∷◌, Result, Ok, Err, IfErr, ◌==◌, nat_le, ◌&&◌, subst}
use Rattle.std.specs.Char.{is_ascii_digit}
use Rattle.std.specs.Str.Parse.{digits_value}
use Rattle.set_model.specs.declared.commands.Command.TheVariants as commands
use Rattle.script_parser.specs.declared.faults.FaultKind.{FaultKind}
use Rattle.script_parser.specs.declared.faults.FaultKind.TheVariants as faults
use Rattle.script_parser.specs.declared.line.Verb.{Verb}
use Rattle.script_parser.specs.declared.line.Verb.TheVariants.{Add, Put, Del, Has, Get, Move, Pair, Size, Next}
use Rattle.script_parser.specs.Grammar.{◌>>=◌, command_with, one_of, two_of, three_of, set_of, set_key_of, set_key_value_of, sets_key_of, move_of}
use Rattle.script_parser.specs.Grammar.{name_of, letter_of, is_numeral, key_of, value_of}

-- a fault that a line has by itself
abbrev pub IsOfLine : FaultKind → Type 0
IsOfLine kind = (kind ≢ faults.Many) × (kind ≢ faults.Format)

-- what is read is no other fault
abbrev FailsInLine : {A : Type 0} → Result A FaultKind → Type 0
FailsInLine reading = IfErr reading IsOfLine

-- one reading after another, and a test
then : {A B : Type 0} (reading : Result A FaultKind) (f : A → Result B FaultKind) → FailsInLine reading → ((x : A) → FailsInLine (f x))
    → FailsInLine (reading >>= f)
then (Ok x) f first more = more x
then (Err kind) f first more = first

either : {A : Type 0} (b : Bool) (x : A) (kind : FaultKind) → IsOfLine kind → FailsInLine (cond b (Ok x) (Err kind))
either true x kind fault = tt
either false x kind fault = fault

-- the five faults behind the first word
count : IsOfLine faults.Count
count = ((λ e. absurd (cc)), (λ e. absurd (cc)))

name : IsOfLine faults.Name
name = ((λ e. absurd (cc)), (λ e. absurd (cc)))

key : IsOfLine faults.Key
key = ((λ e. absurd (cc)), (λ e. absurd (cc)))

value : IsOfLine faults.Value
value = ((λ e. absurd (cc)), (λ e. absurd (cc)))

same : IsOfLine faults.Same
same = ((λ e. absurd (cc)), (λ e. absurd (cc)))

-- the words, each part of a command, and the command
one : (words : List (List ℕ)) → FailsInLine (one_of words)
one [] = count
one (a ∷ []) = tt
one (a ∷ b ∷ words) = count

two : (words : List (List ℕ)) → FailsInLine (two_of words)
two [] = count
two (a ∷ []) = count
two (a ∷ b ∷ []) = tt
two (a ∷ b ∷ c ∷ words) = count

three : (words : List (List ℕ)) → FailsInLine (three_of words)
three [] = count
three (a ∷ []) = count
three (a ∷ b ∷ []) = count
three (a ∷ b ∷ c ∷ []) = tt
three (a ∷ b ∷ c ∷ d ∷ words) = count

letters : (l h t : Bool) → FailsInLine {A = ℕ} (cond l (Ok 0) (cond h (Ok 10) (cond t (Ok 20) (Err faults.Name))))
letters true h t = tt
letters false true t = tt
letters false false true = tt
letters false false false = name

named : (word : List ℕ) → FailsInLine (name_of word)
named [] = name
named (a ∷ []) = name
named (a ∷ b ∷ []) =
    then (letter_of a) (λ first. cond (is_ascii_digit b) (Ok (first + (b - 48))) (Err faults.Name)) (letters (a == 108) (a == 104) (a == 116))
    (λ first. either (is_ascii_digit b) (first + (b - 48)) faults.Name name)
named (a ∷ b ∷ c ∷ word) = name

keyed : (word : List ℕ) → FailsInLine (key_of word)
keyed word = either (is_numeral 10 word && nat_le (digits_value 10 word) 4294967295) (digits_value 10 word) faults.Key key

valued : (word : List ℕ) → FailsInLine (value_of word)
valued word = either (is_numeral 20 word && nat_le (digits_value 10 word) 18446744073709551615) (digits_value 10 word) faults.Value value

set : (words : List (List ℕ)) → FailsInLine (set_of words)
set words = then (one_of words) _ (one words) (λ w. named w)

set_key : (words : List (List ℕ)) → FailsInLine (set_key_of words)
set_key words = then (two_of words) _ (two words) (λ w. then (name_of w.0) _ (named w.0) (λ n. then (key_of w.1) _ (keyed w.1) (λ k. tt)))

set_key_value : (words : List (List ℕ)) → FailsInLine (set_key_value_of words)
set_key_value words =
    then (three_of words) _ (three words)
    (λ w. then (name_of w.0) _ (named w.0) (λ n. then (key_of w.1) _ (keyed w.1) (λ k. then (value_of w.2) _ (valued w.2) (λ v. tt))))

sets_key : (words : List (List ℕ)) → FailsInLine (sets_key_of words)
sets_key words =
    then (three_of words) _ (three words)
    (λ w. then (name_of w.0) _ (named w.0) (λ n. then (name_of w.1) _ (named w.1) (λ m. then (key_of w.2) _ (keyed w.2) (λ k. tt))))

moved : (m : ℕ × ℕ × ℕ) → FailsInLine (move_of m)
moved m = cases (m.0 == m.1)
  where
    cases : (b : Bool) → FailsInLine (cond b (Err faults.Same) (Ok (commands.Move m.0 m.1 m.2)))
    cases true = same
    cases false = tt

command : (verb : Verb) (words : List (List ℕ)) → FailsInLine (command_with verb words)
command Add words = then (set_key_of words) _ (set_key words) (λ x. tt)
command Put words = then (set_key_value_of words) _ (set_key_value words) (λ x. tt)
command Del words = then (set_key_of words) _ (set_key words) (λ x. tt)
command Has words = then (set_key_of words) _ (set_key words) (λ x. tt)
command Get words = then (set_key_of words) _ (set_key words) (λ x. tt)
command Move words = then (sets_key_of words) _ (sets_key words) moved
command Pair words = then (sets_key_of words) _ (sets_key words) (λ x. tt)
command Size words = then (set_of words) _ (set words) (λ x. tt)
command Next words = then (set_key_of words) _ (set_key words) (λ x. tt)

-- the fault of a command's words
pub fault_of_line : (verb : Verb) (words : List (List ℕ)) (kind : FaultKind) → command_with verb words ≡ Err kind → IsOfLine kind
fault_of_line verb words kind e = subst (λ reading. IfErr reading IsOfLine) e (command verb words)
